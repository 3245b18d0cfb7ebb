use Rattle.lucy_kahn.proofs.ByNumber.{causal_places, causal_program}
use Rattle.lucy_flat.proofs.MeaningLaws.{causal_net, causal_numbered}
use Rattle.lucy_flat.proofs.laws.flat_nets_are_causal_as_programs.Goals as goal

pub returns : goal.returns
returns c = λ nodes clocks net proper flat. (
  λ causal. causal_net nodes clocks net proper flat (causal_places nodes proper causal),
  λ causal. causal_program nodes proper (causal_numbered nodes clocks net proper flat causal),
)
