use Rattle.lucy_stream.proofs.KahnLaws.{kahn_finished_gave, kahn_finished_took}
use Rattle.lucy_stream.proofs.kahn.finished_states_hold_kahn_streams.Goals as goal

pub returns : goal.returns
returns c = record {
  gave = λ kinds inputs plan count most order s r task able whole state finished e once.
      kahn_finished_gave kinds inputs plan count most order s r task able whole state finished e once;
  took = λ kinds inputs plan count most order s r j task able whole state finished e operand.
      kahn_finished_took kinds inputs plan count most order s r j task able whole state finished e operand;
}
