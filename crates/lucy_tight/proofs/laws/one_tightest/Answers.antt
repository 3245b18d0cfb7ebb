use Rattle.lucy_tight.proofs.OneTightening.{tightened_alike, tightened_kept, refused_only}
use Rattle.lucy_tight.proofs.OneTightest.{least_once}
use Rattle.lucy_tight.proofs.laws.one_tightest.Goals as goal

pub returns : goal.returns
returns c = record {
  least = least_once;
  alike = λ ops text a o node buffer one two accepted. tightened_alike a o node buffer ops text accepted one two;
  kept = λ a o node buffer. tightened_kept a o node buffer;
  only = λ a o node buffer. refused_only a o node buffer;
}
