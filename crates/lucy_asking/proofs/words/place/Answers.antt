use Rattle.std.proofs.Common.{refl}
use Rattle.lucy_asking.specs.Asks.{Seeks}
use Rattle.lucy_asking.proofs.Rows.{of_text}
use Rattle.lucy_asking.proofs.words.place.Goals as goal

pub returns-clause-says : goal.returns-clause-says
returns-clause-says c = record {
  name_is = refl;
  says = (c.in_ok-text.ensures, c.text-3.ensures, of_text _ c.in_ok-text-2.field-0.now (λ t. Seeks t c.sought.result) c.in_ok-text-2.ensures c.sought.ensures);
  within = tt;
}
