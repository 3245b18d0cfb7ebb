use Rattle.std.proofs.Common.{◌≡◌, ◌↔◌, Bool, true, false, not, Option, Some, None, is_some, IsTrue, refl}
use Rattle.lucy_tree.specs.declared.span.Span.{Span}
use Rattle.lucy_place.proofs.placed.Placed.is_written.Goals as goal

none_true : (span : Option Span) (b : Bool) → is_some span ≡ not b → IsTrue b ↔ (span ≡ None)
none_true None true e = (λ h. refl, λ h. refl)
none_true None false e = cc
none_true (Some s) true e = cc
none_true (Some s) false e = (λ h. cc, λ h. cc)

pub returns-clause-tables : goal.returns-clause-tables
returns-clause-tables c n g =
    let told = c.first_unwritten.ensures.tables n g in
    let none = none_true c.first_unwritten.result c.is_none.result c.is_none.ensures in
    (λ h. told.0 (none.0 h), λ h. none.1 (told.1 h))
