use Rattle.std.proofs.Common.{◌≡◌, subst, sym, ◌∙◌}
use Rattle.std.specs.Prelude.{None, IfSome}
use Rattle.lucy_host.specs.Operators.{kinds_of}
use Rattle.lucy_core.specs.Seen.{Seen, CanStep, IsOver}
use Rattle.lucy_core.proofs.InsideLaws.{machine_of_fields}
use Rattle.lucy_core.proofs.PickLaws.{first_can, first_over}
use Rattle.lucy_core.proofs.machine.Core.pick.Goals as goal

pub returns-clause-possible : goal.returns-clause-possible
returns-clause-possible c =
    let x = c.self.inside in
    subst (λ (s : Seen). IfSome c.next.result (λ a. CanStep s a)) c.self.view_is
    (first_can x.net _ _ x.inputs (kinds_of x.ops) x.instants _ _ _ _ (machine_of_fields x c.self.invariant) c.self.invariant.1 c.next.result (sym (c.next.ensures ∙ c.self.invariant.4)))

pub returns-clause-none : goal.returns-clause-none
returns-clause-none c =
    let x = c.self.inside in
    subst (λ (s : Seen). ((c.next.result ≡ None) → IsOver s) × (IsOver s → (c.next.result ≡ None))) c.self.view_is
    (first_over x.net _ _ x.inputs (kinds_of x.ops) x.instants _ _ _ _ (machine_of_fields x c.self.invariant) c.self.invariant.1 c.next.result (sym (c.next.ensures ∙ c.self.invariant.4)))
