use Rattle.std.proofs.Common.{subst, sym, ◌∙◌}
use Rattle.std.proofs.lemmas.Bool.{eq-eqb, eqb-true}
use Rattle.lucy_host.specs.Operators.{kinds_of}
use Rattle.lucy_core.specs.Seen.{IsOver}
use Rattle.lucy_core.proofs.CountingLaws.{none_going, going_none}
use Rattle.lucy_core.proofs.InsideLaws.{machine_of_fields}
use Rattle.lucy_core.proofs.PickLaws.{all_over, over_all}
use Rattle.lucy_core.proofs.machine.Core.finished.Goals as goal

pub returns : goal.returns
returns c =
    let x = c.self.inside in (
      λ h. subst IsOver c.self.view_is (all_over x.net _ _ x.inputs (kinds_of x.ops) x.instants _ _ _ _ (machine_of_fields x c.self.invariant) c.self.invariant.1 (none_going x.states.items (sym c.self.invariant.2 ∙ eqb-true x.going 0 h))),
      λ over. eq-eqb x.going 0 (c.self.invariant.2 ∙ going_none x.states.items (over_all x.net _ _ x.inputs (kinds_of x.ops) x.instants _ _ _ _ (machine_of_fields x c.self.invariant) c.self.invariant.1 (subst IsOver (sym c.self.view_is) over))),
    )
