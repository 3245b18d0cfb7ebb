use Rattle.std.proofs.Common.{◌≡◌, Some, None, refl, sym, ◌∙◌}
use Rattle.lucy_host.proofs.OpsLaws.{entry_found, found, finds, is_there}
use Rattle.lucy_host.proofs.ops.Ops.find.Goals as goal

pub returns-in-Some-clause-is : goal.returns-in-Some-clause-is
returns-in-Some-clause-is c = entry_found _ _ c.args.name.now _ c.self.view_is (rw (← c.deref.ensures.value) c.in-Some.ensures)

pub returns-in-Some-clause-none : goal.returns-in-Some-clause-none
returns-in-Some-clause-none c = ((λ e. cc), λ n. absurd (n (is_there _ _ _ (sym (returns-in-Some-clause-is c)))))

pub returns-in-Some-clause-named : goal.returns-in-Some-clause-named
returns-in-Some-clause-named c = (found _ _ _ (sym (returns-in-Some-clause-is c))).1

pub returns-in-None-clause-is : goal.returns-in-None-clause-is
returns-in-None-clause-is c = entry_found _ _ c.args.name.now _ c.self.view_is (rw (← c.deref.ensures.value) c.in-None.ensures)

pub returns-in-None-clause-none : goal.returns-in-None-clause-none
returns-in-None-clause-none c = ((λ e h. let f = finds _ _ h in let e : None ≡ Some f.0 = returns-in-None-clause-is c ∙ f.1 in cc), λ n. refl)
