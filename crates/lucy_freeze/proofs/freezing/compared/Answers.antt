use Rattle.std.proofs.Common.{ℕ, List, sym, subst}
use Rattle.std.proofs.lemmas.Result.{IfOk-weaker, IfErr-weaker}
use Rattle.lucy_program.specs.Accepting.{IsAccepted}
use Rattle.lucy_freeze.specs.declared.freezing.Frozen.{Frozen}
use Rattle.lucy_freeze.specs.Freezing.{all_written, IsFrozen}
use Rattle.lucy_freeze.proofs.freezing.compared.Goals as goal

pub returns-in-Ok-clause-ok : goal.returns-in-Ok-clause-ok
returns-in-Ok-clause-ok c =
    let checked = subst (λ (t : List ℕ). IsAccepted c.args.ops.now (all_written c.args.options.now) t c.in-Ok.again) c.deref.ensures.value c.in-Ok.ensures.ok in
    IfOk-weaker c.confirmed.result _ _
    (λ f h. subst (λ (f : Frozen). IsFrozen c.args.ops.now c.args.options.now c.args.text.now f.text.items f.program) (sym h.0) (record { program = c.args.program.now; accepted = c.requires.accepted; checked = checked; same = h.1 }))
    c.confirmed.ensures.ok

pub returns-in-Ok-clause-refused : goal.returns-in-Ok-clause-refused
returns-in-Ok-clause-refused c = IfErr-weaker c.confirmed.result _ _ (λ e h. h _ _ _ c.requires.accepted) c.confirmed.ensures.refused
