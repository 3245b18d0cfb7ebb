use Rattle.std.proofs.Common.{length, subst, refl, inr, arith}
use Rattle.std.proofs.lemmas.Result.{IfOk-weaker}
use Rattle.lucy_flat.specs.Assembly.{AreRingsHeld}
use Rattle.lucy_flat.proofs.HeldLaws.{net_past, all_held, held_fit}
use Rattle.lucy_flat.proofs.assemble.assemble.Goals as goal

pub returns-then-bits-number-clause-refused : goal.returns-then-bits-number-clause-refused
returns-then-bits-number-clause-refused c =
    let are = subst (λ t. AreRingsHeld t (length t) c.in_ok-rings.field-0) c.deref.ensures.value c.in_ok-rings.ensures.ok in
    let past = c.if-bits-number.true in
    let number = c.number.ensures in
    inr (inr (refl, net_past c.args.drafts.items c.in_ok-rings.field-0 c.requires are (omega arith)))

pub joined-requires-clause-rings : goal.joined-requires-clause-rings
joined-requires-clause-rings c =
    let are = subst (λ t. AreRingsHeld t (length t) c.in_ok-rings.field-0) c.deref.ensures.value c.in_ok-rings.ensures.ok in
    let few = c.if-bits-number.false in
    let number = c.number.ensures in
    all_held c.args.drafts.items c.in_ok-rings.field-0 are (omega arith)

pub returns-clause-fits : goal.returns-clause-fits
returns-clause-fits c =
    let are = subst (λ t. AreRingsHeld t (length t) c.in_ok-rings.field-0) c.deref.ensures.value c.in_ok-rings.ensures.ok in
    IfOk-weaker c.joined.result _ _ (λ net is. held_fit c.args.drafts.items c.in_ok-rings.field-0 are) c.joined.ensures.ok
