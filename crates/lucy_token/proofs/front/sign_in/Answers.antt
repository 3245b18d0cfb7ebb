use Rattle.std.proofs.Common.{eqb, get_or, length, sym, ap, ◌∙◌}
use Rattle.std.specs.List.{starts_with}
use Rattle.lucy_token.specs.declared.mark.Mark.TheVariants as mark
use Rattle.lucy_token.specs.declared.token.Kind.TheVariants as kind
use Rattle.lucy_token.specs.declared.front.Front.TheVariants.{Token}
use Rattle.lucy_token.proofs.MarkSteps.{sign_more, sign_found}
use Rattle.lucy_token.proofs.front.sign_in.Goals as goal

pub returns-then-starts_with : goal.returns-then-starts_with
returns-then-starts_with c =
    ap (λ u. Token (kind.Mark (get_or c.args.marks.now c.loop-mark.mark-index mark.Let)) (length u)) (c.as_bytes-sign.ensures.value ∙ c.text.ensures)
    ∙ sym (sign_found c.args.marks.now c.args.text.now c.loop-mark.mark-index mark.Let c.loop-mark-test.true
    (ap (starts_with eqb c.args.text.now) (sym (c.as_bytes-sign.ensures.value ∙ c.text.ensures)) ∙ sym c.starts_with.ensures.value ∙ c.if-starts_with.true))
    ∙ c.loop-mark.invariant

pub loop-mark-preserved : goal.loop-mark-preserved
loop-mark-preserved c =
    sign_more c.args.marks.now c.args.text.now c.loop-mark.mark-index mark.Let c.loop-mark-test.true
    (ap (starts_with eqb c.args.text.now) (sym (c.as_bytes-sign.ensures.value ∙ c.text.ensures)) ∙ sym c.starts_with.ensures.value ∙ c.if-starts_with.false) ∙ c.loop-mark.invariant
