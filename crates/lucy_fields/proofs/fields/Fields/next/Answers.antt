use Rattle.std.proofs.Common.{ℕ, List, ◌<◌, sym, ◌∙◌, arith, subst, drop}
use Rattle.lucy_fields.specs.Steps.{BeginsGap, BeginsField}
use Rattle.lucy_fields.proofs.FieldLaws.{field_at, nothing_left}
use Rattle.lucy_fields.proofs.fields.Fields.next.Goals as goal

pub returns-then-end-from-clause-none : goal.returns-then-end-from-clause-none
returns-then-end-from-clause-none c =
    let text : List ℕ = c.self.inside.text.now in
    let from : ℕ = c.past_blanks-from.result in
    let end : ℕ = c.past_field-end.result in
    let gap : BeginsGap (drop from text) = subst (λ n. BeginsGap (drop n text)) c.if-end-from.true c.past_field-end.ensures.stops in
    let field : BeginsField (drop end text) = subst (λ n. BeginsField (drop n text)) (sym c.if-end-from.true) c.past_blanks-from.ensures.stops in
    λ e. (
      sym c.self.view_is ∙ sym c.past_blanks-from.ensures.same ∙ nothing_left from (drop from text) gap c.past_blanks-from.ensures.stops,
      nothing_left end (drop end text) c.past_field-end.ensures.stops field,
    )

pub returns-clause-some : goal.returns-clause-some
returns-clause-some c =
    let past = c.past_field-end.ensures in
    let some : c.past_blanks-from.result < c.past_field-end.result = omega (arith, past.from_there, c.if-end-from.false) in
    sym c.self.view_is ∙ sym c.past_blanks-from.ensures.same
    ∙ field_at c.self.inside.text.now c.past_blanks-from.result c.past_field-end.result some past.within past.full past.stops
