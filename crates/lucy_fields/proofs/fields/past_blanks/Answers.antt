use Rattle.std.proofs.Common.{sym, ◌∙◌, arith}
use Rattle.lucy_fields.proofs.FieldLaws.{blank_at}
use Rattle.lucy_fields.proofs.fields.past_blanks.Goals as goal

pub blanks-preserved : goal.blanks-preserved
blanks-preserved c = record {
  within = omega (arith, c.blanks-test.true);
  same = blank_at c.args.text.now c.blanks.at c.blanks-test.true (sym c.is_blank.ensures ∙ c.if-is_blank.true) ∙ c.blanks.invariant.same;
}
