use Rattle.std.proofs.Common.{sym, ◌∙◌, arith}
use Rattle.lucy_fields.proofs.FieldLaws.{full_more}
use Rattle.lucy_fields.proofs.fields.past_field.Goals as goal

pub field-preserved : goal.field-preserved
field-preserved c = record {
  from_there = omega (arith, c.field.invariant.from_there);
  within = omega (arith, c.field-test.true);
  full = full_more c.args.text.now c.field.at c.field-test.true c.args.from c.field.invariant.from_there c.field.invariant.full (sym c.is_blank.ensures ∙ c.if-not-is_blank.true);
}
