use Rattle.std.proofs.Common.{sym, ap, ◌∙◌}
use Rattle.std.specs.Str.{bytes_eq}
use Rattle.lucy_token.specs.declared.mark.Mark.TheVariants as mark
use Rattle.lucy_token.proofs.MarkSteps.{named_more}
use Rattle.lucy_token.proofs.front.named_in.Goals as goal

pub loop-mark-preserved : goal.loop-mark-preserved
loop-mark-preserved c =
    named_more c.args.marks.now c.args.bytes.now c.loop-mark.mark-index mark.Let c.loop-mark-test.true
    (ap (bytes_eq c.args.bytes.now) (sym (c.as_bytes.ensures.value ∙ c.text.ensures)) ∙ sym c.eq.ensures ∙ c.if-eq.false) ∙ c.loop-mark.invariant
