use Rattle.std.proofs.Common.{cond, not, ap, sym, ◌∙◌}
use Rattle.lucy_word.specs.Packing.{is_set}
use Rattle.lucy_word.proofs.LimbLaws.{set_turned}
use Rattle.lucy_word.proofs.print.others.Goals as goal

pub returns-then-bit : goal.returns-then-bit
returns-then-bit c i h =
    set_turned c.args.limb i c.ranges.limb.fits h ∙ sym (ap (λ b. cond b (not (is_set c.args.limb i)) (is_set c.args.limb i)) c.if-bit.true)

pub returns-else-bit : goal.returns-else-bit
returns-else-bit c i h = sym (ap (λ b. cond b (not (is_set c.args.limb i)) (is_set c.args.limb i)) c.if-bit.false)
