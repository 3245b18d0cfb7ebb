use Rattle.std.proofs.Common.{ap, sym, ◌∙◌}
use Rattle.lucy_word.specs.Packing.{is_set}
use Rattle.lucy_word.proofs.PackedLaws.{ones_set}
use Rattle.lucy_word.proofs.packed.run.Goals as goal

pub returns-then-bit-clause-bits : goal.returns-then-bit-clause-bits
returns-then-bit-clause-bits c i h = ap (λ x. is_set x i) c.cut.ensures ∙ ones_set c.args.n i c.requires h ∙ sym c.if-bit.true
