use Rattle.std.proofs.Common.{refl}
use Rattle.lucy_word.specs.Packing.{unpacked}
use Rattle.lucy_word.proofs.packed.Packed.new.Goals as goal

pub returns : goal.returns
unfolding unpacked
returns c = refl
