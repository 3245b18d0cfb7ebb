use Rattle.std.proofs.Common.{refl}
use Rattle.lucy_lines.specs.Cuts.{At, Before}
use Rattle.lucy_lines.proofs.CutLaws.{cut_stopped, cut_more}
use Rattle.lucy_lines.proofs.cut_laws.cut_in_pieces.Goals as goal

pub returns : goal.returns
returns c = λ inputs closed h bytes items. (
  λ f d. cut_stopped closed bytes (At f) refl d,
  λ g others stop p q. cut_more closed bytes (Before g) refl p q,
)
