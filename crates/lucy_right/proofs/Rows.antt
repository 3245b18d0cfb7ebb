-- The lines of a short input.
use Rattle.std.proofs.Common.{◌≡◌, [], ◌∷◌, refl}
use Rattle.std.specs.Prelude.{codes}
use Rattle.std.specs.Str.Lines.{lines}

-- three lines, of which one is empty and the last lacks its end
three_lines : lines (codes "x 1\r\n\nx 2") ≡ codes "x 1" ∷ [] ∷ codes "x 2" ∷ []
three_lines = refl

-- what stands behind the last line feed is no line where it is empty, and keeps a carriage return where it isn't
ended_lines : lines (codes "x 1\nx 2\n") ≡ codes "x 1" ∷ codes "x 2" ∷ []
ended_lines = refl

open_line : lines (codes "x 1\nx 2\r") ≡ codes "x 1" ∷ codes "x 2\r" ∷ []
open_line = refl

no_lines : lines [] ≡ []
no_lines = refl
