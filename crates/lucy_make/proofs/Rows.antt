-- The program of four stages and the first lines of the input, as they are spelled, and a sum that passes 64 bits.
use Rattle.std.proofs.Common.{◌≡◌, ℕ, ◌-◌, ◌^◌, pos, negsuc, List, [], ◌∷◌, codes, refl}
use Rattle.std.specs.Fmt.{digits}
use Rattle.std.specs.Int.{int_wrap}
use Rattle.lucy_make.specs.Text.{made_text, made_lines}
use Rattle.lucy_make.specs.Figures.{sum_of}

four : List ℕ
four =
    codes "let node made x = y4 where rec\n  y1 = x + 1\n  and y2 = y1 + (0 fby y1)\n  and y3 = merge (01) (buffer (y2 when (10))) (buffer (y2 when (01)))\n  and y4 = if y3 < 400 then y3 else y3 - 4\n"

made_four : made_text 4 ≡ four
unfolding digits four
made_four = refl

two_items : made_lines 2 ≡ codes "x 1\nx 2\n"
unfolding digits made_lines
two_items = refl

-- the greatest number and one more are the least
passed : sum_of (pos (2 ^ 63 - 1) ∷ pos 1 ∷ []) ≡ negsuc (2 ^ 63 - 1)
unfolding int_wrap
passed = refl
