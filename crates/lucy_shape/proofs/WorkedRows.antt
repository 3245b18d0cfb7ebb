-- A worked row: `o = merge (10) x (buffer x)` in a shape of period 2, whose buffer is written on x and read on its own clock.
use Rattle.std.proofs.Common.{◌≡◌, false, true, List, [], ◌∷◌, map, pos, ap, ◌∙◌, refl}
use Rattle.std.specs.List.{range_with_len}
use Rattle.lucy_shape.specs.declared.shape.ClockShape.{ClockShape}
use Rattle.lucy_shape.specs.Sized.{size_row, size_rows}
use Rattle.lucy_shape.proofs.SizeLaws.{alone_instances}

-- the base, which has no positions, x, o and the buffer's own clock
abbrev clocks : List ClockShape
clocks = record { used = false; lead = 0; ones = 0; first = 0 } ∷ record { used = true; lead = 0; ones = 1; first = 1 } ∷
    record { used = true; lead = 0; ones = 2; first = 2 } ∷ record { used = true; lead = 0; ones = 1; first = 4 } ∷ []

-- where nothing may wait the buffer's one stands no later than that of x
none_waits : size_rows 2 clocks 1 3 0 ≡ record { left = 4; right = 1; most = pos 0 } ∷ []
none_waits = ap (λ n. map (size_row 2 clocks 1 3 0) (range_with_len 1 n)) (alone_instances clocks 1 3) ∙ refl

-- where one may wait, no later than the next one of x, which is the same one a period later
one_waits : size_rows 2 clocks 1 3 1 ≡ record { left = 4; right = 1; most = pos 2 } ∷ []
one_waits = ap (λ n. map (size_row 2 clocks 1 3 1) (range_with_len 1 n)) (alone_instances clocks 1 3) ∙ refl
