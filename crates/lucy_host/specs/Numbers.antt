-- The numbers of 64 bits in two's complement: those from -(2 ^ 63) to 2 ^ 63 - 1.
use Rattle.std.specs.Prelude.{ℤ, pos, neg_ℤ, ◌^◌}
use Rattle.std.specs.Int.{w64, int_wrap, saturate_signed}

-- the least of them
abbrev pub least_number : ℤ
least_number = neg_ℤ (pos (2 ^ 63))

-- the number -1
abbrev pub minus_one : ℤ
minus_one = neg_ℤ (pos 1)

-- the one that differs from the given number by a multiple of 2 ^ 64
abbrev pub wrapped : ℤ → ℤ
wrapped = int_wrap w64

-- the one that is nearest to the given number
abbrev pub cut : ℤ → ℤ
cut = saturate_signed w64
