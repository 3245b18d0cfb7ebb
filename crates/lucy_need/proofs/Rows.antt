-- The definitions on small words.
use Rattle.std.proofs.Common.{true, false, [], ◌∷◌, ◌≡◌, map, refl, lit<}
use Rattle.lucy_word.specs.Bits.{Bits, bit_at, ones_to}
use Rattle.lucy_word.specs.Always.{always}
use Rattle.lucy_need.specs.declared.need.Need.TheVariants.{Equal}
use Rattle.lucy_need.specs.Meeting.{Assignment, alone, term, term_bit, IsWithin, need_bits, assigned}

-- (10)
odd : Bits
odd = record { prefix = []; period = true ∷ false ∷ [] }

-- the base has (1), and clock 1 (10)
pair : Assignment
pair = assigned (always ∷ odd ∷ [])

-- of the ones of (10), at 1, 3, 5 and 7, those of an odd number
odd_ones : map (term_bit pair (term 1 odd)) (1 ∷ 2 ∷ 3 ∷ 4 ∷ 5 ∷ 6 ∷ 7 ∷ 8 ∷ []) ≡ true ∷ false ∷ false ∷ false ∷ true ∷ false ∷ false ∷ false ∷ []
unfolding pair odd bit_at ones_to
odd_ones = refl

-- all of them
all_ones : map (term_bit pair (alone 1)) (1 ∷ 2 ∷ 3 ∷ 4 ∷ []) ≡ true ∷ false ∷ true ∷ false ∷ []
unfolding pair odd bit_at ones_to
all_ones = refl

-- a need of clocks 0 and 1 names clocks below 2, and its words have three bits
two_clocks : IsWithin 2 (Equal (alone 1) (term 0 odd))
two_clocks = (lit< tt, lit< tt)

three_bits : need_bits (Equal (alone 1) (term 0 odd)) ≡ 3
unfolding odd
three_bits = refl
