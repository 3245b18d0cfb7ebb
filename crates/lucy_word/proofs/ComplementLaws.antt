-- Bits that are turned.
use Rattle.std.proofs.Common.{ℕ, suc, zero, ◌+◌, ◌-◌, ◌%◌, ◌<◌, ◌≡◌, Bool, true, false, not, List, [], ◌∷◌, length, get_or, map, ap, sym, refl, ◌∙◌, inl, inr, arith}
use Rattle.std.proofs.Math.Nat.{mod-lt}
use Rattle.std.proofs.lemmas.Bool.{cases_lt}
use Rattle.std.proofs.lemmas.List.{length-map, get_or-map}
use Rattle.std.proofs.lemmas.List.Sums.{sum_by-cons}
use Rattle.lucy_word.specs.Bits.{Bits, bit_at, one_if, ones_to, ones_in, IsWord}
use Rattle.lucy_word.specs.Shortest.{Same, IsShortest}
use Rattle.lucy_word.specs.Stored.{IsStored}
use Rattle.lucy_word.specs.Complement.{IsComplement, turned}
use Rattle.lucy_word.proofs.BitsLaws.{bit_at-prefix, bit_at-period, ones_to-none, ones_to-more}

-- what is no one is one when it is turned
pub ones_in-turned : (bits : List Bool) → ones_in (map not bits) + ones_in bits ≡ length bits
ones_in-turned [] = refl
ones_in-turned (true ∷ bits) =
    let more : ones_in (true ∷ bits) ≡ 1 + ones_in bits = sum_by-cons one_if true bits in
    let none : ones_in (map not (true ∷ bits)) ≡ 0 + ones_in (map not bits) = sum_by-cons one_if false (map not bits) in
    let len : length (true ∷ bits) ≡ length bits + 1 = omega arith in
    omega (arith, ones_in-turned bits)
ones_in-turned (false ∷ bits) =
    let none : ones_in (false ∷ bits) ≡ 0 + ones_in bits = sum_by-cons one_if false bits in
    let more : ones_in (map not (false ∷ bits)) ≡ 1 + ones_in (map not bits) = sum_by-cons one_if true (map not bits) in
    let len : length (false ∷ bits) ≡ length bits + 1 = omega arith in
    omega (arith, ones_in-turned bits)

pub bit_at-turned : (w : Bits) (i : ℕ) → 0 < i → 0 < length w.period → bit_at (turned w) i ≡ not (bit_at w i)
bit_at-turned w i h some =
    let v : Bits = turned w in
    let lp : length v.prefix ≡ length w.prefix = length-map w.prefix not in
    let lv : length v.period ≡ length w.period = length-map w.period not in
    elim (cases_lt (length w.prefix) i) [
      | inl over ↦
          bit_at-period v i (omega arith)
          ∙ ap (λ n. get_or v.period n false) (ap (λ n. (i - n - 1) % length v.period) lp ∙ ap (λ n. (i - length w.prefix - 1) % n) lv)
          ∙ get_or-map not w.period ((i - length w.prefix - 1) % length w.period) false false (mod-lt (i - length w.prefix - 1) some)
          ∙ ap not (sym (bit_at-period w i over))
      | inr under ↦ bit_at-prefix v i (omega arith) ∙ get_or-map not w.prefix (i - 1) false false (omega arith) ∙ ap not (sym (bit_at-prefix w i under))
    ]

-- the turned word has the bits that the word has not
pub is_complement : (w : Bits) → 0 < length w.period → IsComplement w (turned w)
is_complement w some i h = bit_at-turned w i h some

twice : (b : Bool) → not (not b) ≡ b
twice true = refl
twice false = refl

-- what has the turned bits, turned, has the bits
turned_back : (w v : Bits) → 0 < length w.period → 0 < length v.period → Same v (turned w) → Same (turned v) w
turned_back w v some_w some_v same i h =
    bit_at-turned v i h some_v ∙ ap not (same i h) ∙ ap not (bit_at-turned w i h some_w) ∙ twice (bit_at w i)

-- what is in shortest form is so when it is turned
pub shortest_turned : (w : Bits) → 0 < length w.period → IsShortest w → IsShortest (turned w)
shortest_turned w some short = record {
  period = λ v some_v same.
      omega (arith, short.period (turned v) (omega (arith, length-map v.period not)) (turned_back w v some some_v same), length-map v.period not, length-map w.period not);
  prefix = λ v len same.
      let some_v : 0 < length v.period = omega (arith, length-map w.period not) in
      let same_len : length (turned v).period ≡ length w.period = omega (arith, length-map v.period not, length-map w.period not) in
      omega (arith, short.prefix (turned v) same_len (turned_back w v some some_v same), length-map v.prefix not, length-map w.prefix not);
}

-- what has a zero in its period is a word when it is turned, and may lie in memory where the word does
pub turned_word : (w : Bits) → ones_in w.period < length w.period → IsWord (turned w)
turned_word w zero_there = record { has_one = omega (arith, zero_there, ones_in-turned w.period) }

pub turned_stored : (w : Bits) → ones_in w.period < length w.period → IsStored w → IsStored (turned w)
turned_stored w zero_there is = record {
  word = turned_word w zero_there;
  nonempty = omega (arith, is.nonempty, length-map w.period not);
  short = omega (arith, is.short, length-map w.prefix not, length-map w.period not);
  shortest = shortest_turned w is.nonempty is.shortest;
}

-- each instant has a one of the word or one of its complement
pub ones_to-complement : (w v : Bits) (t : ℕ) → IsComplement w v → ones_to v t + ones_to w t ≡ t
ones_to-complement w v zero is = omega (arith, ones_to-none w, ones_to-none v)
ones_to-complement w v (suc t) is =
    let bit : one_if (bit_at v (t + 1)) ≡ one_if (not (bit_at w (t + 1))) = ap one_if (is (t + 1) (omega arith)) in
    let both : one_if (not (bit_at w (t + 1))) + one_if (bit_at w (t + 1)) ≡ 1 = elim (bit_at w (t + 1)) as (λ b. one_if (not b) + one_if b ≡ 1) [ true ↦ refl | false ↦ refl ] in
    let of_v : ones_to v (suc t) ≡ ones_to v (t + 1) = ap (ones_to v) (omega arith) in
    let of_w : ones_to w (suc t) ≡ ones_to w (t + 1) = ap (ones_to w) (omega arith) in
    omega (arith, ones_to-complement w v t is, ones_to-more w t, ones_to-more v t)
