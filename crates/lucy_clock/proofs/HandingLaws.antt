-- What a merge hands down to one of its operands, and what others do.
use Rattle.std.proofs.Common.{ℕ, zero, suc, ◌≡◌, List, [], ◌∷◌, Some, Bool, true, false, not, length, ap, refl, subst, inl, inr, arith}
use Rattle.std.specs.Prelude.{slice_get, nat_eq, ◌⊎◌}
use Rattle.std.proofs.lemmas.Bool.{cases_Bool}
use Rattle.std.proofs.lemmas.Bool.Decides.{nat_tests}
use Rattle.std.proofs.lemmas.List.{length-map}
use Rattle.std.proofs.lemmas.Option.{same_Some}
use Rattle.lucy_word.specs.Bits.{Bits, ones_in}
use Rattle.lucy_word.specs.Index.{IsIndex}
use Rattle.lucy_word.specs.Multiple.{IsLcm}
use Rattle.lucy_word.specs.Sampling.{IsOn, AreComputedLengths, IsOnTooLong}
use Rattle.lucy_tree.specs.Shaped.{HasZero}
use Rattle.lucy_place.specs.declared.entry.PlaceKind.{PlaceKind}
use Rattle.lucy_place.specs.declared.entry.PlaceKind.TheVariants.{Merge}
use Rattle.lucy_place.specs.Standing.{sampling_word}
use Rattle.lucy_word.specs.Complement.{turned}
use Rattle.lucy_clock.specs.HandedDown.{Hands, HandsTooLong}
use Rattle.lucy_word.proofs.OnLaws.{on_not_from}

abbrev pub Once : List ℕ → ℕ → Type 0
Once qs q = (j k : ℕ) → slice_get qs j ≡ Some q → slice_get qs k ≡ Some q → j ≡ k

same_test : (a b : ℕ) → a ≡ b → nat_eq a b ≡ true
same_test a b h = grind (arith, nat_tests)

test_same : (a b : ℕ) → nat_eq a b ≡ true → a ≡ b
test_same a b h = grind (arith, nat_tests)

not_one : (j k : ℕ) → j ≡ k → j ≡ 0 → k ≡ 1 → ⊥
not_one j k e f g = omega arith

-- which operand of two a number is
module _ (a b q : ℕ) (once : Once (a ∷ b ∷ []) q) where
  first_is : slice_get (a ∷ b ∷ []) 0 ≡ Some q → nat_eq a q ≡ true
  first_is e = same_test a q (same_Some a q e)

  second_is : slice_get (a ∷ b ∷ []) 1 ≡ Some q → nat_eq a q ≡ false
  second_is e = elim (cases_Bool (nat_eq a q)) [
    | inl same ↦ absurd (not_one 0 1 (once 0 1 (ap (λ x. Some x) (test_same a q same)) e) refl refl)
    | inr other ↦ other
  ]

  pub merge_hands : (word own w : Bits) → HasZero word → IsOn own (sampling_word (not (nat_eq a q)) word) w → (k : ℕ) → slice_get (a ∷ b ∷ []) k ≡ Some q → Hands (Merge word a b) k own w
  merge_hands word own w zero_there is zero e = subst (λ t. IsOn own (sampling_word (not t) word) w) (first_is e) is
  merge_hands word own w zero_there is (suc zero) e = on_not_from own word w (omega (arith, zero_there)) (subst (λ t. IsOn own (sampling_word (not t) word) w) (second_is e) is)
  merge_hands word own w zero_there is (suc (suc k)) e = absurd (cc)

-- a word that is handed down to one operand and is too long
pub merge_long : (word own : Bits) (first : Bool) → IsOnTooLong own (sampling_word (not first) word) → IsOnTooLong own word ⊎ IsOnTooLong own (turned word)
merge_long word own true long = inl long
merge_long word own false long = inr long

-- a clock on a word and on that word turned are computed with as many bits
pub turned_long : (own word : Bits) → IsOnTooLong own (turned word) → IsOnTooLong own word
turned_long own word long =
    let lengths = long.1.2 in
    let prefix : length (turned word).prefix ≡ length word.prefix = length-map word.prefix not in
    let period : length (turned word).period ≡ length word.period = length-map word.period not in
    let are : AreComputedLengths own word long.1.0 long.1.1 = record {
      place = lengths.place;
      last_read = subst (λ n. IsIndex own n lengths.place) prefix lengths.last_read;
      of_prefix = lengths.of_prefix;
      ones = lengths.ones;
      common = subst (λ n. IsLcm (ones_in own.period) n lengths.ones) period lengths.common;
      of_period = lengths.of_period;
    } in
    (long.0, (long.1.0, long.1.1, are, long.1.3), long.2)

pub other_fits : (kind : PlaceKind) (own : Bits) → ((word : Bits) (a b : ℕ) → kind ≡ Merge word a b → ⊥) → HandsTooLong kind own → ⊥
other_fits (Merge word a b) own other h = other word a b refl
other_fits kind own other h = h
