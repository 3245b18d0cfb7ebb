-- Laws of words of zeros and then ones.
use Rattle.std.proofs.Common.{ℕ, zero, suc, ◌+◌, ◌-◌, ◌%◌, ◌<◌, ◌≤◌, ◌≡◌, true, false, [], ◌∷◌, length, get_or, ap, sym, ◌∙◌, inl, inr, arith}
use Rattle.std.proofs.Math.Nat.{mod-lt}
use Rattle.std.proofs.lemmas.Bool.{cases_lt}
use Rattle.std.proofs.lemmas.List.{length-replicate, get_or-replicate}
use Rattle.lucy_word.specs.Bits.{bit_at, one_if, ones_to, IsWord, most_bits}
use Rattle.lucy_word.specs.Shortest.{IsShortest}
use Rattle.lucy_word.specs.Stored.{IsStored}
use Rattle.lucy_word.specs.Always.{delayed}
use Rattle.lucy_word.proofs.BitsLaws.{bit_at-prefix, bit_at-period, ones_to-none, ones_to-more}

-- its zeros, then its ones
delayed_before : (n i : ℕ) → 0 < i → i ≤ n → bit_at (delayed n) i ≡ false
delayed_before n i some h =
    let l = length-replicate n false in
    bit_at-prefix (delayed n) i (omega arith) ∙ get_or-replicate n (i - 1) false false (omega arith)

delayed_behind : (n i : ℕ) → n < i → bit_at (delayed n) i ≡ true
delayed_behind n i h =
    let l = length-replicate n false in
    bit_at-period (delayed n) i (omega arith)
    ∙ ap (λ k. get_or (true ∷ []) k false) (let e : (i - length (delayed n).prefix - 1) % length (true ∷ []) ≡ 0 = omega arith in e)

-- all ones but the first so many instants
pub delayed_count : (n i : ℕ) → ones_to (delayed n) i ≡ i - n
delayed_count n zero = omega (arith, ones_to-none (delayed n))
delayed_count n (suc i) =
    let e : ones_to (delayed n) (suc i) ≡ ones_to (delayed n) (i + 1) = ap (ones_to (delayed n)) (omega arith) in
    elim (cases_lt i n) [
      | inl before ↦ omega (arith, e, delayed_count n i, ones_to-more (delayed n) i, ap one_if (delayed_before n (i + 1) (omega arith) (omega arith)))
      | inr behind ↦ omega (arith, e, delayed_count n i, ones_to-more (delayed n) i, ap one_if (delayed_behind n (i + 1) (omega arith)))
    ]

pub delayed_word : (n : ℕ) → IsWord (delayed n)
delayed_word n = record { has_one = omega arith }

delayed_shortest : (n : ℕ) → IsShortest (delayed n)
delayed_shortest n = record {
  period = λ v some same. omega (arith, some);
  prefix = λ v len same.
      elim (cases_lt (length v.prefix) n) [
        | inr long ↦ (let l = length-replicate n false in omega arith)
        | inl short ↦
            let one : length v.period ≡ 1 = len in
            let at : (i : ℕ) → length v.prefix < i → bit_at v i ≡ get_or v.period 0 false = λ i h.
            bit_at-period v i h ∙ ap (λ k. get_or v.period k false) (let m = mod-lt (i - length v.prefix - 1) (let s : 0 < length v.period = omega arith in s) in omega (arith, m)) in
            let clash : false ≡ true = sym (delayed_before n n (omega arith) (omega arith)) ∙ sym (same n (omega arith)) ∙ at n short ∙ sym (at (n + 1) (omega arith)) ∙ same (n + 1) (omega arith) ∙ delayed_behind n (n + 1) (omega arith) in
            absurd (cc)
      ];
}

-- so it is as words in memory are
pub delayed_stored : (n : ℕ) → n < most_bits → IsStored (delayed n)
delayed_stored n few =
    let l = length-replicate n false in
    record { word = delayed_word n; nonempty = omega arith; short = omega arith; shortest = delayed_shortest n }
