-- Waits, one by one.
use Rattle.std.proofs.Common.{◌≡◌, ℕ, ◌+◌, ◌-◌, ◌<◌, ◌≤◌, List, [], ◌∷◌, ◌++◌, length, get_or, inl, inr, sym, ap, ◌∙◌, subst, arith}
use Rattle.std.proofs.lemmas.Bool.{cases_lt}
use Rattle.std.proofs.lemmas.List.{get_or_append_left, get_or_push, length_push}
use Rattle.lucy_word.specs.Bits.{Bits, ones_to}
use Rattle.lucy_word.specs.Index.{IsIndex}
use Rattle.lucy_explain.specs.Waits.{Waits, AreWaits}

pub wait_is : (write read : Bits) (item written reached wait : ℕ) → IsIndex write item written → IsIndex read item reached → reached ≡ written + wait → Waits write read item wait
wait_is write read item written reached wait goes_in comes_out is = record {
  written = written;
  goes_in = goes_in;
  comes_out = subst (λ (at : ℕ). IsIndex read item at) is comes_out;
}

-- one wait more
pub waits_more : (write read : Bits) (waits new : List ℕ) (i wait : ℕ) → length waits ≡ i → AreWaits write read waits → Waits write read (i + 1) wait → new ≡ waits ++ wait ∷ [] →
    AreWaits write read new × (length new ≡ i + 1)
waits_more write read waits new i wait count are is made =
    let longer = length_push waits wait in
    let all : length new ≡ i + 1 = ap length made ∙ longer ∙ ap (λ n. n + 1) count in (
      λ k l. elim (cases_lt k i) [
        | inl h ↦ let e : get_or waits k 0 ≡ get_or new k 0 = sym (ap (λ (xs : List ℕ). get_or xs k 0) made ∙ get_or_append_left waits (wait ∷ []) 0 k (omega arith)) in
            subst (λ (n : ℕ). Waits write read (k + 1) n) e (are k (omega arith))
        | inr h ↦ let last : i ≡ k = omega arith in
            let e : wait ≡ get_or new k 0 = sym (ap (λ (xs : List ℕ). get_or xs k 0) made ∙ get_or_push waits wait 0 k (count ∙ last)) in
            subst (λ (n : ℕ). Waits write read (k + 1) n) e (subst (λ (n : ℕ). Waits write read (n + 1) wait) last is)
      ],
      all,
    )

-- at one instant more less than the size waits
pub not_full_more : (write read : Bits) (size n waits : ℕ) → ((i : ℕ) → 1 ≤ i → i < n + 1 → ones_to write i < ones_to read i + size) → waits ≡ ones_to write (n + 1) - ones_to read (n + 1) →
    waits < size → (i : ℕ) → 1 ≤ i → i < n + 1 + 1 → ones_to write i < ones_to read i + size
not_full_more write read size n waits before is few i some within = elim (cases_lt i (n + 1)) [
  | inl h ↦ before i some h
  | inr h ↦ let e : n + 1 ≡ i = omega arith in
      let here : ones_to write (n + 1) < ones_to read (n + 1) + size = omega arith in
      subst (λ (m : ℕ). ones_to write m < ones_to read m + size) e here
]
