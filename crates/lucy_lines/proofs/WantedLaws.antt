-- Laws of how many values are wanted, and of how many lines may still come.
use Rattle.std.proofs.Common.{◌≡◌, ℕ, zero, suc, ◌+◌, ◌-◌, if◌then◌else◌, ◌<◌, ◌≤◌, Bool, true, false, List, [], ◌∷◌, length, refl, ap, sym, ◌∙◌, subst, inl, inr, arith}
use Rattle.std.specs.Prelude.{◌⊎◌, slice_index_or}
use Rattle.lucy_lines.specs.Fronts.{most_bytes}
use Rattle.lucy_lines.specs.Reading.{ReaderState}
use Rattle.lucy_lines.specs.Resuming.{FeedState, AreMet}

-- how many lines may still come, and one for the stop
abbrev pub lines_left : ReaderState → ℕ
lines_left r = if r.ended then 0 else suc (most_bytes + 1 - r.held.used)

abbrev left_by : Bool → ℕ → ℕ
left_by ended used = if ended then 0 else suc (most_bytes + 1 - used)

pub fewer_left : (old new : ReaderState) → old.ended ≡ false → (new.ended ≡ true) ⊎ ((new.ended ≡ false) × (old.held.used < new.held.used) × (new.held.used ≤ most_bytes + 1)) → lines_left new < lines_left old
fewer_left old new open_yet (inl stops) =
    let before : lines_left old ≡ suc (most_bytes + 1 - old.held.used) = ap (λ b. left_by b old.held.used) open_yet in
    let after : lines_left new ≡ 0 = ap (λ b. left_by b new.held.used) stops in
    omega arith
fewer_left old new open_yet (inr (goes, more, few)) =
    let before : lines_left old ≡ suc (most_bytes + 1 - old.held.used) = ap (λ b. left_by b old.held.used) open_yet in
    let after : lines_left new ≡ suc (most_bytes + 1 - new.held.used) = ap (λ b. left_by b new.held.used) goes in
    omega arith

-- what is had isn't lacked
pub not_lacking : (s : FeedState) (stream least : ℕ) → (s.reader.ended ≡ false) × (slice_index_or s.counts stream 0 < least) → (s.reader.ended ≡ true) ⊎ (least ≤ slice_index_or s.counts stream 0) → ⊥
not_lacking s stream least (open_yet, few) (inl ended) = let no_more : false ≡ true = sym open_yet ∙ ended in cc
not_lacking s stream least (open_yet, few) (inr enough) = absurd (omega arith)

pub still_lacks : (old now : FeedState) (stream least : ℕ) → now ≡ old → (now.reader.ended ≡ false) × (slice_index_or now.counts stream 0 < least) →
    (old.reader.ended ≡ true) ⊎ (least ≤ slice_index_or old.counts stream 0) → ⊥
still_lacks old now stream least same lacks has =
    let P : FeedState → Type 0 = λ s. (s.reader.ended ≡ false) × (slice_index_or s.counts stream 0 < least) in
    not_lacking old stream least (subst P same lacks) has

-- what goes on hasn't stopped
pub still_open_as : (old now : FeedState) → now ≡ old → now.reader.ended ≡ false → old.reader.ended ≡ true → ⊥
still_open_as old now same open_yet ended = let no_more : false ≡ true = sym open_yet ∙ ap (λ s. s.reader.ended) same ∙ ended in cc

pub risen_more : (a b c : List ℕ) → AreMet a b → AreMet b c → AreMet a c
risen_more a b c p q = λ k. let x = p k in let y = q k in omega arith

-- so many streams have as many values as are wanted, and one more
pub met_more : (wanted counts now : List ℕ) (i least : ℕ) → least ≡ slice_index_or wanted i 0 → ((k : ℕ) → k < i → slice_index_or wanted k 0 ≤ slice_index_or counts k 0) → AreMet counts now →
    least ≤ slice_index_or now i 0 → (k : ℕ) → k < i + 1 → slice_index_or wanted k 0 ≤ slice_index_or now k 0
met_more wanted counts now i least is met risen enough k lt = elim (below_or k i lt) [
  | inl below ↦ let a = met k below in let b = risen k in omega arith
  | inr here ↦ let P : ℕ → Type 0 = λ n. slice_index_or wanted n 0 ≤ slice_index_or now n 0 in let e : slice_index_or wanted i 0 ≤ slice_index_or now i 0 = omega arith in subst P (sym here) e
]
  where
    below_or : (k i : ℕ) → k < i + 1 → (k < i) ⊎ (k ≡ i)
    below_or zero zero lt = inr refl
    below_or zero (suc i) lt = inl (omega arith)
    below_or (suc k) zero lt = absurd (omega arith)
    below_or (suc k) (suc i) lt = elim (below_or k i (omega arith)) [ inl below ↦ inl (omega arith) | inr here ↦ inr (ap suc here) ]

none_past : (numbers : List ℕ) (k : ℕ) → length numbers ≤ k → slice_index_or numbers k 0 ≡ 0
none_past [] k past = refl
none_past (n ∷ numbers) zero past = absurd (omega arith)
none_past (n ∷ numbers) (suc k) past = none_past numbers k (omega arith)

-- all streams have
pub all_met : (wanted counts : List ℕ) (i : ℕ) → length wanted ≤ i → ((k : ℕ) → k < i → slice_index_or wanted k 0 ≤ slice_index_or counts k 0) → AreMet wanted counts
all_met wanted counts i enough met = λ k. elim (below_or_past k i) [ inl below ↦ met k below | inr past ↦ let none = none_past wanted k (omega arith) in omega arith ]
  where
    below_or_past : (k i : ℕ) → (k < i) ⊎ (i ≤ k)
    below_or_past zero zero = inr (omega arith)
    below_or_past zero (suc i) = inl (omega arith)
    below_or_past (suc k) zero = inr (omega arith)
    below_or_past (suc k) (suc i) = elim (below_or_past k i) [ inl below ↦ inl (omega arith) | inr past ↦ inr (omega arith) ]

-- where a reading stopped or has all, it has what is wanted of each stream
pub has_one : (old now : FeedState) (wanted : List ℕ) (i least : ℕ) → now ≡ old → least ≡ slice_index_or wanted i 0 → (old.reader.ended ≡ true) ⊎ AreMet wanted old.counts →
    (now.reader.ended ≡ true) ⊎ (least ≤ slice_index_or now.counts i 0)
has_one old now wanted i least same is (inl ended) = inl (ap (λ s. s.reader.ended) same ∙ ended)
has_one old now wanted i least same is (inr met) = let e = ap (λ s. slice_index_or s.counts i 0) same in let m = met i in inr (omega arith)

-- what stopped or met one more, behind those that were met
pub enough_more : (old now : FeedState) (wanted : List ℕ) (i least : ℕ) → least ≡ slice_index_or wanted i 0 → AreMet old.counts now.counts →
    (old.reader.ended ≡ true) ⊎ ((k : ℕ) → k < i → slice_index_or wanted k 0 ≤ slice_index_or old.counts k 0) → ((old.reader.ended ≡ true) → now ≡ old) →
    (now.reader.ended ≡ true) ⊎ (least ≤ slice_index_or now.counts i 0) → (now.reader.ended ≡ true) ⊎ ((k : ℕ) → k < i + 1 → slice_index_or wanted k 0 ≤ slice_index_or now.counts k 0)
enough_more old now wanted i least is risen (inl ended) same more = inl (ap (λ s. s.reader.ended) (same ended) ∙ ended)
enough_more old now wanted i least is risen (inr met) same (inl ended) = inl ended
enough_more old now wanted i least is risen (inr met) same (inr enough) = inr (met_more wanted old.counts now.counts i least is met risen enough)

pub enough_all : (s : FeedState) (wanted : List ℕ) (i : ℕ) → length wanted ≤ i → (s.reader.ended ≡ true) ⊎ ((k : ℕ) → k < i → slice_index_or wanted k 0 ≤ slice_index_or s.counts k 0) →
    (s.reader.ended ≡ true) ⊎ AreMet wanted s.counts
enough_all s wanted i all (inl ended) = inl ended
enough_all s wanted i all (inr met) = inr (all_met wanted s.counts i all met)
