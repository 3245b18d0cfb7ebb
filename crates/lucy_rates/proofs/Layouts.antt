-- Shapes of clocks laid out one behind the other.
use Rattle.std.proofs.Common.{◌≡◌, ℕ, zero, suc, ◌+◌, ◌*◌, ◌<◌, ◌≤◌, Bool, true, false, List, [], ◌∷◌, ◌++◌, length, take, inl, inr, sym, ap, ◌∙◌, subst, refl, arith}
use Rattle.std.specs.Prelude.{slice_index}
use Rattle.std.proofs.lemmas.Bool.{cases_lt, cases_eq, cases_Bool}
use Rattle.std.proofs.lemmas.List.{length_push, take-append-le, take_all, get_or_append_left, get_or_push}
use Rattle.std.proofs.lemmas.List.Sums.{sum_by_push}
use Rattle.lucy_shape.specs.declared.shape.ClockShape.{ClockShape}
use Rattle.lucy_shape.specs.Fitting.{unused, clock_at, position_count, variable_count, most_positions}
use Rattle.lucy_rates.specs.Laying.{counts, shape_behind, laid_out, AreLaidOut}

module _ (b : Bool) (lead : ℕ) (ones prefix : ℕ → ℕ) where
  abbrev laid : ℕ → List ClockShape
  laid n = laid_out b lead ones prefix n

  abbrev next : ℕ → ClockShape
  next n = shape_behind (laid n) (counts b n) lead (ones n) (prefix n)

  pub laid_length : (n : ℕ) → length (laid n) ≡ n
  laid_length zero = refl
  laid_length (suc n) = let e = length_push (laid n) (next n) in let f = laid_length n in omega arith

  pub laid_take : (c n : ℕ) → c ≤ n → take c (laid n) ≡ laid c
  laid_take c zero l = subst (λ (z : ℕ). take z (laid 0) ≡ laid z) (let e : 0 ≡ c = omega arith in e) refl
  laid_take c (suc n) l = elim (cases_lt n c) [
    | inr m ↦ take-append-le c (laid n) (next n ∷ []) (let e = laid_length n in omega arith) ∙ laid_take c n m
    | inl m ↦
        let e : suc n ≡ c = omega arith in
        subst (λ (z : ℕ). take z (laid (suc n)) ≡ laid z) e (take_all (suc n) (laid (suc n)) (let f = laid_length (suc n) in omega arith))
  ]

  pub laid_at : (c n : ℕ) → c < n → clock_at (laid n) c ≡ next c
  laid_at c zero l = absurd (omega arith)
  laid_at c (suc n) l = elim (cases_eq c n) [
    | inr m ↦ get_or_append_left (laid n) (next n ∷ []) unused c (let e = laid_length n in omega arith) ∙ laid_at c n (omega arith)
    | inl e ↦ subst (λ (z : ℕ). clock_at (laid (suc n)) z ≡ next z) (sym e) (get_or_push (laid n) (next n) unused n (laid_length n))
  ]

  pub laid_step : (n : ℕ) → variable_count (laid (suc n)) ≡ variable_count (laid n) + position_count (next n)
  laid_step n = let e = sum_by_push position_count (laid n) (next n) in omega arith

  pub laid_used : (n : ℕ) → counts b n ≡ true → variable_count (laid (suc n)) ≡ variable_count (laid n) + (lead * ones n + prefix n) + ones n
  laid_used n e =
      let f = laid_step n in
      let g : position_count (next n) ≡ lead * ones n + prefix n + ones n = ap (λ z. position_count (shape_behind (laid n) z lead (ones n) (prefix n))) e in
      omega arith

  pub laid_more : (m n : ℕ) → m ≤ n → variable_count (laid m) ≤ variable_count (laid n)
  laid_more m zero l = let e : m ≡ 0 = omega arith in let f : variable_count (laid m) ≡ variable_count (laid 0) = ap (λ z. variable_count (laid z)) e in omega arith
  laid_more m (suc n) l = elim (cases_lt n m) [
    | inr k ↦ (let r = laid_more m n k in let s = laid_step n in omega arith)
    | inl k ↦ (let e : m ≡ suc n = omega arith in let f : variable_count (laid m) ≡ variable_count (laid (suc n)) = ap (λ z. variable_count (laid z)) e in omega arith)
  ]

-- one clock more
pub laid_next : (b : Bool) (lead : ℕ) (ones prefixes : List ℕ) (c : ℕ) (before : List ClockShape) (first next : ℕ) (shape : ClockShape) → AreLaidOut b lead ones prefixes c before first →
    (counts b c ≡ true → shape ≡ record { used = true; lead = lead * slice_index ones c + slice_index prefixes c; ones = slice_index ones c; first = first }) → (counts b c ≡ false → shape ≡ unused) →
    next ≡ first + (shape.lead + shape.ones) → next ≤ 1 + most_positions → AreLaidOut b lead ones prefixes (c + 1) (before ++ shape ∷ []) next
laid_next b lead ones prefixes c before first next shape so_far used idle is few =
    let g : suc c ≡ c + 1 = omega arith in
    let same : shape ≡ shape_behind before (counts b c) lead (slice_index ones c) (slice_index prefixes c) = elim (cases_Bool (counts b c)) [
      | inl e ↦ used e ∙ ap (λ n. record { used = true; lead = lead * slice_index ones c + slice_index prefixes c; ones = slice_index ones c; first = n }) so_far.count ∙ ap (λ z. shape_behind before z lead (slice_index ones c) (slice_index prefixes c)) (sym e)
      | inr e ↦ idle e ∙ ap (λ z. shape_behind before z lead (slice_index ones c) (slice_index prefixes c)) (sym e)
    ] in
    let count : position_count shape ≡ shape.lead + shape.ones = elim (cases_Bool (counts b c)) [
      | inl e ↦ (let P : ClockShape → Type 0 = λ s. position_count s ≡ s.lead + s.ones in subst P (sym (used e)) refl)
      | inr e ↦ (let P : ClockShape → Type 0 = λ s. position_count s ≡ s.lead + s.ones in subst P (sym (idle e)) refl)
    ] in
    record {
      are = ap (λ (z : List ClockShape). z ++ shape ∷ []) so_far.are ∙ ap (λ (s : ClockShape). laid_out b lead (slice_index ones) (slice_index prefixes) c ++ s ∷ [])
          (same ∙ ap (λ (z : List ClockShape). shape_behind z (counts b c) lead (slice_index ones c) (slice_index prefixes c)) so_far.are)
          ∙ ap (λ z. laid_out b lead (slice_index ones) (slice_index prefixes) z) g;
      count = (let e = sum_by_push position_count before shape in let f = so_far.count in omega arith);
      few = few;
    }

-- with no room for the next clock there is none for all
pub laid_many : (b : Bool) (lead : ℕ) (ones prefixes : List ℕ) (c clocks : ℕ) (before : List ClockShape) (first : ℕ) → c < clocks → AreLaidOut b lead ones prefixes c before first → counts b c ≡ true →
    1 + most_positions < first + (lead * slice_index ones c + slice_index prefixes c) + slice_index ones c → 1 + most_positions < variable_count (laid_out b lead (slice_index ones) (slice_index prefixes) clocks)
laid_many b lead ones prefixes c clocks before first l so_far e many =
    let x = laid_used b lead (slice_index ones) (slice_index prefixes) c e in
    let y = laid_more b lead (slice_index ones) (slice_index prefixes) (suc c) clocks (omega arith) in
    let z = so_far.count in
    let w : variable_count before ≡ variable_count (laid_out b lead (slice_index ones) (slice_index prefixes) c) = ap variable_count so_far.are in
    omega arith
