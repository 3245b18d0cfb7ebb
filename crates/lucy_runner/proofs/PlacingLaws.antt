-- Parts that are put to their places one after another.
use Rattle.std.proofs.Common.{ℕ, ◌+◌, ◌<◌, ◌≤◌, ◌≡◌, List, [], ◌∷◌, ◌++◌, length, get_or, set, ap, sym, refl, ◌∙◌, subst, inl, inr, arith, length-append}
use Rattle.std.specs.Prelude.{Option, Some, None, All, slice_get, sum_by}
use Rattle.std.proofs.lemmas.Bool.{cases_eq, cases_lt}
use Rattle.std.proofs.lemmas.Option.{slice_get_within, get_or_from_slice_get}
use Rattle.std.proofs.lemmas.List.Sums.{sum_by-cons, sum_by_push, sum_by-set, get_or-le-sum_by}
use Rattle.std.proofs.lemmas.List.Elements.{All-head, All-tail, All-get_or}
use Rattle.lucy_word.proofs.Lists.{still_there, get_set_same}
use Rattle.lucy_host.proofs.Elements.{get_last}
use Rattle.lucy_stream.specs.Totals.{total}
use Rattle.lucy_stream.proofs.TotalLaws.{total_more}
use Rattle.lucy_core.proofs.ListLaws.{get_set_other, get_push, some_same}
use Rattle.lucy_worker.specs.declared.part.Part.{Part}
use Rattle.lucy_worker.proofs.WithinLaws.{get_set}
use Rattle.lucy_runner.specs.declared.place.Place.{Place}
use Rattle.lucy_runner.specs.Crews.{part_in, placed_in, part_of, number_of, sum_seated, AreShared}
use Rattle.lucy_runner.specs.Standing.{AreCovered}
use Rattle.lucy_runner.specs.Making.{ArePlaced, AreNumbered}
use Rattle.lucy_runner.proofs.MayLaws.{sum_ones, total_one}

-- where the part of a number is
pub record IsAt (crew : List (List Part)) (places : List Place) (a : ℕ) (p : Part) : Type 0 where
  pub place : Place
  pub place_is : slice_get places a ≡ Some place
  pub row : List Part
  pub row_is : slice_get crew place.seat ≡ Some row
  pub part_is : slice_get row place.part ≡ Some p

in_row : (crew : List (List Part)) (places : List Place) (a : ℕ) (p : Part) (place : Place) (o : Option (List Part)) → slice_get places a ≡ Some place → slice_get crew place.seat ≡ o → part_in o place.part ≡ Some p → IsAt crew places a p
in_row crew places a p place None e f g = absurd (cc)
in_row crew places a p place (Some row) e f g = record { place = place; place_is = e; row = row; row_is = f; part_is = g }

in_crew : (crew : List (List Part)) (places : List Place) (a : ℕ) (p : Part) (o : Option Place) → slice_get places a ≡ o → placed_in crew o ≡ Some p → IsAt crew places a p
in_crew crew places a p None e f = absurd (cc)
in_crew crew places a p (Some place) e f = in_row crew places a p place (slice_get crew place.seat) e refl f

pub is_at : (crew : List (List Part)) (places : List Place) (a : ℕ) (p : Part) → part_of crew places a ≡ Some p → IsAt crew places a p
is_at crew places a p e = in_crew crew places a p (slice_get places a) refl e

pub at_is : (crew : List (List Part)) (places : List Place) (a s k : ℕ) (row : List Part) (p : Part) → slice_get places a ≡ Some (record { seat = s; part = k }) → slice_get crew s ≡ Some row → slice_get row k ≡ Some p → part_of crew places a ≡ Some p
at_is crew places a s k row p e f g = ap (placed_in crew) e ∙ ap (λ o. part_in o k) f ∙ g

-- a row with a part more
more_each : (parts : List Part) (n : ℕ) (crew : List (List Part)) (places : List Place) (s : ℕ) (row : List Part) (p : Part) → ArePlaced parts n crew places → slice_get parts n ≡ Some p → slice_get crew s ≡ Some row →
    (a : ℕ) (q : Part) → a < n + 1 → slice_get parts a ≡ Some q → part_of (set crew s (row ++ p ∷ [])) (places ++ record { seat = s; part = length row } ∷ []) a ≡ Some q
more_each parts n crew places s row p is here there a q l e =
    let last : Place = record { seat = s; part = length row } in
    let after : List (List Part) = set crew s (row ++ p ∷ []) in
    elim (cases_lt a n) [
      | inl lt ↦
          let old : IsAt crew places a q = is_at crew places a q (is.each a q lt e) in
          let place : slice_get (places ++ last ∷ []) a ≡ Some old.place = still_there places (last ∷ []) a old.place old.place_is in
          elim (cases_eq s old.place.seat) [
            | inl same ↦
                let one : row ≡ old.row = some_same (slice_get crew s) row old.row there (ap (slice_get crew) same ∙ old.row_is) in
                let now : slice_get after old.place.seat ≡ Some (row ++ p ∷ []) = ap (slice_get after) (sym same) ∙ get_set crew s row (row ++ p ∷ []) there in
                let part : slice_get row old.place.part ≡ Some q = ap (λ xs. slice_get xs old.place.part) one ∙ old.part_is in
                at_is after (places ++ last ∷ []) a old.place.seat old.place.part (row ++ p ∷ []) q place now (still_there row (p ∷ []) old.place.part q part)
            | inr other ↦
                at_is after (places ++ last ∷ []) a old.place.seat old.place.part old.row q place (get_set_other crew s old.place.seat (row ++ p ∷ []) other ∙ old.row_is) old.part_is
          ]
      | inr past ↦
          let same : a ≡ n = omega arith in
          let it : p ≡ q = some_same (slice_get parts n) p q here (ap (slice_get parts) (sym same) ∙ e) in
          let place : slice_get (places ++ last ∷ []) a ≡ Some last = ap (slice_get (places ++ last ∷ [])) (same ∙ sym is.placed) ∙ get_last places last in
          at_is after (places ++ last ∷ []) a s (length row) (row ++ p ∷ []) q place (get_set crew s row (row ++ p ∷ []) there) (get_last row p ∙ ap Some it)
    ]

more_covered : (parts : List Part) (n : ℕ) (crew : List (List Part)) (places : List Place) (s : ℕ) (row : List Part) (p : Part) → ArePlaced parts n crew places → p.number ≡ n → slice_get crew s ≡ Some row →
    AreCovered (set crew s (row ++ p ∷ [])) (places ++ record { seat = s; part = length row } ∷ [])
more_covered parts n crew places s row p is number there t k now q f g =
    let last : Place = record { seat = s; part = length row } in
    elim (cases_eq s t) [
      | inl same ↦
          let it : now ≡ row ++ p ∷ [] = get_set_same crew s (row ++ p ∷ []) now (ap (slice_get (set crew s (row ++ p ∷ []))) same ∙ f) in
          elim (get_push row p q k (ap (λ xs. slice_get xs k) (sym it) ∙ g)) [
            | inl old ↦ still_there places (last ∷ []) q.number (record { seat = t; part = k }) (is.covered t k row q (ap (slice_get crew) (sym same) ∙ there) old)
            | inr new ↦
                let at : q.number ≡ length places = ap (λ (x : Part). x.number) new.1 ∙ number ∙ sym is.placed in
                let place : last ≡ record { seat = t; part = k } = ap (λ x. record last { seat = x }) same ∙ ap (λ x. record { seat = t; part = x }) (sym new.0) in
                ap (slice_get (places ++ last ∷ [])) at ∙ get_last places last ∙ ap Some place
          ]
      | inr other ↦ still_there places (last ∷ []) q.number (record { seat = t; part = k }) (is.covered t k now q (sym (get_set_other crew s t (row ++ p ∷ []) other) ∙ f) g)
    ]

more_shared : (n : ℕ) (crew : List (List Part)) (s : ℕ) (row : List Part) (p : Part) → AreShared crew n → p.number ≡ n → slice_get crew s ≡ Some row → AreShared (set crew s (row ++ p ∷ [])) (n + 1)
more_shared n crew s row p is number there g =
    let l : s < length crew = slice_get_within crew s row there in
    let all : sum_by (sum_seated g) (set crew s (row ++ p ∷ [])) + sum_seated g (get_or crew s row) ≡ sum_by (sum_seated g) crew + sum_seated g (row ++ p ∷ []) = sum_by-set (sum_seated g) crew s (row ++ p ∷ []) row l in
    let same : sum_seated g (get_or crew s row) ≡ sum_seated g row = ap (sum_seated g) (get_or_from_slice_get crew s row row there) in
    let more : sum_seated g (row ++ p ∷ []) ≡ sum_seated g row + g p.number = sum_by_push (number_of g) row p in
    let last : g p.number ≡ g n = ap g number in
    let old : sum_by (sum_seated g) crew ≡ total n g = is g in
    omega (arith, all, same, more, last, old, total_more n g)

-- one part more
pub place_more : (parts : List Part) (n : ℕ) (crew : List (List Part)) (places : List Place) (s : ℕ) (row : List Part) (p : Part) (after : List (List Part)) (now : List Place) → ArePlaced parts n crew places → AreNumbered parts → slice_get parts n ≡ Some p →
    slice_get crew s ≡ Some row → after ≡ set crew s (row ++ p ∷ []) → now ≡ places ++ record { seat = s; part = length row } ∷ [] → ArePlaced parts (n + 1) after now
place_more parts n crew places s row p after now is numbered here there e f =
    let last : Place = record { seat = s; part = length row } in
    let made : ArePlaced parts (n + 1) (set crew s (row ++ p ∷ [])) (places ++ last ∷ []) = record {
      placed = length-append places (last ∷ []) ∙ ap (λ k. k + 1) is.placed;
      each = more_each parts n crew places s row p is here there;
      covered = more_covered parts n crew places s row p is (numbered n p here) there;
      shared = more_shared n crew s row p is.shared (numbered n p here) there;
    } in
    subst (λ (xs : List (List Part)). ArePlaced parts (n + 1) xs now) (sym e) (subst (λ (xs : List Place). ArePlaced parts (n + 1) (set crew s (row ++ p ∷ [])) xs) (sym f) made)

none_shared : (g : ℕ → ℕ) (crew : List (List Part)) → All (λ row. row ≡ []) crew → sum_by (sum_seated g) crew ≡ 0
none_shared g [] none = refl
none_shared g (row ∷ crew) none =
    let first : sum_seated g row ≡ 0 = ap (sum_seated g) (All-head (λ (r : List Part). r ≡ []) row crew none) in
    let rest : sum_by (sum_seated g) crew ≡ 0 = none_shared g crew (All-tail (λ (r : List Part). r ≡ []) row crew none) in
    omega (arith, sum_by-cons (sum_seated g) row crew, first, rest)

-- no part yet
pub place_none : (parts : List Part) (crew : List (List Part)) → All (λ row. row ≡ []) crew → ArePlaced parts 0 crew []
place_none parts crew none = record {
  placed = refl;
  each = λ a p l e. absurd (omega arith);
  covered = λ s k row p e f.
      let empty : row ≡ [] = subst (λ (r : List Part). r ≡ []) (get_or_from_slice_get crew s row row e) (All-get_or (λ (r : List Part). r ≡ []) crew s row (slice_get_within crew s row e) none) in
      absurd (let q : slice_get {X = Part} [] k ≡ Some p = ap (λ xs. slice_get xs k) (sym empty) ∙ f in cc);
  shared = λ g. none_shared g crew none;
}

-- a seat has no more parts than there are
pub row_short : (parts : List Part) (n : ℕ) (crew : List (List Part)) (places : List Place) (s : ℕ) (row : List Part) → ArePlaced parts n crew places → slice_get crew s ≡ Some row → length row ≤ n
row_short parts n crew places s row is there =
    let one : ℕ → ℕ = λ (a : ℕ). 1 in
    let l : s < length crew = slice_get_within crew s row there in
    let most : sum_seated one (get_or crew s row) ≤ sum_by (sum_seated one) crew = get_or-le-sum_by (sum_seated one) crew s row l in
    let same : sum_seated one (get_or crew s row) ≡ sum_seated one row = ap (sum_seated one) (get_or_from_slice_get crew s row row there) in
    let all : sum_by (sum_seated one) crew ≡ total n one = is.shared one in
    omega (arith, most, same, all, sum_ones row, total_one n)
