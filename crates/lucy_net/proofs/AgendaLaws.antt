-- The actors of each instant, entered actor by actor and firing by firing.
use Rattle.std.proofs.Common.{ℕ, zero, suc, Vec, ◌+◌, ◌-◌, ◌<◌, ◌≤◌, ◌≡◌, Bool, true, false, cond, ltb, leb, List, [], ◌∷◌, ◌++◌, length, set, get_or, ap, sym, refl, ◌∙◌, inl, inr, arith}
use Rattle.std.specs.Prelude.{Some, slice_get, slice_index_or, ◌&&◌}
use Rattle.std.proofs.lemmas.Bool.{cases_Bool, cases_eq, cases_lt, le-leb, lt-leb}
use Rattle.std.proofs.lemmas.List.{append-nil, map-append, length-set, get_or-set_same, get_or-set_other}
use Rattle.std.proofs.lemmas.Option.{slice_get_within, get_or_from_slice_get}
use Rattle.lucy_word.specs.Bits.{Bits, bit_at, one_if, ones_to}
use Rattle.lucy_word.specs.Index.{IsIndex}
use Rattle.lucy_word.proofs.BitsLaws.{ones_to-none, ones_to-more}
use Rattle.lucy_word.proofs.IndexLaws.{ones_to-rises}
use Rattle.lucy_net.specs.declared.net.Actor.{Actor}
use Rattle.lucy_net.specs.declared.net.Net.{Net}
use Rattle.lucy_net.specs.Proper.{numbers_where, IsProper}
use Rattle.lucy_net.specs.Instants.{slot_of, is_busy}
use Rattle.lucy_net.specs.Agenda.{AreEntered}
use Rattle.lucy_net.specs.Faults.{rows_of, AreFirings}
use Rattle.lucy_net.proofs.WhereLaws.{where_yes, where_no}
use Rattle.lucy_net.proofs.SlotLaws.{slot_here}
use Rattle.lucy_net.proofs.CountLaws.{busy_yes, busy_still, busy_idle}

-- rows without entries, and one more of them
all_empty : (rows : List (List ℕ)) (row : List ℕ) → row ≡ [] → ((t : ℕ) → get_or rows t [] ≡ []) → (t : ℕ) → get_or (rows ++ row ∷ []) t [] ≡ []
all_empty [] row e empty zero = e
all_empty [] row e empty (suc t) = refl
all_empty (r ∷ rows) row e empty zero = empty zero
all_empty (r ∷ rows) row e empty (suc t) = all_empty rows row e (λ s. empty (suc s)) t

pub more_empty : {Z : Type 0} (rows more : List (Vec ℕ Z)) (row : Vec ℕ Z) → more ≡ rows ++ row ∷ [] → row.items ≡ [] →
    ((t : ℕ) → slice_index_or (rows_of rows) t [] ≡ []) → (t : ℕ) → slice_index_or (rows_of more) t [] ≡ []
more_empty rows more row e none empty t =
    ap (λ l. get_or (rows_of l) t []) e ∙ ap (λ l. get_or l t []) (map-append (λ v. v.items) rows (row ∷ [])) ∙ all_empty (rows_of rows) row.items none empty t

pub place_some : (w : Bits) (j i : ℕ) → 1 ≤ j → IsIndex w j i → 1 ≤ i
place_some w j i l is = elim (cases_eq i 0) [
  | inl none ↦ absurd (let e : ones_to w i ≡ ones_to w 0 = ap (ones_to w) none in omega (arith, ones_to-none w, is.there))
  | inr some ↦ omega arith
]

pub place_within : (w : Bits) (j i n : ℕ) → j ≤ ones_to w n → IsIndex w j i → i ≤ n
place_within w j i n l is = elim (cases_lt n i) [
  | inr x ↦ x
  | inl x ↦ absurd (omega (arith, is.first n (omega (arith, ones_to-rises w n i (omega arith), is.there))))
]

place_bit : (w : Bits) (j i : ℕ) → 1 ≤ j → IsIndex w j i → bit_at w (i - 1 + 1) ≡ true
place_bit w j i l is = elim (cases_Bool (bit_at w (i - 1 + 1))) [
  | inl yes_it ↦ yes_it
  | inr off ↦
      let z : one_if (bit_at w (i - 1 + 1)) ≡ 0 = ap one_if off in
      let e : ones_to w (i - 1 + 1) ≡ ones_to w i = ap (ones_to w) (let p : i - 1 + 1 ≡ i = omega (arith, place_some w j i l is) in p) in
      absurd (omega (arith, place_some w j i l is, ones_to-more w (i - 1), is.there, is.first (i - 1) (omega (arith, ones_to-more w (i - 1), is.there))))
]

place_one : (w : Bits) (j i t : ℕ) → IsIndex w j i → bit_at w (t + 1) ≡ true → ones_to w (t + 1) ≡ j → t + 1 ≡ i
place_one w j i t is h e = elim (cases_lt i (t + 1)) [
  | inr x ↦ omega (arith, is.first (t + 1) e)
  | inl x ↦ absurd (let o : one_if (bit_at w (t + 1)) ≡ 1 = ap one_if h in omega (arith, ones_to-rises w i t (omega arith), is.there, ones_to-more w t))
]

abbrev entry : Actor → ℕ → ℕ → ℕ → List ℕ
entry actor number k t = cond (bit_at actor.firing (t + 1) && leb (ones_to actor.firing (t + 1)) k) (number ∷ []) []

entry_off : (actor : Actor) (number k t : ℕ) → bit_at actor.firing (t + 1) ≡ false → entry actor number k t ≡ []
entry_off actor number k t h = ap (λ b. cond (b && leb (ones_to actor.firing (t + 1)) k) (number ∷ []) []) h

entry_on : (actor : Actor) (number k t : ℕ) → bit_at actor.firing (t + 1) ≡ true → ones_to actor.firing (t + 1) ≤ k → entry actor number k t ≡ number ∷ []
entry_on actor number k t h l = ap (λ b. cond (b && leb (ones_to actor.firing (t + 1)) k) (number ∷ []) []) h ∙ ap (λ b. cond (true && b) (number ∷ []) []) (le-leb (ones_to actor.firing (t + 1)) k l)

entry_late : (actor : Actor) (number k t : ℕ) → bit_at actor.firing (t + 1) ≡ true → k < ones_to actor.firing (t + 1) → entry actor number k t ≡ []
entry_late actor number k t h l = ap (λ b. cond (b && leb (ones_to actor.firing (t + 1)) k) (number ∷ []) []) h ∙ ap (λ b. cond (true && b) (number ∷ []) []) (lt-leb (ones_to actor.firing (t + 1)) k l)

pub entered_none : (actor : Actor) (number : ℕ) (rows : List (List ℕ)) → AreEntered actor number 0 rows rows
entered_none actor number rows = record {
  count = refl;
  each = λ t l. elim (cases_Bool (bit_at actor.firing (t + 1))) [
    | inr off ↦ sym (append-nil (get_or rows t [])) ∙ ap (λ xs. get_or rows t [] ++ xs) (sym (entry_off actor number 0 t off))
    | inl on ↦
        let o : one_if (bit_at actor.firing (t + 1)) ≡ 1 = ap one_if on in
        sym (append-nil (get_or rows t [])) ∙ ap (λ xs. get_or rows t [] ++ xs) (sym (entry_late actor number 0 t on (omega (arith, ones_to-more actor.firing t))))
  ];
}

entry_next : (actor : Actor) (number k i t : ℕ) → IsIndex actor.firing (k + 1) i → (t ≡ i - 1 → ⊥) → entry actor number k t ≡ entry actor number (k + 1) t
entry_next actor number k i t is ne = elim (cases_Bool (bit_at actor.firing (t + 1))) [
  | inr off ↦ entry_off actor number k t off ∙ sym (entry_off actor number (k + 1) t off)
  | inl on ↦ elim (cases_lt k (ones_to actor.firing (t + 1))) [
    | inr below ↦ entry_on actor number k t on below ∙ sym (entry_on actor number (k + 1) t on (omega arith))
    | inl above ↦ elim (cases_eq (ones_to actor.firing (t + 1)) (k + 1)) [
      | inl here ↦ absurd (ne (let e : t + 1 ≡ i = place_one actor.firing (k + 1) i t is on here in omega arith))
      | inr past ↦ entry_late actor number k t on above ∙ sym (entry_late actor number (k + 1) t on (omega arith))
    ]
  ]
]

-- one firing more
pub entered_more : (actor : Actor) (number k i : ℕ) (start rows new : List (List ℕ)) → AreEntered actor number k start rows → IsIndex actor.firing (k + 1) i → i ≤ length start → new ≡ set rows (i - 1) (get_or rows (i - 1) [] ++ number ∷ []) →
    AreEntered actor number (k + 1) start new
entered_more actor number k i start rows new are is within e =
    let some : 1 ≤ i = place_some actor.firing (k + 1) i (omega arith) is in
    let row : List ℕ = get_or rows (i - 1) [] ++ number ∷ [] in
    let inside : i - 1 < length rows = omega (arith, are.count) in
    record {
      count = ap length e ∙ length-set rows (i - 1) row ∙ are.count;
      each = λ t l. elim (cases_eq t (i - 1)) [
        | inr ne ↦ ap (λ xs. get_or xs t []) e ∙ get_or-set_other rows (i - 1) t row [] ne ∙ are.each t l ∙ ap (λ xs. get_or start t [] ++ xs) (entry_next actor number k i t is ne)
        | inl here ↦
            let on : bit_at actor.firing (t + 1) ≡ true = ap (λ n. bit_at actor.firing (n + 1)) here ∙ place_bit actor.firing (k + 1) i (omega arith) is in
            let ones : ones_to actor.firing (t + 1) ≡ k + 1 = ap (ones_to actor.firing) (let z : t + 1 ≡ i = omega arith in z) ∙ is.there in
            let old : get_or rows t [] ≡ get_or start t [] = are.each t l ∙ ap (λ xs. get_or start t [] ++ xs) (entry_late actor number k t on (omega arith)) ∙ append-nil (get_or start t []) in
            ap (λ xs. get_or xs t []) e ∙ ap (λ n. get_or (set rows (i - 1) row) n []) here ∙ get_or-set_same rows (i - 1) row [] inside
            ∙ ap (λ n. get_or rows n [] ++ number ∷ []) (sym here) ∙ ap (λ xs. xs ++ number ∷ []) old ∙ ap (λ xs. get_or start t [] ++ xs) (sym (entry_on actor number (k + 1) t on (omega arith)))
      ];
    }

busy_here : (net : Net) (t number : ℕ) (actor : Actor) → slice_get net.actors number ≡ Some actor → is_busy net t number ≡ ltb 0 (length (slot_of t (Some actor)))
busy_here net t number actor here = ap (λ xs. ltb 0 (length xs)) (slot_here net t number actor here)

-- one actor more, with its firings
pub gathered_more : (net : Net) (number n : ℕ) (actor : Actor) (rows new : List (List ℕ)) → IsProper net → slice_get net.actors number ≡ Some actor → 0 < length actor.takes + length actor.gives → n ≡ length rows → AreEntered actor number (ones_to actor.firing n) rows new →
    ((t : ℕ) → t < length rows → get_or rows t [] ≡ numbers_where (is_busy net t) number) → (t : ℕ) → t < length new → get_or new t [] ≡ numbers_where (is_busy net t) (number + 1)
gathered_more net number n actor rows new is here some len are h t l =
    let inside : t < length rows = omega (arith, are.count) in
    elim (cases_Bool (bit_at actor.firing (t + 1))) [
      | inl on ↦
          are.each t inside ∙ ap (λ xs. get_or rows t [] ++ xs) (entry_on actor number (ones_to actor.firing n) t on (ones_to-rises actor.firing (t + 1) n (omega arith)))
          ∙ ap (λ xs. xs ++ number ∷ []) (h t inside) ∙ sym (where_yes (is_busy net t) number (busy_here net t number actor here ∙ busy_yes actor t (is.actors number actor here).arity some on))
      | inr off ↦
          are.each t inside ∙ ap (λ xs. get_or rows t [] ++ xs) (entry_off actor number (ones_to actor.firing n) t off) ∙ append-nil (get_or rows t [])
          ∙ h t inside ∙ sym (where_no (is_busy net t) number (busy_here net t number actor here ∙ busy_still actor t off))
    ]

-- or without rings
pub gathered_idle : (net : Net) (number : ℕ) (actor : Actor) (rows : List (List ℕ)) → IsProper net → slice_get net.actors number ≡ Some actor → length actor.takes + length actor.gives ≡ 0 →
    ((t : ℕ) → t < length rows → get_or rows t [] ≡ numbers_where (is_busy net t) number) → (t : ℕ) → t < length rows → get_or rows t [] ≡ numbers_where (is_busy net t) (number + 1)
gathered_idle net number actor rows is here none h t l = h t l ∙ sym (where_no (is_busy net t) number (busy_here net t number actor here ∙ busy_idle actor t (is.actors number actor here).arity none))

pub gathered : (net : Net) (rows : List (List ℕ)) (n : ℕ) → n ≡ length net.actors → ((t : ℕ) → t < length rows → get_or rows t [] ≡ numbers_where (is_busy net t) n) → AreFirings net rows
gathered net rows n e h before row at =
    sym (get_or_from_slice_get rows before row [] at) ∙ h before (slice_get_within rows before row at) ∙ ap (numbers_where (is_busy net before)) e

-- a test that is false of a number above 0
pub none_by : (b : Bool) (n : ℕ) → b ≡ false → (0 < n → b ≡ true) → n ≡ 0
none_by b n h f = elim (cases_lt 0 n) [ inl some ↦ absurd (let e : b ≡ true = f some in cc) | inr none ↦ omega arith ]
