-- Places written beside their operands.
use Rattle.std.proofs.Common.{ℕ, zero, suc, ◌+◌, ◌-◌, ◌<◌, ◌≤◌, ◌≡◌, List, [], ◌∷◌, ◌++◌, Option, Some, None, length, set, ap, sym, refl, ◌∙◌, subst, inl, inr, arith, length-set, get_or-set_same, get_or-set_other}
use Rattle.std.specs.Prelude.{slice_get, slice_index, ◌⊎◌}
use Rattle.std.proofs.lemmas.Bool.{cases_lt, cases_eq}
use Rattle.std.proofs.lemmas.Option.{same_Some}
use Rattle.lucy_place.specs.declared.entry.PlaceEntry.{PlaceEntry}
use Rattle.lucy_place.specs.declared.entry.PlaceKind.{PlaceKind}
use Rattle.lucy_place.specs.declared.entry.PlaceKind.TheVariants.{Result}
use Rattle.lucy_place.specs.declared.entry.CallSite.{CallSite}
use Rattle.lucy_place.specs.declared.placed.PlacedNode.{PlacedNode}
use Rattle.lucy_place.specs.Proper.{operands_of, at_one, Stands, IsPlace, IsNamed, arguments_of, reads_of, Reads, IsUnnamed, AreReadOnce}
use Rattle.lucy_place.specs.WrittenNodes.{IsWritten}
use Rattle.lucy_clock.specs.Reading.{IsAmong, Marks, AreReadersUpto}
use Rattle.lucy_clock.proofs.HandLaws.{unnamed_named, all_named}

push_at : (xs : List ℕ) (x q k : ℕ) → slice_get (xs ++ x ∷ []) k ≡ Some q → IsAmong xs q ⊎ (x ≡ q)
push_at [] x q zero e = inr (same_Some x q e)
push_at [] x q (suc k) e = absurd (cc)
push_at (y ∷ xs) x q zero e = inl (zero, e)
push_at (y ∷ xs) x q (suc k) e = elim (push_at xs x q k e) [ inl m ↦ inl (suc m.0, m.1) | inr f ↦ inr f ]

among_push : (xs : List ℕ) (x q : ℕ) → IsAmong (xs ++ x ∷ []) q → IsAmong xs q ⊎ (x ≡ q)
among_push xs x q m = push_at xs x q m.0 m.1

front_at : (xs : List ℕ) (x q k : ℕ) → slice_get xs k ≡ Some q → slice_get (xs ++ x ∷ []) k ≡ Some q
front_at [] x q k e = absurd (cc)
front_at (y ∷ xs) x q zero e = e
front_at (y ∷ xs) x q (suc k) e = front_at xs x q k e

among_front : (xs : List ℕ) (x q : ℕ) → IsAmong xs q → IsAmong (xs ++ x ∷ []) q
among_front xs x q m = (m.0, front_at xs x q m.0 m.1)

among_last : (xs : List ℕ) (x : ℕ) → IsAmong (xs ++ x ∷ []) x
among_last [] x = (0, refl)
among_last (y ∷ xs) x = let m = among_last xs x in (suc m.0, m.1)

pub marks_push : (place : ℕ) (front old mid new : List ℕ) (x : ℕ) → Marks place front old mid → x - 1 < length mid → new ≡ set mid (x - 1) place → Marks place (front ++ x ∷ []) old new
marks_push place front old mid new x m l e = record {
  len = ap length e ∙ length-set mid (x - 1) place ∙ m.len;
  here = λ q among. elim (cases_eq (q - 1) (x - 1)) [
    | inl same ↦ at q same
    | inr apart ↦ elim (among_push front x q among) [
      | inl before ↦ kept q apart ∙ m.here q before
      | inr here ↦ absurd (apart (ap (λ n. n - 1) (sym here)))
    ]
  ];
  other = λ q. elim (cases_eq (q - 1) (x - 1)) [
    | inl same ↦ inr (at q same, (x, among_last front x, sym same))
    | inr apart ↦ elim (m.other q) [
      | inl old_is ↦ inl (kept q apart ∙ old_is)
      | inr new_is ↦ inr (kept q apart ∙ new_is.0, (new_is.1.0, among_front front x new_is.1.0 new_is.1.1, new_is.1.2))
    ]
  ];
}
  where
    at : (q : ℕ) → q - 1 ≡ x - 1 → slice_index new (q - 1) ≡ place
    at q same = ap (λ n. slice_index new n) same ∙ ap (λ xs. slice_index xs (x - 1)) e ∙ get_or-set_same mid (x - 1) place 0 l

    kept : (q : ℕ) → (q - 1 ≡ x - 1 → ⊥) → slice_index new (q - 1) ≡ slice_index mid (q - 1)
    kept q apart = ap (λ xs. slice_index xs (q - 1)) e ∙ get_or-set_other mid (x - 1) (q - 1) place 0 apart

-- in a written node a place without a name is an operand of what reads it: a call reads names
args_named : (n : PlacedNode) (is_written : IsWritten n) (call k q : ℕ) (o : Option CallSite) → at_one n.calls call ≡ o → slice_get (arguments_of o) k ≡ Some q → IsNamed n q
args_named n is_written call k q None at e = absurd (cc)
args_named n is_written call k q (Some site) at e = all_named n site.args k q (is_written.arguments call site at) e

pub unnamed_among : (n : PlacedNode) → IsWritten n → (p k q : ℕ) (kind : PlaceKind) → Stands n p kind → IsUnnamed n q → slice_get (reads_of n kind) k ≡ Some q → slice_get (operands_of kind) k ≡ Some q
unnamed_among n is_written p k q (Result call zero) stands un e = absurd (unnamed_named n q un (args_named n is_written call k q (at_one n.calls call) refl e))
unnamed_among n is_written p k q (Result call (suc j)) stands un e = e
unnamed_among n is_written p k q kind stands un e = e

-- and an operand is read
pub among_reads : (n : PlacedNode) (k q : ℕ) (kind : PlaceKind) → slice_get (operands_of kind) k ≡ Some q → slice_get (reads_of n kind) k ≡ Some q
among_reads n k q (Result call j) e = absurd (cc)
among_reads n k q kind e = e

module _ (n : PlacedNode) (is_written : IsWritten n) (once : AreReadOnce n) (inside : (p q : ℕ) (entry : PlaceEntry) → at_one n.places p ≡ Some entry → IsAmong (operands_of entry.kind) q → IsPlace n q) where
  pub readers_more : (i : ℕ) (entry : PlaceEntry) (old new : List ℕ) → at_one n.places (i + 1) ≡ Some entry → AreReadersUpto n i old → Marks (i + 1) (operands_of entry.kind) old new → AreReadersUpto n (i + 1) new
  readers_more i entry old new here far m p k q l un reads =
      elim (cases_lt i p) [
        | inl now ↦
            let at : p ≡ i + 1 = omega arith in
            let same : reads.entry ≡ entry = same_Some reads.entry entry (sym reads.stands ∙ ap (at_one n.places) at ∙ here) in
            let e : slice_get (operands_of entry.kind) k ≡ Some q =
            subst (λ (x : PlaceEntry). slice_get (operands_of x.kind) k ≡ Some q) same (unnamed_among n is_written p k q reads.entry.kind (reads.entry, reads.stands, refl) un reads.reads) in
            m.here q (k, e) ∙ sym at
        | inr before ↦ elim (m.other q) [
          | inl kept ↦ kept ∙ far p k q before un reads
          | inr now ↦
              let place = inside (i + 1) now.1.0 entry here now.1.1 in
              let found = un_place q un in
              let same : now.1.0 ≡ q = (let c = now.1.2 in let d = place.0 in omega arith) in
              let other : Reads n (i + 1) now.1.1.0 q = record { entry = entry; stands = here; reads = among_reads n now.1.1.0 q entry.kind (now.1.1.1 ∙ ap (λ x. Some x) same) } in
              let one = once q un in
              now.0 ∙ (one.only (i + 1) now.1.1.0 other).0 ∙ sym (one.only p k reads).0
        ]
      ]
    where
      un_place : (r : ℕ) → IsUnnamed n r → 1 ≤ r
      un_place zero u = absurd (let e = u.1 in cc)
      un_place (suc r) u = omega arith
