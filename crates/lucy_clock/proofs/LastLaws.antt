-- The last places whose words are asked for, as they are found from the last place to the first.
use Rattle.std.proofs.Common.{ℕ, ◌+◌, ◌-◌, ◌<◌, ◌≤◌, ◌≡◌, max, List, Some, None, length, get_or, set, ap, sym, refl, ◌∙◌, subst, inl, inr, arith, length-set, get_or-set_same, get_or-set_other}
use Rattle.std.specs.Prelude.{slice_index}
use Rattle.std.proofs.lemmas.Bool.{cases_eq}
use Rattle.std.proofs.lemmas.Option.{same_Some}
use Rattle.lucy_word.specs.Bits.{Bits}
use Rattle.lucy_place.specs.declared.entry.PlaceEntry.{PlaceEntry}
use Rattle.lucy_place.specs.declared.entry.PlaceKind.{PlaceKind}
use Rattle.lucy_place.specs.declared.entry.PlaceKind.TheVariants.{Merge}
use Rattle.lucy_place.specs.declared.placed.PlacedNode.{PlacedNode}
use Rattle.lucy_place.specs.Proper.{at_one, Reads, IsUnnamed}
use Rattle.lucy_place.proofs.NodeLaws.{at_one_within}
use Rattle.lucy_clock.specs.Reading.{AreReadersUpto, AsksFor, IsAskedFor, MarksLast, CanHandDown}
use Rattle.lucy_clock.proofs.ReaderLaws.{one_read, reader_bounds}

-- what is no merge asks for its word for the sake of a place further on, and whatever has such a place asks for it
pub asks_other : (kind : PlaceKind) (last : ℕ) → ((word : Bits) (a b : ℕ) → kind ≡ Merge word a b → ⊥) → AsksFor kind last → 0 < last
asks_other (Merge word a b) last other asks = absurd (other word a b refl)
asks_other kind last other asks = asks

pub asks_from : (kind : PlaceKind) (last : ℕ) → 0 < last → AsksFor kind last
asks_from (Merge word a b) last some = tt
asks_from kind last some = some

-- the place with this entry is asked for, by the last place beside it
pub asked_from : (n : PlacedNode) (lasts : List ℕ) (i : ℕ) (entry : PlaceEntry) → at_one n.places (i + 1) ≡ Some entry →
    AsksFor entry.kind (slice_index lasts i) → IsAskedFor n lasts (i + 1)
asked_from n lasts i entry here asks =
    (entry, here, subst (λ k. AsksFor entry.kind (slice_index lasts k)) (let e : i ≡ i + 1 - 1 = omega arith in e) asks)

pub asked_to : (n : PlacedNode) (lasts : List ℕ) (i : ℕ) (entry : PlaceEntry) → at_one n.places (i + 1) ≡ Some entry →
    IsAskedFor n lasts (i + 1) → AsksFor entry.kind (slice_index lasts i)
asked_to n lasts i entry here asked =
    subst (λ (x : PlaceEntry). AsksFor x.kind (slice_index lasts i)) (same_Some asked.0 entry (sym asked.1 ∙ here))
    (subst (λ k. AsksFor asked.0.kind (slice_index lasts k)) (let e : i + 1 - 1 ≡ i = omega arith in e) asked.2)

-- a place that has a name, or whose word isn't asked for, changes nothing
pub marks_nothing : (entry : PlaceEntry) (reader place : ℕ) (old : List ℕ) →
    (entry.name ≡ None → AsksFor entry.kind (slice_index old (place - 1)) → ⊥) → MarksLast entry reader place old old
marks_nothing entry reader place old never =
    record { len = refl; here = λ none asks. absurd (never none asks); behind = λ j l. refl; most = λ j. omega arith }

-- another raises what stands beside its reader
pub marks_raised : (entry : PlaceEntry) (reader place : ℕ) (old new : List ℕ) → 1 ≤ reader → reader < place → place ≤ length old →
    new ≡ set old (reader - 1) (max (slice_index old (reader - 1)) place) → MarksLast entry reader place old new
marks_raised entry reader place old new low before high e = record {
  len = ap length e ∙ length-set old (reader - 1) (max (slice_index old (reader - 1)) place);
  here = λ none asks. (let f = raised in omega (arith, f));
  behind = λ j l. kept j (λ h. omega (arith, h, l, low, before));
  most = λ j. elim (cases_eq j (reader - 1)) [
    | inl same ↦
        let f = raised in
        let g = ap (λ k. slice_index new k) same in
        let h = ap (λ k. slice_index old k) same in
        omega (arith, f, g, h)
    | inr apart ↦ (let f = kept j apart in omega (arith, f))
  ];
}
  where
    raised : slice_index new (reader - 1) ≡ max (slice_index old (reader - 1)) place
    raised =
        ap (λ xs. slice_index xs (reader - 1)) e
        ∙ get_or-set_same old (reader - 1) (max (slice_index old (reader - 1)) place) 0 (omega (arith, low, before, high))

    kept : (j : ℕ) → (j ≡ reader - 1 → ⊥) → slice_index new j ≡ slice_index old j
    kept j apart = ap (λ xs. slice_index xs j) e ∙ get_or-set_other old (reader - 1) j (max (slice_index old (reader - 1)) place) 0 apart

-- the last places are right from a place on
abbrev pub AreLastsFrom : PlacedNode → ℕ → List ℕ → Type 0
AreLastsFrom n i lasts = (p k q : ℕ) → i < q → IsUnnamed n q → IsAskedFor n lasts q → Reads n p k q → q ≤ slice_index lasts (p - 1)

-- one place more
pub lasts_more : (n : PlacedNode) (readers : List ℕ) → AreReadersUpto n (length n.places) readers →
    (place : ℕ) (entry : PlaceEntry) (old new : List ℕ) → at_one n.places place ≡ Some entry →
    AreLastsFrom n place old → MarksLast entry (slice_index readers (place - 1)) place old new → AreLastsFrom n (place - 1) new
lasts_more n readers are place entry old new here before m p k q l un asked reads = elim (cases_eq q place) [
  | inl same ↦
      let asker : asked.0 ≡ entry = same_Some asked.0 entry (sym asked.1 ∙ ap (at_one n.places) same ∙ here) in
      let last : slice_index new (q - 1) ≡ slice_index old (place - 1) =
      ap (λ j. slice_index new (j - 1)) same ∙ m.behind (place - 1) (omega arith) in
      let asks : AsksFor entry.kind (slice_index old (place - 1)) =
      subst (λ (x : PlaceEntry). AsksFor x.kind (slice_index old (place - 1))) asker (subst (AsksFor asked.0.kind) last asked.2) in
      let stands : entry ≡ un.0 = same_Some entry un.0 (sym here ∙ ap (at_one n.places) (sym same) ∙ un.1) in
      let none : entry.name ≡ None = ap (λ (x : PlaceEntry). x.name) stands ∙ un.2 in
      let reader : slice_index readers (place - 1) ≡ p =
      ap (λ j. slice_index readers (j - 1)) (sym same) ∙ are p k q (at_one_within n.places p reads.entry reads.stands).1 un reads in
      let marked : place ≤ slice_index new (p - 1) = subst (λ r. place ≤ slice_index new (r - 1)) reader (m.here none asks) in
      omega (arith, marked, same)
  | inr other ↦
      let far : place < q = omega (arith, l, other) in
      let last = m.behind (q - 1) (omega (arith, far)) in
      let old_asked : IsAskedFor n old q = (asked.0, asked.1, subst (AsksFor asked.0.kind) last asked.2) in
      let marked = before p k q far un old_asked reads in
      let most = m.most (p - 1) in
      omega (arith, marked, most)
]

-- the place that is read as far from the end as the first ones are done
module _ (n : PlacedNode) (readers : List ℕ) (can : CanHandDown n readers) (list : List PlaceEntry) (e : list ≡ n.places)
    (i : ℕ) (l : i < length list) (x : PlaceEntry) (is : x ≡ get_or list (length list - i - 1) x) where
  abbrev place : ℕ
  place = length list - i - 1 + 1

  place_is : place ≡ length list - i - 1 + 1
  place_is = refl

  one_less : place - 1 ≡ length list - i - 1
  one_less = omega (arith, place_is)

  here : at_one n.places place ≡ Some x
  here =
      let len = ap length e in
      one_read list n.places place x e (omega (arith, place_is)) (omega (arith, l, len, place_is))
      (is ∙ ap (λ k. get_or list k x) (sym one_less))

  pub last_reader : x.name ≡ None →
      (1 ≤ slice_index readers (length list - i - 1)) × (slice_index readers (length list - i - 1) < length list - i - 1 + 1)
  last_reader none =
      let b = reader_bounds n can.written can.once place (x, here, none) readers can.beside in
      let r = ap (λ k. slice_index readers k) one_less in
      (omega (arith, b.0, r), omega (arith, b.2, r, place_is))

  pub lasts_next : (old new : List ℕ) → AreLastsFrom n (length n.places - i) old →
      MarksLast x (slice_index readers (length list - i - 1)) (length list - i - 1 + 1) old new →
      AreLastsFrom n (length n.places - (i + 1)) new
  lasts_next old new far m =
      let len = ap length e in
      let before : length n.places - i ≡ place = omega (arith, l, len, place_is) in
      let after : place - 1 ≡ length n.places - (i + 1) = omega (arith, l, len, place_is) in
      subst (λ k. AreLastsFrom n k new) after
      (lasts_more n readers can.beside place x old new here (subst (λ k. AreLastsFrom n k old) before far)
      (subst (λ k. MarksLast x (slice_index readers k) place old new) (sym one_less) m))
