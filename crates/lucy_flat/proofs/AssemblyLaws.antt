-- Rings one after another.
use Rattle.std.proofs.Common.{ℕ, suc, zero, ◌+◌, ◌-◌, ◌<◌, ◌≤◌, ◌≡◌, List, [], ◌∷◌, ◌++◌, Some, length, get_or, take, ap, sym, refl, ◌∙◌, subst, inl, inr, arith, add-one}
use Rattle.std.specs.Prelude.{sum_by, slice_get, ◌⊎◌}
use Rattle.std.proofs.lemmas.List.{length_push}
use Rattle.std.proofs.lemmas.List.Sums.{sum_by-cons}
use Rattle.std.proofs.lemmas.Bool.{cases_lt}
use Rattle.std.proofs.lemmas.Option.{same_Some, slice_get_within}
use Rattle.lucy_word.specs.Bits.{Bits}
use Rattle.lucy_word.specs.Shortest.{IsShortest}
use Rattle.lucy_word.specs.Sampling.{IsOn, IsOnTooLong}
use Rattle.lucy_word.specs.Complement.{turned}
use Rattle.lucy_word.proofs.Lists.{still_there}
use Rattle.lucy_net.specs.declared.kind.ActorKind.{ActorKind}
use Rattle.lucy_net.specs.declared.kind.ActorKind.TheVariants.{Merge}
use Rattle.lucy_net.specs.declared.net.RingSpec.{RingSpec}
use Rattle.lucy_flat.specs.declared.draft.Draft.{Draft}
use Rattle.lucy_flat.specs.Assembly.{reads_count, first_ring, all_reads, IsRingOf, AreRingsOf, AreRingsSoFar, IsReadOn, ReadsTooLong}

-- the last of a list with one more
pub get_last : {A : Type 0} (xs : List A) (i : ℕ) (x : A) → length xs ≡ i → slice_get (xs ++ x ∷ []) i ≡ Some x
get_last [] zero x e = refl
get_last [] (suc i) x e = absurd (omega (arith, e))
get_last (y ∷ xs) zero x e = absurd (omega (arith, e))
get_last (y ∷ xs) (suc i) x e = get_last xs i x (omega (arith, e))

-- where the rings of the next draft begin
pub first_next : (drafts : List Draft) (a : ℕ) (draft : Draft) → slice_get drafts a ≡ Some draft → first_ring drafts (a + 1) ≡ first_ring drafts a + reads_count draft
first_next drafts a draft e = ap (first_ring drafts) (add-one a) ∙ step drafts a e
  where
    step : (ds : List Draft) (i : ℕ) → slice_get ds i ≡ Some draft → sum_by reads_count (take (suc i) ds) ≡ sum_by reads_count (take i ds) + reads_count draft
    step [] i f = absurd (cc f)
    step (d ∷ ds) zero f =
        let same : d ≡ draft = same_Some d draft f in
        let count : reads_count d ≡ reads_count draft = ap reads_count same in
        omega (arith, sum_by-cons reads_count d [])
    step (d ∷ ds) (suc i) f = omega (arith, sum_by-cons reads_count d (take (suc i) ds), sum_by-cons reads_count d (take i ds), step ds i f)

pub so_far_none : (drafts : List Draft) (to : ℕ) (rings : List RingSpec) → AreRingsOf drafts to rings → AreRingsSoFar drafts to 0 rings
so_far_none drafts to rings is = record {
  count = omega (arith, is.count);
  before = is.each;
  here = λ k from draft l. absurd (omega (arith, l));
}

pub so_far_more : (drafts : List Draft) (to upto : ℕ) (rings : List RingSpec) (next : RingSpec) →
    AreRingsSoFar drafts to upto rings → ((from : ℕ) (draft : Draft) → slice_get drafts to ≡ Some draft → slice_get draft.reads.items upto ≡ Some from → IsRingOf drafts to upto from draft next) →
    AreRingsSoFar drafts to (upto + 1) (rings ++ next ∷ [])
so_far_more drafts to upto rings next is new = record {
  count = omega (arith, is.count, length_push rings next);
  before = λ a k from draft l e f. (let r = is.before a k from draft l e f in (r.0, still_there rings (next ∷ []) (first_ring drafts a + k) r.0 r.1, r.2));
  here = λ k from draft l e f. here_at k from draft l e f (cases_lt k upto);
}
  where
    here_at : (k from : ℕ) (draft : Draft) → k < upto + 1 → slice_get drafts to ≡ Some draft → slice_get draft.reads.items k ≡ Some from → (k < upto) ⊎ (upto ≤ k) →
        (ring : RingSpec) × (slice_get (rings ++ next ∷ []) (first_ring drafts to + k) ≡ Some ring) × IsRingOf drafts to k from draft ring
    here_at k from draft l e f (inl low) = let r = is.here k from draft low e f in (r.0, still_there rings (next ∷ []) (first_ring drafts to + k) r.0 r.1, r.2)
    here_at k from draft l e f (inr high) =
        let same : upto ≡ k = omega (arith, l, high) in
        let at : length rings ≡ first_ring drafts to + k = omega (arith, is.count) in
        let got : slice_get draft.reads.items upto ≡ Some from = ap (slice_get draft.reads.items) same ∙ f in
        (next, get_last rings (first_ring drafts to + k) next at, subst (λ t. IsRingOf drafts to t from draft next) same (new from draft e got))

pub so_far_all : (drafts : List Draft) (to : ℕ) (draft : Draft) (rings : List RingSpec) → slice_get drafts to ≡ Some draft → AreRingsSoFar drafts to (reads_count draft) rings → AreRingsOf drafts (to + 1) rings
so_far_all drafts to draft rings e is = record {
  count = is.count ∙ sym (first_next drafts to draft e);
  each = λ a k from other l f g. each_at a k from other l f g (cases_lt a to);
}
  where
    each_at : (a k from : ℕ) (other : Draft) → a < to + 1 → slice_get drafts a ≡ Some other → slice_get other.reads.items k ≡ Some from → (a < to) ⊎ (to ≤ a) →
        (ring : RingSpec) × (slice_get rings (first_ring drafts a + k) ≡ Some ring) × IsRingOf drafts a k from other ring
    each_at a k from other l f g (inl low) = is.before a k from other low f g
    each_at a k from other l f g (inr high) =
        let same : to ≡ a = omega (arith, l, high) in
        let draft_is : draft ≡ other = same_Some draft other (sym e ∙ ap (slice_get drafts) same ∙ f) in
        let got : slice_get draft.reads.items k ≡ Some from = ap (λ (d : Draft). slice_get d.reads.items k) draft_is ∙ g in
        let within = slice_get_within draft.reads.items k from got in
        let r = is.here k from draft (omega (arith, within)) e got in
        (r.0, ap (λ t. slice_get rings (first_ring drafts t + k)) (sym same) ∙ r.1, subst (λ t. IsRingOf drafts t k from other r.0) same (subst (λ (d : Draft). IsRingOf drafts to k from d r.0) draft_is r.2))

pub rings_none : (drafts : List Draft) → AreRingsOf drafts 0 []
rings_none drafts = record {
  count = refl;
  each = λ a k from draft l. absurd (omega (arith, l));
}

-- the second operand of a merge
pub read_other : (kind : ActorKind) (k : ℕ) (p own write w : Bits) → kind ≡ Merge p → (k ≡ 0 → ⊥) → IsOn own (turned p) w → IsReadOn kind k own write w
read_other kind zero p own write w e other is = absurd (other refl)
read_other kind (suc k) p own write w e other is = subst (λ t. IsReadOn t (suc k) own write w) (sym e) is

pub long_other : (kind : ActorKind) (k : ℕ) (p own : Bits) → kind ≡ Merge p → (k ≡ 0 → ⊥) → IsOnTooLong own (turned p) → ReadsTooLong kind k own
long_other kind zero p own e other is = absurd (other refl)
long_other kind (suc k) p own e other is = subst (λ t. ReadsTooLong t (suc k) own) (sym e) is

pub long_back : (kind : ActorKind) (k : ℕ) (p own : Bits) → kind ≡ Merge p → (k ≡ 0 → ⊥) → ReadsTooLong kind k own → IsOnTooLong own (turned p)
long_back kind zero p own e other is = absurd (other refl)
long_back kind (suc k) p own e other is = subst (λ t. ReadsTooLong t (suc k) own) e is

-- the ring of an operand
pub ring_is : (drafts : List Draft) (a k : ℕ) (taker giver draft : Draft) (source from : ℕ) (write read : Bits) → slice_get drafts a ≡ Some taker → slice_get taker.reads.items k ≡ Some source → slice_get drafts source ≡ Some giver →
    write ≡ giver.word → IsReadOn taker.kind k taker.word write read → IsShortest read → (ReadsTooLong taker.kind k taker.word → ⊥) →
    slice_get drafts a ≡ Some draft → slice_get draft.reads.items k ≡ Some from →
    IsRingOf drafts a k from draft (record { from = source; to = a; write = write; read = read; size = taker.size })
ring_is drafts a k taker giver draft source from write read at got there wrote is short fits at_other got_other =
    let same : taker ≡ draft = same_Some taker draft (sym at ∙ at_other) in
    let got_same : slice_get taker.reads.items k ≡ Some from = ap (λ (d : Draft). slice_get d.reads.items k) same ∙ got_other in
    let source_is : source ≡ from = same_Some source from (sym got ∙ got_same) in
    subst (λ (d : Draft). IsRingOf drafts a k from d (record { from = source; to = a; write = write; read = read; size = taker.size })) same
    (record {
      giver = giver;
      gives = ap (slice_get drafts) (sym source_is) ∙ there;
      from = source_is;
      to = refl;
      size = refl;
      write = wrote;
      read = subst (λ t. IsReadOn taker.kind k taker.word t read) wrote is;
      shortest = short;
      fits = fits;
    })

pub present : (xs : List ℕ) (i : ℕ) → i < length xs → slice_get xs i ≡ Some (get_or xs i 0)
present [] i h = absurd (omega (arith, h))
present (x ∷ xs) zero h = refl
present (x ∷ xs) (suc i) h = present xs i (omega (arith, h))

-- a ring is that of some operand of some draft
pub record IsOperandRing (drafts : List Draft) (r : ℕ) : Type 0 where
  pub a : ℕ
  pub k : ℕ
  pub draft : Draft
  pub source : ℕ
  pub there : slice_get drafts a ≡ Some draft
  pub reads : slice_get draft.reads.items k ≡ Some source
  pub is : first_ring drafts a + k ≡ r

pub find_ring : (drafts : List Draft) (r : ℕ) → r < all_reads drafts → IsOperandRing drafts r
find_ring [] r l = absurd (omega (arith, l))
find_ring (d ∷ drafts) r l = at_head (λ h. find_ring drafts (r - reads_count d) h) (cases_lt r (reads_count d))
  where
    at_head : (r - reads_count d < all_reads drafts → IsOperandRing drafts (r - reads_count d)) → (r < reads_count d) ⊎ (reads_count d ≤ r) → IsOperandRing (d ∷ drafts) r
    at_head rest (inl low) =
        record { a = 0; k = r; draft = d; source = get_or d.reads.items r 0; there = refl; reads = present d.reads.items r low; is = omega arith }
    at_head rest (inr high) =
        let sum = sum_by-cons reads_count d drafts in
        let f = rest (omega (arith, l, sum, high)) in
        let next = sum_by-cons reads_count d (take f.a drafts) in
        record { a = suc f.a; k = f.k; draft = f.draft; source = f.source; there = f.there; reads = f.reads; is = omega (arith, next, f.is, high) }
