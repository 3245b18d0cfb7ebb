-- Rings given to the drafts from which they come, and the actors of the drafts.
use Rattle.std.proofs.Common.{ℕ, suc, zero, ◌+◌, ◌<◌, ◌≤◌, ◌≡◌, cond, List, [], ◌∷◌, ◌++◌, Some, length, take, get_or, set, ap, sym, refl, ◌∙◌, subst, inl, inr, arith, add-one}
use Rattle.std.specs.Prelude.{◌⊎◌, sum_by, slice_get}
use Rattle.std.specs.List.{range_with_len}
use Rattle.std.proofs.lemmas.Bool.{cases_lt, cases_eq, eq-eqb, ne_eqb}
use Rattle.std.proofs.lemmas.List.{append-nil, length_push, length-set, take-append-le}
use Rattle.std.proofs.lemmas.List.Sums.{sum_by-cons, sum_by-append}
use Rattle.std.proofs.lemmas.Option.{same_Some, slice_get_within}
use Rattle.lucy_word.proofs.Lists.{still_there, get_set, get_set_other}
use Rattle.lucy_host.proofs.Elements.{get_there}
use Rattle.lucy_net.specs.declared.net.Actor.{Actor}
use Rattle.lucy_net.specs.declared.net.RingSpec.{RingSpec}
use Rattle.lucy_flat.specs.declared.draft.Draft.{Draft}
use Rattle.lucy_flat.specs.Assembly.{from_of, from_at, given_by, reads_count, first_ring, all_reads, HasKind, AreReadyDrafts, AreRingsOf, IsGiven, AreGiven, IsFiring, IsDraftActor, AreActorsOf, IsActorFrom, IsAssembled, IsReadTooLong}
use Rattle.lucy_flat.proofs.AssemblyLaws.{get_last, present, find_ring}

pub count_all : (ds : List Draft) → first_ring ds (length ds) ≡ all_reads ds
count_all [] = refl
count_all (d ∷ ds) = omega (arith, sum_by-cons reads_count d (take (length ds) ds), sum_by-cons reads_count d ds, count_all ds)

-- a ring comes from a draft
pub ring_source : (drafts : List Draft) (rings : List RingSpec) (r : ℕ) (ring : RingSpec) → AreRingsOf drafts (length drafts) rings → slice_get rings r ≡ Some ring → ring.from < length drafts
ring_source drafts rings r ring are e =
    let within = slice_get_within rings r ring e in
    let all = count_all drafts in
    let o = find_ring drafts r (omega (arith, within, are.count, all)) in
    let own = are.each o.a o.k o.source o.draft (slice_get_within drafts o.a o.draft o.there) o.there o.reads in
    let same : own.0 ≡ ring = same_Some own.0 ring (sym own.1 ∙ ap (slice_get rings) o.is ∙ e) in
    let source = slice_get_within drafts o.source own.2.giver own.2.gives in
    let from : own.0.from ≡ ring.from = ap (λ (t : RingSpec). t.from) same in
    omega (arith, source, own.2.from, from)

-- one ring more is handed out
given_here : (rings : List RingSpec) (r a : ℕ) → from_at rings r ≡ a → given_by rings (r + 1) a ≡ given_by rings r a ++ r ∷ []
given_here rings r a e = ap (λ n. given_by rings n a) (add-one r) ∙ ap (λ b. given_by rings r a ++ cond b (r ∷ []) []) (eq-eqb (from_at rings r) a e)

given_other : (rings : List RingSpec) (r a : ℕ) → (from_at rings r ≡ a → ⊥) → given_by rings (r + 1) a ≡ given_by rings r a
given_other rings r a n = ap (λ m. given_by rings m a) (add-one r) ∙ ap (λ b. given_by rings r a ++ cond b (r ∷ []) []) (ne_eqb (from_at rings r) a n) ∙ append-nil (given_by rings r a)

pub given_more : (old : List Draft) (rings : List RingSpec) (r : ℕ) (new : List Draft) (ring : RingSpec) (d next : Draft) → AreGiven old rings r new → slice_get rings r ≡ Some ring → slice_get new ring.from ≡ Some d →
    next.kind ≡ d.kind → next.word ≡ d.word → next.reads.items ≡ d.reads.items → next.gives.items ≡ d.gives.items ++ r ∷ [] → AreGiven old rings (r + 1) (set new ring.from next)
given_more old rings r new ring d next are e f kind word reads gives = record {
  count = length-set new ring.from next ∙ are.count;
  each = λ a draft g. each_at a draft g (cases_eq a ring.from);
}
  where
    source : from_at rings r ≡ ring.from
    source = ap from_of e

    each_at : (a : ℕ) (draft : Draft) → slice_get old a ≡ Some draft → (a ≡ ring.from) ⊎ (a ≡ ring.from → ⊥) → (x : Draft) × (slice_get (set new ring.from next) a ≡ Some x) × IsGiven rings (r + 1) a draft x
    each_at a draft g (inl same) =
        let before = are.each a draft g in
        let d_is : before.0 ≡ d = same_Some before.0 d (sym before.1 ∙ ap (slice_get new) same ∙ f) in
        let within = slice_get_within new ring.from d f in (
          next,
          ap (slice_get (set new ring.from next)) same ∙ get_set new ring.from next within,
          record {
            kind = kind ∙ ap (λ (t : Draft). t.kind) (sym d_is) ∙ before.2.kind;
            word = word ∙ ap (λ (t : Draft). t.word) (sym d_is) ∙ before.2.word;
            reads = reads ∙ ap (λ (t : Draft). t.reads.items) (sym d_is) ∙ before.2.reads;
            gives = gives ∙ ap (λ (t : Draft). t.gives.items ++ r ∷ []) (sym d_is) ∙ ap (λ t. t ++ r ∷ []) before.2.gives ∙ sym (given_here rings r a (source ∙ sym same));
          },
        )
    each_at a draft g (inr other) =
        let before = are.each a draft g in (
          before.0,
          get_set_other new ring.from a next other ∙ before.1,
          record {
            kind = before.2.kind;
            word = before.2.word;
            reads = before.2.reads;
            gives = before.2.gives ∙ sym (given_other rings r a (λ same. other (sym same ∙ source)));
          },
        )

-- the actors so far
pub actors_none : (rings : List RingSpec) → AreActorsOf rings [] []
actors_none rings = record { count = refl; each = λ a draft e. absurd (cc e) }

pub first_front : (done more : List Draft) (a : ℕ) → a ≤ length done → first_ring (done ++ more) a ≡ first_ring done a
first_front done more a l = ap (sum_by reads_count) (take-append-le a done more l)

pub actors_more : (rings : List RingSpec) (done : List Draft) (actors : List Actor) (draft : Draft) (actor : Actor) → AreActorsOf rings done actors → IsDraftActor rings (all_reads done) draft actor → AreActorsOf rings (done ++ draft ∷ []) (actors ++ actor ∷ [])
actors_more rings done actors draft actor are is = record {
  count = omega (arith, are.count, length_push actors actor, length_push done draft);
  each = λ a d e. each_at a d e (cases_lt a (length done));
}
  where
    each_at : (a : ℕ) (d : Draft) → slice_get (done ++ draft ∷ []) a ≡ Some d → (a < length done) ⊎ (length done ≤ a) → (x : Actor) × (slice_get (actors ++ actor ∷ []) a ≡ Some x) × IsDraftActor rings (first_ring (done ++ draft ∷ []) a) d x
    each_at a d e (inl low) =
        let own = get_there done a low in
        let same : own.0 ≡ d = same_Some own.0 d (sym (still_there done (draft ∷ []) a own.0 own.1) ∙ e) in
        let x = are.each a d (own.1 ∙ ap (λ t. Some t) same) in
        (x.0, still_there actors (actor ∷ []) a x.0 x.1, subst (λ n. IsDraftActor rings n d x.0) (sym (first_front done (draft ∷ []) a (omega (arith, low)))) x.2)
    each_at a d e (inr high) =
        let within = slice_get_within (done ++ draft ∷ []) a d e in
        let a_is : length done ≡ a = omega (arith, within, high, length_push done draft) in
        let same : draft ≡ d = same_Some draft d (sym (get_last done a draft a_is) ∙ e) in
        let first : all_reads done ≡ first_ring (done ++ draft ∷ []) a = sym (count_all done) ∙ ap (first_ring done) a_is ∙ sym (first_front done (draft ∷ []) a (omega (arith, a_is))) in
        (actor, get_last actors a actor (are.count ∙ a_is), subst (λ n. IsDraftActor rings n d actor) first (subst (λ t. IsDraftActor rings (all_reads done) t actor) same is))

pub reads_more : (done : List Draft) (draft : Draft) → all_reads (done ++ draft ∷ []) ≡ all_reads done + reads_count draft
reads_more done draft = omega (arith, sum_by-append reads_count done (draft ∷ []), sum_by-cons reads_count draft [])

pub reads_within : (done rest : List Draft) (draft : Draft) → all_reads done + reads_count draft ≤ all_reads (done ++ draft ∷ rest)
reads_within done rest draft = omega (arith, sum_by-append reads_count done (draft ∷ rest), sum_by-cons reads_count draft rest)

-- drafts with the same operands
same_reads : (old new : List Draft) → length new ≡ length old → ((a : ℕ) (d : Draft) → slice_get old a ≡ Some d → (x : Draft) × (slice_get new a ≡ Some x) × (reads_count x ≡ reads_count d)) → (a : ℕ) → first_ring new a ≡ first_ring old a
same_reads [] [] l h a = refl
same_reads [] (x ∷ new) l h a = absurd (omega (arith, l))
same_reads (d ∷ old) [] l h a = absurd (omega (arith, l))
same_reads (d ∷ old) (x ∷ new) l h zero = refl
same_reads (d ∷ old) (x ∷ new) l h (suc a) =
    let own = h 0 d refl in
    let same : reads_count x ≡ reads_count own.0 = ap reads_count (same_Some x own.0 own.1) in
    let rest = same_reads old new (omega (arith, l)) (λ b e f. h (suc b) e f) a in
    omega (arith, own.2, same, rest, sum_by-cons reads_count x (take a new), sum_by-cons reads_count d (take a old))

module _ (old given : List Draft) (rings : List RingSpec) (are : AreGiven old rings (length rings) given) where
  given_count : (a : ℕ) (d : Draft) → slice_get old a ≡ Some d → (x : Draft) × (slice_get given a ≡ Some x) × (reads_count x ≡ reads_count d)
  given_count a d e = let x = are.each a d e in (x.0, x.1, ap length x.2.reads)

  pub given_first : (a : ℕ) → first_ring given a ≡ first_ring old a
  given_first = same_reads old given are.count given_count

  pub given_all : all_reads given ≡ all_reads old
  given_all = sym (count_all given) ∙ given_first (length given) ∙ ap (first_ring old) are.count ∙ count_all old

  -- what stands in the drafts given stood there before
  pub given_from : (a : ℕ) (x : Draft) → slice_get given a ≡ Some x → (d : Draft) × (slice_get old a ≡ Some d) × IsGiven rings (length rings) a d x
  given_from a x e =
      let within = slice_get_within given a x e in
      let d = get_there old a (omega (arith, within, are.count)) in
      let own = are.each a d.0 d.1 in
      (d.0, d.1, subst (IsGiven rings (length rings) a d.0) (same_Some own.0 x (sym own.1 ∙ e)) own.2)

  pub given_kinds : AreReadyDrafts old → (a : ℕ) (x : Draft) → slice_get given a ≡ Some x → HasKind x.kind (reads_count x)
  given_kinds ready a x e =
      let d = given_from a x e in
      let is = ready.kinds a d.0 d.1 in
      subst (λ k. HasKind k (reads_count x)) (sym d.2.kind) (subst (HasKind d.0.kind) (ap length (sym d.2.reads)) is)

  pub assembled : (actors : List Actor) → AreRingsOf old (length old) rings → AreActorsOf rings given actors → IsAssembled old (record { actors = actors; rings = rings })
  assembled actors are_rings are_actors = record {
    count = are_actors.count ∙ are.count;
    rings = are_rings;
    actors = λ a d e. actor_at a d e;
  }
    where
      actor_at : (a : ℕ) (d : Draft) → slice_get old a ≡ Some d → (actor : Actor) × (slice_get actors a ≡ Some actor) × IsActorFrom old (record { actors = actors; rings = rings }) a d actor
      actor_at a d e =
          let x = are.each a d e in
          let own = are_actors.each a x.0 x.1 in
          let count : reads_count x.0 ≡ reads_count d = ap length x.2.reads in (
            own.0,
            own.1,
            record {
              kind = own.2.kind ∙ x.2.kind;
              takes = own.2.takes ∙ ap (λ n. range_with_len n (reads_count x.0)) (given_first a) ∙ ap (range_with_len (first_ring old a)) count;
              gives = own.2.gives ∙ x.2.gives;
              firing = subst (λ n. IsFiring d.kind d.word (slice_get rings n) own.0.firing) (given_first a) (subst (λ w. IsFiring d.kind w (slice_get rings (first_ring given a)) own.0.firing) x.2.word
                  (subst (λ k. IsFiring k x.0.word (slice_get rings (first_ring given a)) own.0.firing) x.2.kind own.2.firing));
            },
          )

-- no operand's word is too long where all rings are there
pub rings_fit : (drafts : List Draft) (rings : List RingSpec) → AreRingsOf drafts (length drafts) rings → IsReadTooLong drafts → ⊥
rings_fit drafts rings are long =
    let source = present long.draft.reads.items long.operand long.within in
    let ring = are.each long.a long.operand (get_or long.draft.reads.items long.operand 0) long.draft (slice_get_within drafts long.a long.draft long.there) long.there source in
    ring.2.fits long.too_long

pub get_middle : {A : Type 0} (xs : List A) (x : A) (ys : List A) → slice_get (xs ++ x ∷ ys) (length xs) ≡ Some x
get_middle [] x ys = refl
get_middle (y ∷ xs) x ys = get_middle xs x ys
