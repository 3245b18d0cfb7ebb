-- The net of drafts of which not all rings are held.
use Rattle.std.proofs.Common.{ℕ, suc, zero, ◌+◌, ◌<◌, ◌≤◌, ◌≡◌, List, [], ◌∷◌, ◌++◌, Option, Some, None, length, map, ap, sym, refl, ◌∙◌, subst, inl, inr, arith}
use Rattle.std.specs.Prelude.{All, sum_by, slice_get, ◌⊎◌}
use Rattle.std.specs.List.{range_with_len}
use Rattle.std.proofs.lemmas.Bool.{cases_lt}
use Rattle.std.proofs.lemmas.List.Elements.{All-append, All-cons, All-nil, All-head, All-tail}
use Rattle.std.proofs.lemmas.List.Sums.{sum_by-append, sum_by-cons}
use Rattle.std.proofs.lemmas.Option.{same_Some, slice_get_within}
use Rattle.lucy_word.specs.Bits.{Bits}
use Rattle.lucy_word.specs.Limits.{limit_number}
use Rattle.lucy_word.specs.declared.limit.Limit.TheVariants as limit
use Rattle.lucy_word.specs.Stored.{IsStored}
use Rattle.lucy_net.specs.declared.kind.ActorKind.{ActorKind}
use Rattle.lucy_net.specs.declared.kind.ActorKind.TheVariants.{When}
use Rattle.lucy_net.specs.declared.net.Actor.{Actor}
use Rattle.lucy_net.specs.declared.net.RingSpec.{RingSpec}
use Rattle.lucy_net.specs.declared.net.Net.{Net}
use Rattle.lucy_net.specs.Words.{ring_words, net_words}
use Rattle.lucy_flat.specs.declared.draft.Draft.{Draft}
use Rattle.lucy_flat.specs.declared.held.Held.{Held}
use Rattle.lucy_flat.specs.Extents.{ring_bits}
use Rattle.lucy_flat.specs.Assembly.{reads_count, first_ring, IsRingOf, AreRingsOf, IsFiring, IsSampling, given_by, IsAssembled, HasKind, AreReadyDrafts, AreHeld, AreRingsHeld, AreRingsHeldSoFar, IsReadTooLong, IsNetPast}
use Rattle.lucy_flat.proofs.AssemblyLaws.{so_far_none, so_far_more, so_far_all, rings_none, present}
use Rattle.lucy_flat.proofs.GivingLaws.{rings_fit}
use Rattle.lucy_flat.proofs.NetLaws.{words_bits}

words_push : (rings : List RingSpec) (next : RingSpec) → ring_words (rings ++ next ∷ []) ≡ ring_words rings ++ next.write ∷ next.read ∷ []
words_push [] next = refl
words_push (ring ∷ rings) next = ap (λ t. ring.write ∷ ring.read ∷ t) (words_push rings next)

-- one ring more, which is held or not
pub words_stored : (rings : List RingSpec) (next : RingSpec) → All IsStored (ring_words rings) → IsStored next.write → IsStored next.read → All IsStored (ring_words (rings ++ next ∷ []))
words_stored rings next all write read =
    subst (All IsStored) (sym (words_push rings next))
    (All-append IsStored (ring_words rings) (next.write ∷ next.read ∷ []) all (All-cons IsStored next.write (next.read ∷ []) write (All-cons IsStored next.read [] read (All-nil IsStored))))

bits_push : (rings : List RingSpec) (next : RingSpec) → sum_by ring_bits (rings ++ next ∷ []) ≡ sum_by ring_bits rings + ring_bits next
bits_push rings next =
    let sum = sum_by-append ring_bits rings (next ∷ []) in
    let one = sum_by-cons ring_bits next [] in
    omega arith

pub held_past : (rings : List RingSpec) (old new : Held) (next : RingSpec) → AreHeld rings old → IsStored next.write → IsStored next.read → new.bits ≤ old.bits + ring_bits next → limit_number limit.Bits < new.bits → new.rings.items ≡ old.rings.items →
    AreHeld (rings ++ next ∷ []) new
held_past rings old new next are write read most past same = record {
  stored = words_stored rings next are.stored write read;
  most = (let before = are.most in let sum = bits_push rings next in omega arith);
  all = λ l. absurd (omega (arith, l));
  few = (let before = are.few in let sum = ap (sum_by ring_bits) same in omega arith);
}

pub held_push : (rings : List RingSpec) (old new : Held) (next : RingSpec) → AreHeld rings old → IsStored next.write → IsStored next.read → new.bits ≡ old.bits + ring_bits next → new.bits ≤ limit_number limit.Bits → new.rings.items ≡ old.rings.items ++ next ∷ [] →
    AreHeld (rings ++ next ∷ []) new
held_push rings old new next are write read is few put =
    let before = are.all (omega arith) in
    let same : new.rings.items ≡ rings ++ next ∷ [] = put ∙ ap (λ t. t ++ next ∷ []) before.0 in
    let old_bits = before.1 in
    let sum = bits_push rings next in
    let new_sum = ap (sum_by ring_bits) same in
    record { stored = words_stored rings next are.stored write read; most = omega arith; all = λ l. (same, omega arith); few = omega arith }

pub held_none : (held : Held) → held.rings.items ≡ [] → held.bits ≡ 0 → AreHeld [] held
held_none held none bits = record { stored = All-nil IsStored; most = omega arith; all = λ l. (none, bits); few = (let sum = ap (sum_by ring_bits) none in omega arith) }

pub rings_held_none : (drafts : List Draft) (held : Held) → held.rings.items ≡ [] → held.bits ≡ 0 → AreRingsHeld drafts 0 held
rings_held_none drafts held none bits = record {
  rings = [];
  are = rings_none drafts;
  holds = held_none held none bits;
  words = λ a draft l e. absurd (omega (arith, l));
}

-- those of one operand more, and those of one draft more
pub held_first : (drafts : List Draft) (to : ℕ) (held : Held) → AreRingsHeld drafts to held → AreRingsHeldSoFar drafts to 0 held
held_first drafts to held are = record { rings = are.rings; are = so_far_none drafts to are.rings are.are; holds = are.holds }

pub held_next : (drafts : List Draft) (to upto : ℕ) (old new : Held) (next : RingSpec) → (before : AreRingsHeldSoFar drafts to upto old) →
    ((from : ℕ) (draft : Draft) → slice_get drafts to ≡ Some draft → slice_get draft.reads.items upto ≡ Some from → IsRingOf drafts to upto from draft next) → AreHeld (before.rings ++ next ∷ []) new →
    AreRingsHeldSoFar drafts to (upto + 1) new
held_next drafts to upto old new next before is holds = record { rings = before.rings ++ next ∷ []; are = so_far_more drafts to upto before.rings next before.are is; holds = holds }

pub held_all : (drafts : List Draft) (to : ℕ) (draft : Draft) (old new : Held) → slice_get drafts to ≡ Some draft → AreRingsHeld drafts to old → IsStored draft.word → AreRingsHeldSoFar drafts to (reads_count draft) new →
    AreRingsHeld drafts (to + 1) new
held_all drafts to draft old new at before stored are = record {
  rings = are.rings;
  are = so_far_all drafts to draft are.rings at are.are;
  holds = are.holds;
  words = λ a d l e. word_at a d l e (cases_lt a to);
}
  where
    word_at : (a : ℕ) (d : Draft) → a < to + 1 → slice_get drafts a ≡ Some d → (a < to) ⊎ (to ≤ a) → IsStored d.word
    word_at a d l e (inl low) = before.words a d low e
    word_at a d l e (inr high) =
        let same : to ≡ a = omega (arith, l, high) in
        subst (λ (x : Draft). IsStored x.word) (same_Some draft d (sym at ∙ ap (slice_get drafts) same ∙ e)) stored

-- within what is allowed all are held
pub all_held : (drafts : List Draft) (held : Held) → AreRingsHeld drafts (length drafts) held → held.bits ≤ limit_number limit.Bits → AreRingsOf drafts (length drafts) held.rings.items
all_held drafts held are few = subst (AreRingsOf drafts (length drafts)) (sym (are.holds.all few).0) are.are

pub held_fit : (drafts : List Draft) (held : Held) → AreRingsHeld drafts (length drafts) held → IsReadTooLong drafts → ⊥
held_fit drafts held are long = rings_fit drafts are.rings are.are long

-- an actor for each draft
firing_of : ActorKind → Bits → Option RingSpec → Bits
firing_of (When p) own (Some ring) = ring.write
firing_of kind own first = own

is_firing : (kind : ActorKind) (own : Bits) (first : Option RingSpec) → (IsSampling kind → first ≡ None → ⊥) → IsFiring kind own first (firing_of kind own first)
unfolding firing_of
is_firing (When p) own (Some ring) some = refl
is_firing (When p) own None some = some tt refl
is_firing kind own first some = refl

firing_stored : (kind : ActorKind) (own : Bits) (first : Option RingSpec) → IsStored own → ((ring : RingSpec) → first ≡ Some ring → IsStored ring.write) → IsStored (firing_of kind own first)
unfolding firing_of
firing_stored (When p) own (Some ring) stored all = all ring refl
firing_stored kind own first stored all = stored

written : (rings : List RingSpec) (r : ℕ) (ring : RingSpec) → All IsStored (ring_words rings) → slice_get rings r ≡ Some ring → IsStored ring.write
written [] r ring all e = absurd (cc e)
written (x ∷ rings) zero ring all e = subst (λ (y : RingSpec). IsStored y.write) (same_Some x ring e) (All-head IsStored x.write (x.read ∷ ring_words rings) all)
written (x ∷ rings) (suc r) ring all e = written rings r ring (All-tail IsStored x.read (ring_words rings) (All-tail IsStored x.write (x.read ∷ ring_words rings) all)) e

module _ (drafts : List Draft) (rings : List RingSpec) where
  actor_of : ℕ → Draft → Actor
  actor_of a draft = record {
    kind = draft.kind;
    firing = firing_of draft.kind draft.word (slice_get rings (first_ring drafts a));
    takes = range_with_len (first_ring drafts a) (reads_count draft);
    gives = given_by rings (length rings) a;
  }

  actors_of : ℕ → List Draft → List Actor
  actors_of a [] = []
  actors_of a (draft ∷ rest) = actor_of a draft ∷ actors_of (suc a) rest

  actors_count : (a : ℕ) (rest : List Draft) → length (actors_of a rest) ≡ length rest
  unfolding actors_of
  actors_count a [] = refl
  actors_count a (draft ∷ rest) = ap suc (actors_count (suc a) rest)

  actor_at : (a : ℕ) (rest : List Draft) (i : ℕ) (draft : Draft) → slice_get rest i ≡ Some draft → slice_get (actors_of a rest) i ≡ Some (actor_of (a + i) draft)
  unfolding actors_of
  actor_at a [] i draft e = absurd (cc e)
  actor_at a (x ∷ rest) zero draft e =
      let z : a ≡ a + 0 = omega arith in
      ap (λ d. Some (actor_of a d)) (same_Some x draft e) ∙ ap (λ k. Some (actor_of k draft)) z
  actor_at a (x ∷ rest) (suc i) draft e =
      let z : suc a + i ≡ a + suc i = omega arith in
      actor_at (suc a) rest i draft e ∙ ap (λ k. Some (actor_of k draft)) z

  pub net_of : Net
  net_of = record { actors = actors_of 0 drafts; rings = rings }

  module _ (ready : AreReadyDrafts drafts) (are : AreRingsOf drafts (length drafts) rings) where
    -- a sampling has a ring
    first_there : (a : ℕ) (draft : Draft) → slice_get drafts a ≡ Some draft → IsSampling draft.kind → slice_get rings (first_ring drafts a) ≡ None → ⊥
    first_there a draft e sampling none =
        let some = reads_some draft.kind (ready.kinds a draft e) sampling in
        let ring = are.each a 0 _ draft (slice_get_within drafts a draft e) e (present draft.reads.items 0 some) in
        let z : first_ring drafts a + 0 ≡ first_ring drafts a = omega arith in
        let f : None ≡ Some ring.0 = sym none ∙ ap (slice_get rings) (sym z) ∙ ring.1 in
        cc f
      where
        reads_some : (kind : ActorKind) → HasKind kind (reads_count draft) → IsSampling kind → 0 < reads_count draft
        reads_some (When p) has is = has
        reads_some kind has is = absurd is

    pub is_assembled : IsAssembled drafts net_of
    unfolding net_of actor_of
    is_assembled = record {
      count = actors_count 0 drafts;
      rings = are;
      actors = λ a draft e.
          let z : 0 + a ≡ a = omega arith in (
            actor_of a draft,
            actor_at 0 drafts a draft e ∙ ap (λ k. Some (actor_of k draft)) z,
            record { kind = refl; takes = refl; gives = refl; firing = is_firing draft.kind draft.word (slice_get rings (first_ring drafts a)) (first_there a draft e) },
          );
    }

  firings_stored : (a : ℕ) (rest : List Draft) → All IsStored (ring_words rings) → ((i : ℕ) (draft : Draft) → slice_get rest i ≡ Some draft → IsStored draft.word) → All IsStored (map (λ (x : Actor). x.firing) (actors_of a rest))
  unfolding actors_of actor_of
  firings_stored a [] all words = All-nil IsStored
  firings_stored a (draft ∷ rest) all words =
      All-cons IsStored _ (map (λ (x : Actor). x.firing) (actors_of (suc a) rest))
      (firing_stored draft.kind draft.word (slice_get rings (first_ring drafts a)) (words 0 draft refl) (λ ring e. written rings (first_ring drafts a) ring all e))
      (firings_stored (suc a) rest all (λ i d e. words (suc i) d e))

  pub net_stored : All IsStored (ring_words rings) → ((i : ℕ) (draft : Draft) → slice_get drafts i ≡ Some draft → IsStored draft.word) → All IsStored (net_words net_of)
  unfolding net_of
  net_stored all words = All-append IsStored (map (λ (x : Actor). x.firing) (actors_of 0 drafts)) (ring_words rings) (firings_stored 0 drafts all words) all

  net_rings : net_of.rings ≡ rings
  unfolding net_of
  net_rings = refl

-- more bits than are allowed
pub net_past : (drafts : List Draft) (held : Held) → AreReadyDrafts drafts → AreRingsHeld drafts (length drafts) held → limit_number limit.Bits < held.bits → IsNetPast drafts
net_past drafts held ready are past =
    let net : Net = net_of drafts are.rings in
    let bits = words_bits net in
    let rings = ap (sum_by ring_bits) (net_rings drafts are.rings) in
    let most = are.holds.most in
    record {
      net = net;
      is = is_assembled drafts are.rings ready are.are;
      stored = net_stored drafts are.rings are.holds.stored (λ i draft e. are.words i draft (slice_get_within drafts i draft e) e);
      fits = rings_fit drafts are.rings are.are;
      past = omega arith;
    }
