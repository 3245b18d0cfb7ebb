-- The net of a program's drafts is proper, and it is the program's flat net.
use Rattle.std.proofs.Common.{ℕ, ◌+◌, ◌<◌, ◌≤◌, ◌≡◌, true, false, List, [], ◌∷◌, Option, Some, None, length, map, get_or, ap, sym, refl, ◌∙◌, subst, inl, inr, arith}
use Rattle.std.specs.Prelude.{All, sum_by, slice_get, slice_index_or, ◌⊎◌, nat_eq}
use Rattle.std.specs.List.{range_with_len}
use Rattle.std.proofs.lemmas.Bool.{eq-eqb, ne_eqb}
use Rattle.std.proofs.lemmas.List.{take_all}
use Rattle.std.proofs.lemmas.List.Sums.{sum_by-cons, sum_by-append}
use Rattle.std.proofs.lemmas.Option.{same_Some, slice_get_within}
use Rattle.std.proofs.lemmas.List.FromFn.{length-range_with_len}
use Rattle.lucy_word.specs.Bits.{Bits, bit_count}
use Rattle.lucy_word.specs.Shortest.{Same}
use Rattle.lucy_word.specs.Sampling.{IsOnTooLong}
use Rattle.lucy_word.proofs.BitsLaws.{period_some}
use Rattle.lucy_word.proofs.ShortLaws.{shortest_one}
use Rattle.lucy_place.specs.declared.placed.PlacedNode.{PlacedNode}
use Rattle.lucy_place.specs.declared.entry.PlaceKind.TheVariants as place_kind
use Rattle.lucy_place.specs.Proper.{AreProper}
use Rattle.lucy_word.specs.Complement.{turned}
use Rattle.lucy_stream.specs.Forms.{operands, Same as Alike}
use Rattle.lucy_net.specs.declared.kind.ActorKind.TheVariants.{When, Output}
use Rattle.lucy_net.specs.declared.net.Actor.{Actor}
use Rattle.lucy_net.specs.declared.net.RingSpec.{RingSpec}
use Rattle.lucy_net.specs.declared.net.Net.{Net}
use Rattle.lucy_net.specs.Words.{ring_words, net_words}
use Rattle.lucy_flat.specs.Extents.{ring_bits}
use Rattle.lucy_net.specs.Plans as plans
use Rattle.lucy_net.specs.Plans.{giver, taker}
use Rattle.lucy_net.specs.Proper as net_proper
use Rattle.lucy_net.specs.States.{GivesNone}
use Rattle.lucy_net.specs.Proper.{numbers_where, IsNumbering, IsWriteWord, IsReadWord, IsProper, IsProperActor, IsProperRing}
use Rattle.lucy_clock.specs.declared.node_clock.NodeClock.{NodeClock}
use Rattle.lucy_flat.specs.declared.draft.Draft.{Draft}
use Rattle.lucy_kahn.specs.Spots.{at, node_at, results_in}
use Rattle.lucy_kahn.specs.Sizes.{all_places}
use Rattle.lucy_kahn.specs.Numbers.{number}
use Rattle.lucy_flat.specs.Flat.{IsFlat}
use Rattle.lucy_flat.specs.Counts.{HasSmallNet}
use Rattle.lucy_net.proofs.NetLaws.{to_here}
use Rattle.lucy_word.specs.Stored.{IsStored}
use Rattle.lucy_host.proofs.Elements.{get_there}
use Rattle.lucy_net.proofs.WhereLaws.{where_same}
use Rattle.lucy_flat.specs.Clocked.{AreClocked}
use Rattle.lucy_flat.specs.Drafts.{inputs_in, AreDrafts, draft_slots}
use Rattle.lucy_flat.specs.Refusals.{IsClockTooLong, IsMergeTooLong, IsFlatNet}
use Rattle.lucy_flat.specs.Assembly.{from_of, from_at, IsReadTooLong, reads_count, first_ring, IsRingOf, IsActorFrom, IsAssembled}
use Rattle.lucy_flat.proofs.AssemblyLaws.{first_next}
use Rattle.lucy_flat.proofs.SpotWords.{spot_same, feeds}
use Rattle.lucy_flat.proofs.RingWords.{made_form, made_inner, FiresBy, form_fires}
use Rattle.lucy_flat.proofs.ProperLaws.{giver_at, where_none, where_row, row_numbering, numbers_same, write_word, read_word, LongBy, long_form, none_inner, none_gives, rings_rise, row_of, row_at, slots_of_ring, slots_front}
use Rattle.lucy_flat.proofs.FlatLaws.{standing, which, ready_kinds, ready_below, ready_arity, actor_of, output_of, sampled_word, all_rings_row, count_whole, ring_found, ring_fits, ring_sizes}

-- the bits of a net's words
rings_bits : (rings : List RingSpec) → sum_by bit_count (ring_words rings) ≡ sum_by ring_bits rings
rings_bits [] = refl
rings_bits (ring ∷ rings) =
    omega (arith, sum_by-cons bit_count ring.write (ring.read ∷ ring_words rings), sum_by-cons bit_count ring.read (ring_words rings), sum_by-cons ring_bits ring rings, rings_bits rings)

actors_bits : (actors : List Actor) → sum_by bit_count (map (λ (a : Actor). a.firing) actors) ≡ sum_by (λ (a : Actor). bit_count a.firing) actors
actors_bits [] = refl
actors_bits (actor ∷ actors) =
    omega (arith, sum_by-cons bit_count actor.firing (map (λ (a : Actor). a.firing) actors), sum_by-cons (λ (a : Actor). bit_count a.firing) actor actors, actors_bits actors)

pub words_bits : (net : Net) → sum_by bit_count (net_words net) ≡ sum_by (λ (a : Actor). bit_count a.firing) net.actors + sum_by ring_bits net.rings
words_bits net = omega (arith, sum_by-append bit_count (map (λ (a : Actor). a.firing) net.actors) (ring_words net.rings), actors_bits net.actors, rings_bits net.rings)

module _ (nodes : List PlacedNode) (clocks : List NodeClock) (proper : AreProper nodes) (clocked : AreClocked nodes clocks) (drafts : List Draft) (net : Net)
    (are : AreDrafts nodes clocks drafts) (is : IsAssembled drafts net) where
  -- every actor is that of a draft
  pub record IsDrafted (a : ℕ) (actor : Actor) : Type 0 where
    pub draft : Draft
    pub there : slice_get drafts a ≡ Some draft
    pub from : IsActorFrom drafts net a draft actor

  drafted : (a : ℕ) (actor : Actor) → slice_get net.actors a ≡ Some actor → IsDrafted a actor
  drafted a actor e =
      let within = slice_get_within net.actors a actor e in
      let d = get_there drafts a (omega (arith, within, is.count)) in
      let own = is.actors a d.0 d.1 in
      let same : own.0 ≡ actor = same_Some own.0 actor (sym own.1 ∙ e) in
      record { draft = d.0; there = d.1; from = subst (IsActorFrom drafts net a d.0) same own.2 }

  -- the rings from an actor, and those to it
  gives_are : (a : ℕ) → numbers_where (λ r. nat_eq (from_at net.rings r) a) (length net.rings) ≡ numbers_where (λ r. nat_eq (giver net r) a) (length net.rings)
  gives_are a = where_same (λ r. nat_eq (from_at net.rings r) a) (λ r. nat_eq (giver net r) a) (length net.rings) (λ r l. ap (λ t. nat_eq t a) (sym (giver_at net.rings r)))

  rings_of_draft : (a : ℕ) (d : Draft) → slice_get drafts a ≡ Some d → first_ring drafts a + reads_count d ≤ length net.rings
  rings_of_draft a d e =
      let next = first_next drafts a d e in
      let within = slice_get_within drafts a d e in
      let rise = rings_rise drafts (a + 1) (length drafts) (omega (arith, within)) in
      omega (arith, next, rise, is.rings.count)

  -- the ring of a number, with the actor that takes from it
  pub record IsTaken (r : ℕ) : Type 0 where
    pub by : ℕ
    pub k : ℕ
    pub draft : Draft
    pub there : slice_get drafts by ≡ Some draft
    pub few : k < reads_count draft
    pub is_at : first_ring drafts by + k ≡ r
    pub to : taker net r ≡ by

  taken : (r : ℕ) → r < length net.rings → IsTaken r
  taken r l =
      let ring = get_there net.rings r l in
      let o = ring_found nodes clocks proper clocked drafts net are is r ring.0 ring.1 in
      record {
        by = o.0.a;
        k = o.0.k;
        draft = o.0.draft;
        there = o.0.there;
        few = slice_get_within o.0.draft.reads.items o.0.k o.0.source o.0.reads;
        is_at = o.0.is;
        to = to_here net r ring.0 ring.1 ∙ o.1.to;
      }

  takes_are : (a : ℕ) (d : Draft) → slice_get drafts a ≡ Some d → numbers_where (λ r. nat_eq (taker net r) a) (length net.rings) ≡ range_with_len (first_ring drafts a) (reads_count d)
  takes_are a d e =
      where_row (λ r. nat_eq (taker net r) a) (first_ring drafts a) (reads_count d) (length net.rings) (rings_of_draft a d e) before here behind
    where
      other : (r : ℕ) (t : IsTaken r) → (r < first_ring drafts a) ⊎ (first_ring drafts a + reads_count d ≤ r) → t.by ≡ a → ⊥
      other r t outside same =
          let first : first_ring drafts t.by ≡ first_ring drafts a = ap (first_ring drafts) same in
          let draft_is : t.draft ≡ d = same_Some t.draft d (sym t.there ∙ ap (slice_get drafts) same ∙ e) in
          let count : reads_count t.draft ≡ reads_count d = ap reads_count draft_is in
          let few = t.few in
          let at_r = t.is_at in
          elim outside [
            | inl low ↦ absurd (omega (arith, low, first, at_r))
            | inr high ↦ absurd (omega (arith, high, first, count, few, at_r))
          ]

      before : (r : ℕ) → r < length net.rings → r < first_ring drafts a → nat_eq (taker net r) a ≡ false
      before r l low = let t = taken r l in ap (λ n. nat_eq n a) t.to ∙ ne_eqb t.by a (other r t (inl low))

      here : (r : ℕ) → r < length net.rings → first_ring drafts a ≤ r → r < first_ring drafts a + reads_count d → nat_eq (taker net r) a ≡ true
      here r l low high = let t = taken r l in ap (λ n. nat_eq n a) t.to ∙ eq-eqb t.by a (row_of drafts a t.by t.k r d t.draft e t.there t.few t.is_at low high)

      behind : (r : ℕ) → r < length net.rings → first_ring drafts a + reads_count d ≤ r → nat_eq (taker net r) a ≡ false
      behind r l high = let t = taken r l in ap (λ n. nat_eq n a) t.to ∙ ne_eqb t.by a (other r t (inr high))

  -- no ring comes from an output
  none_from : (a : ℕ) → all_places nodes ≤ a → numbers_where (λ r. nat_eq (from_at net.rings r) a) (length net.rings) ≡ []
  none_from a high = where_none (λ r. nat_eq (from_at net.rings r) a) (length net.rings) (λ r l. none_at r l)
    where
      none_at : (r : ℕ) → r < length net.rings → nat_eq (from_at net.rings r) a ≡ false
      none_at r l =
          let ring = get_there net.rings r l in
          let o = ring_found nodes clocks proper clocked drafts net are is r ring.0 ring.1 in
          let low = ready_below nodes clocks proper clocked drafts are o.0.a o.0.k o.0.source o.0.draft o.0.there o.0.reads in
          let source : from_at net.rings r ≡ o.0.source = ap from_of ring.1 ∙ o.1.from in
          ap (λ n. nat_eq n a) source ∙ ne_eqb o.0.source a (λ same. absurd (omega (arith, low, high, same)))

  gives_none_at : (a : ℕ) (actor : Actor) (d : IsDrafted a actor) → GivesNone actor.kind actor.gives
  gives_none_at a actor d =
      elim (which nodes clocks proper clocked drafts are a d.draft d.there) [
        | inl l ↦ none_inner actor.kind actor.gives (ap net_proper.output_of d.from.kind ∙ made_inner l.made)
        | inr r ↦ none_gives actor.kind actor.gives (d.from.gives ∙ none_from a (omega (arith, r.numbered)))
      ]

  proper_actor : (a : ℕ) (actor : Actor) → slice_get net.actors a ≡ Some actor → IsProperActor net a actor
  proper_actor a actor e =
      let d = drafted a actor e in
      record {
        gives = d.from.gives ∙ gives_are a;
        takes = d.from.takes ∙ sym (takes_are a d.draft d.there);
        arity = ap length d.from.takes ∙ length-range_with_len (first_ring drafts a) (reads_count d.draft) ∙ ready_arity nodes clocks proper clocked drafts are a d.draft d.there ∙ ap (λ k. operands (plans.form_of k)) (sym d.from.kind);
        gives_none = gives_none_at a actor d;
      }

  -- the word on which an actor gives
  write_at : (a : ℕ) (actor : Actor) (d : Draft) → slice_get drafts a ≡ Some d → IsActorFrom drafts net a d actor → IsWriteWord (plans.form_of actor.kind) actor.firing d.word
  write_at a actor d e from =
      elim (which nodes clocks proper clocked drafts are a d e) [
        | inl l ↦
            let first : Option RingSpec = slice_get net.rings (first_ring drafts a) in
            let by_form = subst (λ t. FiresBy t d.word first actor.firing) (made_form l.made) (form_fires d.kind d.word first actor.firing from.firing) in
            let st = standing nodes l.spot l.kind l.stands in
            let word = write_word l.spot.path l.spot.place l.kind d.word first actor.firing by_form
            (λ q p ring k g. feeds nodes clocks proper clocked l.spot.path st.node l.spot.place (place_kind.When q p) st.found (st.stands.0, st.stands.1, st.stands.2 ∙ k) 0 (at l.spot.path q) ring.write d.word refl
            (sampled_word nodes clocks proper clocked drafts net are is l.spot l.kind a d l.stands e l.made q p ring k g) l.made.word) in
            subst (λ t. IsWriteWord t actor.firing d.word) (sym (ap plans.form_of from.kind ∙ made_form l.made)) word
        | inr r ↦
            let kind_is : d.kind ≡ Output r.i = ap (λ (t : Draft). t.kind) (sym r.same) ∙ r.out.kind in
            let first : Option RingSpec = slice_get net.rings (first_ring drafts a) in
            let own : FiresBy Alike d.word first actor.firing = subst (λ t. FiresBy (plans.form_of t) d.word first actor.firing) kind_is (form_fires d.kind d.word first actor.firing from.firing) in
            let word : IsWriteWord Alike actor.firing d.word = subst (λ t. Same t d.word) (sym own) (λ i low. refl) in
            subst (λ t. IsWriteWord t actor.firing d.word) (sym (ap plans.form_of (from.kind ∙ kind_is))) word
      ]

  -- and that on which it takes
  read_at : (r : ℕ) (ring : RingSpec) (a k source : ℕ) (d : Draft) (actor : Actor) → slice_get net.rings r ≡ Some ring → slice_get drafts a ≡ Some d → slice_get d.reads.items k ≡ Some source → first_ring drafts a + k ≡ r →
      IsRingOf drafts a k source d ring → IsActorFrom drafts net a d actor → (j : ℕ) → j < length actor.takes → slice_index_or actor.takes j 0 ≡ r → IsReadWord (plans.form_of actor.kind) actor.firing j ring.read
  read_at r ring a k source d actor e f g at_r of from j l same =
      let few = slice_get_within d.reads.items k source g in
      let count : length actor.takes ≡ reads_count d = ap length from.takes ∙ length-range_with_len (first_ring drafts a) (reads_count d) in
      let row : slice_index_or actor.takes j 0 ≡ first_ring drafts a + j = ap (λ t. get_or t j 0) from.takes ∙ row_at (first_ring drafts a) (reads_count d) j (omega (arith, l, count)) in
      let j_is : k ≡ j = omega (arith, row, same, at_r) in
      let word = read_word d.kind k (reads_count d) d.word of.giver.word actor.firing ring.read (slice_get net.rings (first_ring drafts a)) of.read from.firing (ready_kinds nodes clocks proper clocked drafts are a d f) (first_is few) in
      subst (λ t. IsReadWord (plans.form_of actor.kind) actor.firing t ring.read) j_is (subst (λ t. IsReadWord (plans.form_of t) actor.firing k ring.read) (sym from.kind) word)
    where
      first_is : k < reads_count d → (own : RingSpec) → slice_get net.rings (first_ring drafts a) ≡ Some own → (p : Bits) → d.kind ≡ When p → own.write ≡ of.giver.word
      first_is few own h p kind_is =
          let one : reads_count d ≡ 1 = ready_arity nodes clocks proper clocked drafts are a d f ∙ ap (λ t. operands (plans.form_of t)) kind_is in
          let at_first : first_ring drafts a ≡ r = omega (arith, at_r, few, one) in
          let ring_is : own ≡ ring = same_Some own ring (sym h ∙ ap (slice_get net.rings) at_first ∙ e) in
          ap (λ (t : RingSpec). t.write) ring_is ∙ of.write

  proper_ring : (r : ℕ) (ring : RingSpec) → slice_get net.rings r ≡ Some ring → IsProperRing net r ring
  proper_ring r ring e =
      let o = ring_found nodes clocks proper clocked drafts net are is r ring e in
      let fits = ring_fits nodes clocks proper clocked drafts net are is r ring o.0 o.1 in
      let from = is.actors o.0.source o.1.giver o.1.gives in
      let to = is.actors o.0.a o.0.draft o.0.there in
      record {
        giver = from.0;
        taker = to.0;
        gives_here = ap (slice_get net.actors) o.1.from ∙ from.1;
        takes_here = ap (slice_get net.actors) o.1.to ∙ to.1;
        write = subst (λ t. IsWriteWord (plans.form_of from.0.kind) from.0.firing t) (sym o.1.write) (write_at o.0.source from.0 o.1.giver o.1.gives from.2);
        read = read_at r ring o.0.a o.0.k o.0.source o.0.draft to.0 e o.0.there o.0.reads o.0.is o.1 to.2;
        adaptable = fits.0;
        size = fits.1;
      }

  -- the slots of the rings are those of the drafts
  slots_are : sum_by slots_of_ring net.rings ≡ sum_by draft_slots drafts
  slots_are =
      let front = slots_front drafts net.rings (length drafts) is.rings (length drafts) (omega arith) (omega arith) in
      ap (sum_by slots_of_ring) (sym (take_all (first_ring drafts (length drafts)) net.rings (omega (arith, is.rings.count)))) ∙ front ∙ ap (sum_by draft_slots) (take_all (length drafts) drafts (omega arith))

  kinds_are : (a : ℕ) (d : Draft) → slice_get drafts a ≡ Some d → (actor : Actor) × (slice_get net.actors a ≡ Some actor) × (actor.kind ≡ d.kind)
  kinds_are a d e = let own = is.actors a d e in (own.0, own.1, own.2.kind)

  inputs_numbered : (o : Option PlacedNode) → IsNumbering (inputs_in [] o)
  inputs_numbered None = λ n l. absurd (omega (arith, l))
  inputs_numbered (Some n) = row_numbering n.params

  proper_net : HasSmallNet nodes clocks → IsProper net
  proper_net small = record {
    few_actors = omega (arith, is.count, are.count, small.0);
    few_rings = omega (arith, is.rings.count, count_whole nodes clocks proper clocked drafts net are is drafts, are.reads, small.1);
    few_slots = omega (arith, slots_are, are.slots, small.2);
    inputs = subst IsNumbering (sym (numbers_same net_proper.input_of net.actors drafts is.count kinds_are ∙ are.inputs)) (inputs_numbered (node_at nodes []));
    outputs = subst IsNumbering (sym (numbers_same net_proper.output_of net.actors drafts is.count kinds_are ∙ are.numbered)) (row_numbering (length (results_in (node_at nodes []))));
    actors = proper_actor;
    rings = proper_ring;
  }

  pub flat_from : HasSmallNet nodes clocks → IsFlat nodes clocks net
  flat_from small = record {
    count = is.count ∙ are.count;
    actors = actor_of nodes clocks proper clocked drafts net are is;
    outputs = output_of nodes clocks proper clocked drafts net are is;
    rings = all_rings_row nodes clocks proper clocked drafts net are is;
    sizes = ring_sizes nodes clocks proper clocked drafts net are is;
    proper = proper_net small;
  }

  -- the net is no larger than the limits
  pub actors_few : HasSmallNet nodes clocks → length net.actors < 4294967296
  actors_few small = omega (arith, is.count, are.count, small.0)

  pub rings_few : HasSmallNet nodes clocks → length net.rings < 4294967296
  rings_few small = omega (arith, is.rings.count, count_whole nodes clocks proper clocked drafts net are is drafts, are.reads, small.1)

  -- a merge whose operand's word is too long is a draft's
  merge_long : IsMergeTooLong nodes clocks → IsReadTooLong drafts
  merge_long long =
      let d = are.places long.spot (place_kind.Merge long.p long.a long.b) long.stands in
      let same : long.own ≡ d.0.word =
      shortest_one long.own d.0.word long.shortest d.2.shortest (period_some long.own long.is_word) (period_some d.0.word d.2.is_word) (spot_same nodes clocks long.spot long.own d.0.word long.is d.2.word) in
      let count : reads_count d.0 ≡ 2 = ap length d.2.reads in
      elim long.too_long [
        | inl l ↦ record {
          a = number nodes long.spot;
          draft = d.0;
          there = d.1;
          operand = 0;
          within = omega (arith, count);
          too_long = long_form d.0.kind 0 d.0.word (subst (λ t. LongBy t 0 d.0.word) (sym (made_form d.2)) (subst (λ t. IsOnTooLong t long.p) same l));
        }
        | inr r ↦ record {
          a = number nodes long.spot;
          draft = d.0;
          there = d.1;
          operand = 1;
          within = omega (arith, count);
          too_long = long_form d.0.kind 1 d.0.word (subst (λ t. LongBy t 1 d.0.word) (sym (made_form d.2)) (subst (λ t. IsOnTooLong t (turned long.p)) same r));
        }
      ]

  pub flat_net : All IsStored (net_words net) → HasSmallNet nodes clocks → (IsClockTooLong nodes clocks → ⊥) → (IsReadTooLong drafts → ⊥) → IsFlatNet nodes clocks net
  flat_net stored small clock_fits read_fits = record {
    flat = flat_from small;
    stored = stored;
    small = small;
    words = λ long. elim long [
      | inl l ↦ clock_fits l
      | inr r ↦ read_fits (merge_long r)
    ];
  }
