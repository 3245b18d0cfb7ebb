-- Drafts of a program, assembled, are its flat net.
use Rattle.std.proofs.Common.{ℕ, suc, zero, ◌+◌, ◌-◌, ◌<◌, ◌≤◌, ◌≡◌, List, [], ◌∷◌, ◌++◌, Option, Some, None, length, map, get_or, take, ap, sym, refl, ◌∙◌, subst, inl, inr, arith}
use Rattle.std.specs.Prelude.{slice_get, slice_index_or, ◌⊎◌}
use Rattle.std.specs.List.{range_with_len, flat_map, AllByRecursion}
use Rattle.std.proofs.lemmas.List.{length-map}
use Rattle.std.proofs.lemmas.List.Sums.{sum_by-cons}
use Rattle.std.proofs.lemmas.Option.{same_Some, slice_get_within}
use Rattle.lucy_word.specs.Bits.{Bits}
use Rattle.lucy_word.specs.Shortest.{Same, IsShortest}
use Rattle.lucy_word.specs.Adaptable.{IsAdaptable, IsSize}
use Rattle.lucy_place.specs.declared.placed.PlacedNode.{PlacedNode}
use Rattle.lucy_place.specs.declared.entry.PlaceKind.{PlaceKind}
use Rattle.std.proofs.lemmas.Bool.{cases_lt}
use Rattle.lucy_place.specs.declared.entry.PlaceEntry.{PlaceEntry}
use Rattle.lucy_place.specs.Proper.{at_one, AreProper, Stands, IsPlace, IsProperKind}
use Rattle.lucy_net.specs.declared.net.Actor.{Actor}
use Rattle.lucy_net.specs.declared.net.RingSpec.{RingSpec}
use Rattle.lucy_net.specs.declared.net.Net.{Net}
use Rattle.lucy_net.specs.Plans as plans
use Rattle.lucy_clock.specs.declared.node_clock.NodeClock.{NodeClock}
use Rattle.lucy_flat.specs.declared.draft.Draft.{Draft}
use Rattle.lucy_net.specs.Plans.{giver}
use Rattle.lucy_kahn.specs.Spots.{main_of, Spot, at, node_at, kind_at, spot_reads, IsSpot, results_in}
use Rattle.lucy_kahn.proofs.Parts.{kind_in, kind_of}
use Rattle.lucy_kahn.specs.Sizes.{all_places}
use Rattle.lucy_kahn.specs.Numbers.{number}
use Rattle.lucy_flat.specs.Instances.{sizes_in, word_at, index_at, IsSpotWord}
use Rattle.lucy_flat.specs.Flat.{ring_size, fires_at, IsActorOf, IsOutput}
use Rattle.lucy_flat.specs.Counts.{HasSmallNet}
use Rattle.lucy_word.proofs.OnLaws.{on_base, on_one}
use Rattle.lucy_word.proofs.AdaptableLaws.{adaptable_self, size_self}
use Rattle.lucy_word.proofs.Lists.{all_at, only_one, map_from}
use Rattle.lucy_host.proofs.Elements.{get_there}
use Rattle.lucy_kahn.proofs.Closed.{closed_at, place_spot, place_of}
use Rattle.lucy_kahn.proofs.Paths.{proper_at}
use Rattle.lucy_flat.specs.Clocked.{AreClocked}
use Rattle.lucy_flat.specs.Drafts.{IsDraftMade, IsOutputDraft, AreDrafts}
use Rattle.lucy_flat.specs.Refusals.{IsMergeTooLong}
use Rattle.lucy_flat.specs.Assembly.{from_of, HasKind, IsReadOn, ReadsTooLong, AreReadyDrafts, IsReadTooLong, reads_count, first_ring, all_reads, IsRingOf, IsActorFrom, IsAssembled}
use Rattle.lucy_flat.proofs.AssemblyLaws.{IsOperandRing, find_ring, present}
use Rattle.lucy_flat.proofs.SpotWords.{base_same, clock_of, feeds, buffer_size}
use Rattle.lucy_net.specs.declared.kind.ActorKind.TheVariants.{Output}
use Rattle.lucy_place.specs.declared.entry.PlaceKind.TheVariants as place_kind
use Rattle.lucy_stream.specs.Forms.{operands, Same as Alike}
use Rattle.lucy_flat.proofs.RingWords.{made_form, buffer_or, ring_empty, FiresBy, form_fires, fires, HasForm, form_has, place_has, ReadsBy, form_reads, IsRingWord, ring_word, ring_adaptable}
use Rattle.lucy_flat.proofs.ProperLaws.{giver_at, LongBy, form_long, place_long, place_arity}

-- numbers in a row, each looked up, are a list
map_range : (f : ℕ → ℕ) (first : ℕ) (xs : List ℕ) → ((k x : ℕ) → slice_get xs k ≡ Some x → f (first + k) ≡ x) → map f (range_with_len first (length xs)) ≡ xs
map_range f first [] h = refl
map_range f first (x ∷ xs) h =
    let here : f first ≡ x = (let z : first ≡ first + 0 = omega arith in ap f z ∙ h 0 x refl) in
    let rest : map f (range_with_len (first + 1) (length xs)) ≡ xs =
    map_range f (first + 1) xs (λ k y e. (let s : first + 1 + k ≡ first + suc k = omega arith in ap f s ∙ h (suc k) y e)) in
    cc

-- rows of numbers, one behind the other, are a row
rows_of : (actors : List Actor) (drafts : List Draft) (first : ℕ) → length actors ≡ length drafts →
    ((a : ℕ) (d : Draft) → slice_get drafts a ≡ Some d → (actor : Actor) × (slice_get actors a ≡ Some actor) × (actor.takes ≡ range_with_len (first + first_ring drafts a) (reads_count d))) →
    flat_map (λ (actor : Actor). actor.takes) actors ≡ range_with_len first (all_reads drafts)
rows_of [] [] first l h = refl
rows_of [] (d ∷ drafts) first l h = absurd (omega (arith, l))
rows_of (x ∷ actors) [] first l h = absurd (omega (arith, l))
rows_of (x ∷ actors) (d ∷ drafts) first l h =
    let own = h 0 d refl in
    let same : own.0 ≡ x = sym (same_Some x own.0 own.1) in
    let z : first + first_ring (d ∷ drafts) 0 ≡ first = omega arith in
    let here : x.takes ≡ range_with_len first (reads_count d) = ap (λ (t : Actor). t.takes) (sym same) ∙ own.2 ∙ ap (λ t. range_with_len t (reads_count d)) z in
    let rest : flat_map (λ (actor : Actor). actor.takes) actors ≡ range_with_len (first + reads_count d) (all_reads drafts) =
    rows_of actors drafts (first + reads_count d) (omega (arith, l)) (λ a other e. (let r = h (suc a) other e in
    let s : first + first_ring (d ∷ drafts) (suc a) ≡ first + reads_count d + first_ring drafts a = omega (arith, sum_by-cons reads_count d (take a drafts)) in
    (r.0, r.1, r.2 ∙ ap (λ t. range_with_len t (reads_count other)) s))) in
    let sum : all_reads (d ∷ drafts) ≡ reads_count d + all_reads drafts = sum_by-cons reads_count d drafts in
    ap (λ t. t ++ flat_map (λ (actor : Actor). actor.takes) actors) here ∙ ap (λ t. range_with_len first (reads_count d) ++ t) rest
    ∙ join first (reads_count d) (all_reads drafts) ∙ ap (range_with_len first) (sym sum)
  where
    join : (a m n : ℕ) → range_with_len a m ++ range_with_len (a + m) n ≡ range_with_len a (m + n)
    join a zero n = (let z : a + 0 ≡ a = omega arith in let y : n ≡ 0 + n = omega arith in ap (λ t. range_with_len t n) z ∙ ap (range_with_len a) y)
    join a (suc m) n =
        let s : a + suc m ≡ a + 1 + m = omega arith in
        let y : suc (m + n) ≡ suc m + n = omega arith in
        ap (λ t. a ∷ (range_with_len (a + 1) m ++ range_with_len t n)) s ∙ ap (λ t. a ∷ t) (join (a + 1) m n) ∙ ap (range_with_len a) y

module _ (nodes : List PlacedNode) where
  -- what stands at an instance place stands in its node
  pub record IsStanding (spot : Spot) (kind : PlaceKind) : Type 0 where
    pub node : PlacedNode
    pub found : node_at nodes spot.path ≡ Some node
    pub stands : Stands node spot.place kind

  pub standing : (spot : Spot) (kind : PlaceKind) → kind_at nodes spot ≡ Some kind → IsStanding spot kind
  standing spot kind e = from_node (node_at nodes spot.path) refl e
    where
      from_entry : (n : PlacedNode) (o : Option PlaceEntry) → node_at nodes spot.path ≡ Some n → at_one n.places spot.place ≡ o → kind_of o ≡ Some kind → IsStanding spot kind
      from_entry n None f g h = absurd (cc h)
      from_entry n (Some entry) f g h = record { node = n; found = f; stands = (entry, g, same_Some entry.kind kind h) }

      from_node : (o : Option PlacedNode) → node_at nodes spot.path ≡ o → kind_in o spot.place ≡ Some kind → IsStanding spot kind
      from_node None f h = absurd (cc h)
      from_node (Some n) f h = from_entry n (at_one n.places spot.place) f refl h

-- a result of main is an instance place
pub main_spot : (nodes : List PlacedNode) → AreProper nodes → (i place : ℕ) → slice_get (results_in (main_of nodes)) i ≡ Some place → IsSpot nodes (at [] place)
main_spot nodes proper i place e = from_main (main_of nodes) refl e
  where
    from_main : (o : Option PlacedNode) → main_of nodes ≡ o → slice_get (results_in o) i ≡ Some place → IsSpot nodes (at [] place)
    from_main None f g = absurd (cc g)
    from_main (Some n) f g =
        let is = (proper_at nodes proper [] n f).2 in
        let within = slice_get_within n.results i place g in
        let same : slice_index_or n.results i 0 ≡ place = same_Some (slice_index_or n.results i 0) place (sym (present n.results i within) ∙ g) in
        place_spot nodes [] n place f (subst (IsPlace n) same (place_of n n.results i is.results within))

-- the drafts of a program are ready to be assembled
module _ (nodes : List PlacedNode) (clocks : List NodeClock) (proper : AreProper nodes) (clocked : AreClocked nodes clocks) (drafts : List Draft) (are : AreDrafts nodes clocks drafts) where
  -- a draft is that of an instance place, or of an output
  pub record IsPlaceDraft (a : ℕ) (d : Draft) : Type 0 where
    pub spot : Spot
    pub kind : PlaceKind
    pub stands : kind_at nodes spot ≡ Some kind
    pub numbered : number nodes spot ≡ a
    pub made : IsDraftMade nodes clocks spot kind d

  pub record IsResultDraft (a : ℕ) (d : Draft) : Type 0 where
    pub i : ℕ
    pub place : ℕ
    pub stands : slice_get (results_in (node_at nodes [])) i ≡ Some place
    pub numbered : all_places nodes + i ≡ a
    pub out : IsOutputDraft nodes clocks drafts i place
    pub same : out.draft ≡ d

  pub which : (a : ℕ) (d : Draft) → slice_get drafts a ≡ Some d → IsPlaceDraft a d ⊎ IsResultDraft a d
  which a d e = by_number (cases_lt a (all_places nodes))
    where
      by_number : (a < all_places nodes) ⊎ (all_places nodes ≤ a) → IsPlaceDraft a d ⊎ IsResultDraft a d
      by_number (inl low) =
          let sp = are.spots a low in
          let spot : Spot = sp.spot in
          let own = are.places spot sp.kind sp.stands in
          let same : own.0 ≡ d = same_Some own.0 d (sym own.1 ∙ ap (slice_get drafts) sp.numbered ∙ e) in
          inl (record { spot = spot; kind = sp.kind; stands = sp.stands; numbered = sp.numbered; made = subst (IsDraftMade nodes clocks spot sp.kind) same own.2 })
      by_number (inr high) =
          let within = slice_get_within drafts a d e in
          let i : ℕ = a - all_places nodes in
          let place = get_there (results_in (node_at nodes [])) i (omega (arith, within, high, are.count)) in
          let numbered : all_places nodes + i ≡ a = omega (arith, high) in
          let out = are.outputs i place.0 place.1 in
          inr (record { i = i; place = place.0; stands = place.1; numbered = numbered; out = out; same = same_Some out.draft d (sym out.there ∙ ap (slice_get drafts) numbered ∙ e) })

  pub ready_gives : (a : ℕ) (d : Draft) → slice_get drafts a ≡ Some d → d.gives.items ≡ []
  ready_gives a d e =
      elim (which a d e) [
        | inl l ↦ l.made.gives
        | inr r ↦ ap (λ (t : Draft). t.gives.items) (sym r.same) ∙ r.out.gives
      ]

  pub ready_short : (a : ℕ) (d : Draft) → slice_get drafts a ≡ Some d → IsShortest d.word
  ready_short a d e =
      elim (which a d e) [
        | inl l ↦ l.made.shortest
        | inr r ↦ subst (λ (t : Draft). IsShortest t.word) r.same r.out.shortest
      ]

  ready_reads : (a k from : ℕ) (d : Draft) → slice_get drafts a ≡ Some d → slice_get d.reads.items k ≡ Some from → from < length drafts
  ready_reads a k from d e f =
      elim (which a d e) [
        | inl l ↦
            let read = map_from (number nodes) (spot_reads nodes l.spot l.kind) k from (ap (λ t. slice_get t k) (sym l.made.reads) ∙ f) in
            let inside = all_at (IsSpot nodes) (spot_reads nodes l.spot l.kind) k read.0 (closed_at nodes proper l.spot l.kind l.stands) read.1 in
            let own = are.places read.0 inside.0 inside.1 in
            subst (λ n. n < length drafts) read.2 (slice_get_within drafts (number nodes read.0) own.0 own.1)
        | inr r ↦
            let reads : d.reads.items ≡ number nodes (at [] r.place) ∷ [] = ap (λ (t : Draft). t.reads.items) (sym r.same) ∙ r.out.reads in
            let spot = main_spot nodes proper r.i r.place r.stands in
            let own = are.places (at [] r.place) spot.0 spot.1 in
            let only : number nodes (at [] r.place) ≡ from = only_one (number nodes (at [] r.place)) k from (ap (λ t. slice_get t k) (sym reads) ∙ f) in
            subst (λ n. n < length drafts) only (slice_get_within drafts (number nodes (at [] r.place)) own.0 own.1)
      ]

  pub ready_kinds : (a : ℕ) (d : Draft) → slice_get drafts a ≡ Some d → HasKind d.kind (reads_count d)
  ready_kinds a d e =
      elim (which a d e) [
        | inl l ↦
            let st = standing nodes l.spot l.kind l.stands in
            let is = (proper_at nodes proper l.spot.path st.node st.found).2 in
            let kind_is = subst (IsProperKind st.node l.spot.place) st.stands.2 (is.kinds l.spot.place st.stands.0 st.stands.1) in
            form_has d.kind (reads_count d) (subst (λ t. HasForm t (reads_count d)) (sym (made_form l.made))
            (place_has st.node l.spot.path l.spot.place l.kind (reads_count d) kind_is
            (λ q p k. (let reads : d.reads.items ≡ number nodes (at l.spot.path q) ∷ [] = l.made.reads ∙ ap (λ t. map (number nodes) (spot_reads nodes l.spot t)) k in omega (arith, ap length reads)))))
        | inr r ↦
            let kind_is : d.kind ≡ Output r.i = ap (λ (t : Draft). t.kind) (sym r.same) ∙ r.out.kind in
            subst (λ t. HasKind t (reads_count d)) (sym kind_is) tt
      ]

  pub ready : HasSmallNet nodes clocks → AreReadyDrafts drafts
  ready small = record {
    reads = ready_reads;
    kinds = ready_kinds;
    gives = ready_gives;
    short = ready_short;
    few = omega (arith, are.count, small.0);
    few_rings = omega (arith, are.reads, small.1);
  }

  -- what a draft reads is an instance place
  pub ready_below : (a k from : ℕ) (d : Draft) → slice_get drafts a ≡ Some d → slice_get d.reads.items k ≡ Some from → from < all_places nodes
  ready_below a k from d e f =
      elim (which a d e) [
        | inl l ↦
            let read = map_from (number nodes) (spot_reads nodes l.spot l.kind) k from (ap (λ t. slice_get t k) (sym l.made.reads) ∙ f) in
            let inside = all_at (IsSpot nodes) (spot_reads nodes l.spot l.kind) k read.0 (closed_at nodes proper l.spot l.kind l.stands) read.1 in
            subst (λ n. n < all_places nodes) read.2 (are.below read.0 inside.0 inside.1)
        | inr r ↦
            let reads : d.reads.items ≡ number nodes (at [] r.place) ∷ [] = ap (λ (t : Draft). t.reads.items) (sym r.same) ∙ r.out.reads in
            let spot = main_spot nodes proper r.i r.place r.stands in
            let only : number nodes (at [] r.place) ≡ from = only_one (number nodes (at [] r.place)) k from (ap (λ t. slice_get t k) (sym reads) ∙ f) in
            subst (λ n. n < all_places nodes) only (are.below (at [] r.place) spot.0 spot.1)
      ]

  -- a draft reads as many as its form has operands
  pub ready_arity : (a : ℕ) (d : Draft) → slice_get drafts a ≡ Some d → reads_count d ≡ operands (plans.form_of d.kind)
  ready_arity a d e =
      elim (which a d e) [
        | inl l ↦
            let st = standing nodes l.spot l.kind l.stands in
            let is = (proper_at nodes proper l.spot.path st.node st.found).2 in
            let kind_is = subst (IsProperKind st.node l.spot.place) st.stands.2 (is.kinds l.spot.place st.stands.0 st.stands.1) in
            ap length l.made.reads ∙ length-map (spot_reads nodes l.spot l.kind) (number nodes) ∙ place_arity nodes st.node l.spot.path l.spot.place l.kind kind_is ∙ ap operands (sym (made_form l.made))
        | inr r ↦
            let reads : d.reads.items ≡ number nodes (at [] r.place) ∷ [] = ap (λ (t : Draft). t.reads.items) (sym r.same) ∙ r.out.reads in
            let kind_is : d.kind ≡ Output r.i = ap (λ (t : Draft). t.kind) (sym r.same) ∙ r.out.kind in
            ap length reads ∙ ap (λ k. operands (plans.form_of k)) (sym kind_is)
      ]

  -- a draft whose operand's word is too long is that of a merge
  pub read_long : IsReadTooLong drafts → IsMergeTooLong nodes clocks
  read_long long =
      elim (which long.a long.draft long.there) [
        | inl l ↦
            let by_form = subst (λ t. LongBy t long.operand long.draft.word) (made_form l.made) (form_long long.draft.kind long.operand long.draft.word long.too_long) in
            let m = place_long l.spot.path l.spot.place l.kind long.operand long.draft.word by_form in
            record {
              spot = l.spot;
              p = m.p;
              a = m.a;
              b = m.b;
              stands = l.stands ∙ ap (λ t. Some t) m.is;
              own = long.draft.word;
              is = l.made.word;
              is_word = l.made.is_word;
              shortest = l.made.shortest;
              too_long = m.long;
            }
        | inr r ↦
            let kind_is : long.draft.kind ≡ Output r.i = ap (λ (t : Draft). t.kind) (sym r.same) ∙ r.out.kind in
            let never : ⊥ = subst (λ t. ReadsTooLong t long.operand long.draft.word) kind_is long.too_long in
            absurd never
      ]

module _ (nodes : List PlacedNode) (clocks : List NodeClock) (proper : AreProper nodes) (clocked : AreClocked nodes clocks) (drafts : List Draft) (net : Net)
    (are : AreDrafts nodes clocks drafts) (is : IsAssembled drafts net) where
  -- what an actor reads is what its draft reads
  givers : (a : ℕ) (d : Draft) → slice_get drafts a ≡ Some d → map (giver net) (range_with_len (first_ring drafts a) (reads_count d)) ≡ d.reads.items
  givers a d e = map_range (giver net) (first_ring drafts a) d.reads.items (λ k from f.
      (let r = is.rings.each a k from d (slice_get_within drafts a d e) e f in giver_at net.rings (first_ring drafts a + k) ∙ ap from_of r.1 ∙ r.2.from))

  -- the numbers of rings
  pub all_rings_row : flat_map (λ (actor : Actor). actor.takes) net.actors ≡ range_with_len 0 (length net.rings)
  all_rings_row =
      rows_of net.actors drafts 0 is.count (λ a d e. (let r = is.actors a d e in
      let z : first_ring drafts a ≡ 0 + first_ring drafts a = omega arith in
      (r.0, r.1, r.2.takes ∙ ap (λ t. range_with_len t (reads_count d)) z)))
      ∙ ap (range_with_len 0) (sym (is.rings.count ∙ whole drafts))
    where
      whole : (ds : List Draft) → first_ring ds (length ds) ≡ all_reads ds
      whole [] = refl
      whole (d ∷ ds) = omega (arith, sum_by-cons reads_count d (take (length ds) ds), sum_by-cons reads_count d ds, whole ds)

  -- the word of the operand of a sampling, on its ring
  pub sampled_word : (spot : Spot) (kind : PlaceKind) (a : ℕ) (d : Draft) → kind_at nodes spot ≡ Some kind → slice_get drafts a ≡ Some d → IsDraftMade nodes clocks spot kind d →
      (q : ℕ) (p : Bits) (ring : RingSpec) → kind ≡ place_kind.When q p → slice_get net.rings (first_ring drafts a) ≡ Some ring → IsSpotWord nodes clocks (at spot.path q) ring.write
  sampled_word spot kind a d e f made q p ring k g =
      let reads : d.reads.items ≡ number nodes (at spot.path q) ∷ [] = made.reads ∙ ap (λ t. map (number nodes) (spot_reads nodes spot t)) k in
      let r = is.rings.each a 0 (number nodes (at spot.path q)) d (slice_get_within drafts a d f) f (ap (λ t. slice_get t 0) reads) in
      let z : first_ring drafts a ≡ first_ring drafts a + 0 = omega arith in
      let same : r.0 ≡ ring = same_Some r.0 ring (sym r.1 ∙ ap (slice_get net.rings) (sym z) ∙ g) in
      let inside = subst (λ t. AllByRecursion (IsSpot nodes) (spot_reads nodes spot t)) k (closed_at nodes proper spot kind e) in
      let giver = are.places (at spot.path q) inside.0.0 inside.0.1 in
      let giver_is : giver.0 ≡ r.2.giver = same_Some giver.0 r.2.giver (sym giver.1 ∙ r.2.gives) in
      let word : IsSpotWord nodes clocks (at spot.path q) r.2.giver.word = subst (λ (t : Draft). IsSpotWord nodes clocks (at spot.path q) t.word) giver_is giver.2.word in
      subst (λ (t : RingSpec). IsSpotWord nodes clocks (at spot.path q) t.write) same (subst (IsSpotWord nodes clocks (at spot.path q)) (sym r.2.write) word)

  -- where a place fires
  firing_of : (spot : Spot) (kind : PlaceKind) (a : ℕ) (d : Draft) (actor : Actor) → kind_at nodes spot ≡ Some kind → slice_get drafts a ≡ Some d → IsDraftMade nodes clocks spot kind d → IsActorFrom drafts net a d actor →
      IsSpotWord nodes clocks (fires_at spot kind) actor.firing
  firing_of spot kind a d actor e f made from =
      fires (IsSpotWord nodes clocks) spot.path spot.place kind d.word (slice_get net.rings (first_ring drafts a)) actor.firing
      (subst (λ t. FiresBy t d.word (slice_get net.rings (first_ring drafts a)) actor.firing) (made_form made) (form_fires d.kind d.word (slice_get net.rings (first_ring drafts a)) actor.firing from.firing))
      made.word (λ q p ring k g. sampled_word spot kind a d e f made q p ring k g)

  pub actor_of : (spot : Spot) (kind : PlaceKind) → kind_at nodes spot ≡ Some kind → IsActorOf nodes clocks net spot kind
  actor_of spot kind e =
      let made = are.places spot kind e in
      let own = is.actors (number nodes spot) made.0 made.1 in
      record {
        actor = own.0;
        there = own.1;
        does = own.2.kind ∙ made.2.does;
        reads = ap (map (giver net)) own.2.takes ∙ givers (number nodes spot) made.0 made.1 ∙ made.2.reads;
        firing = firing_of spot kind (number nodes spot) made.0 own.0 e made.1 made.2 own.2;
      }

  output_firing : (i place : ℕ) (d : Draft) (actor : Actor) → IsOutputDraft nodes clocks drafts i place → slice_get drafts (all_places nodes + i) ≡ Some d → IsActorFrom drafts net (all_places nodes + i) d actor → IsSpotWord nodes clocks (at [] place) actor.firing
  output_firing i place d actor out f from =
      let own : FiresBy Alike d.word (slice_get net.rings (first_ring drafts (all_places nodes + i))) actor.firing =
      subst (λ t. FiresBy (plans.form_of t) d.word (slice_get net.rings (first_ring drafts (all_places nodes + i))) actor.firing) kind_is (form_fires d.kind d.word (slice_get net.rings (first_ring drafts (all_places nodes + i))) actor.firing from.firing) in
      subst (IsSpotWord nodes clocks (at [] place)) (sym own) (subst (λ (t : Draft). IsSpotWord nodes clocks (at [] place) t.word) same out.word)
    where
      same : out.draft ≡ d
      same = same_Some out.draft d (sym out.there ∙ f)

      kind_is : d.kind ≡ Output i
      kind_is = ap (λ (t : Draft). t.kind) (sym same) ∙ out.kind

  pub output_of : (i place : ℕ) → slice_get (results_in (node_at nodes [])) i ≡ Some place → IsOutput nodes clocks net i place
  output_of i place e =
      let out = are.outputs i place e in
      let own = is.actors (all_places nodes + i) out.draft out.there in
      record {
        actor = own.0;
        there = own.1;
        kind = own.2.kind ∙ out.kind;
        reads = ap (map (giver net)) own.2.takes ∙ givers (all_places nodes + i) out.draft out.there ∙ out.reads;
        firing = output_firing i place out.draft own.0 out out.there own.2;
      }

  pub count_whole : (ds : List Draft) → first_ring ds (length ds) ≡ all_reads ds
  count_whole [] = refl
  count_whole (d ∷ ds) = omega (arith, sum_by-cons reads_count d (take (length ds) ds), sum_by-cons reads_count d ds, count_whole ds)

  -- the ring of an operand of an instance place: what is written on it, and what is read
  pub record IsSpotRing (spot : Spot) (kind : PlaceKind) (k : ℕ) (d : Draft) (ring : RingSpec) : Type 0 where
    pub words : IsRingWord kind d.word ring.write ring.read
    pub adaptable : IsAdaptable ring.write ring.read
    pub read : Spot
    pub reads : slice_get (spot_reads nodes spot kind) k ≡ Some read
    pub written : IsSpotWord nodes clocks read ring.write

  spot_ring : (n : PlacedNode) (spot : Spot) (kind : PlaceKind) (k source : ℕ) (d : Draft) (ring : RingSpec) → node_at nodes spot.path ≡ Some n → Stands n spot.place kind → IsDraftMade nodes clocks spot kind d →
      slice_get d.reads.items k ≡ Some source → IsRingOf drafts (number nodes spot) k source d ring → IsSpotRing spot kind k d ring
  spot_ring n spot kind k source d ring e stands made got of =
      let kind_is : kind_at nodes spot ≡ Some kind = ap (λ o. kind_in o spot.place) e ∙ ap kind_of stands.1 ∙ ap (λ t. Some t) stands.2 in
      let read = map_from (number nodes) (spot_reads nodes spot kind) k source (ap (λ t. slice_get t k) (sym made.reads) ∙ got) in
      let inside = all_at (IsSpot nodes) (spot_reads nodes spot kind) k read.0 (closed_at nodes proper spot kind kind_is) read.1 in
      let giver = are.places read.0 inside.0 inside.1 in
      let same : giver.0 ≡ of.giver = same_Some giver.0 of.giver (sym giver.1 ∙ ap (slice_get drafts) read.2 ∙ of.gives) in
      let word : IsSpotWord nodes clocks read.0 of.giver.word = subst (λ (t : Draft). IsSpotWord nodes clocks read.0 t.word) same giver.2.word in
      let feeds_is = feeds nodes clocks proper clocked spot.path n spot.place kind e stands k read.0 of.giver.word d.word read.1 word made.word in
      let by_form = subst (λ t. ReadsBy t k d.word of.giver.word ring.read) (made_form made) (form_reads d.kind k d.word of.giver.word ring.read of.read) in
      let words : IsRingWord kind d.word ring.write ring.read = subst (λ t. IsRingWord kind d.word t ring.read) (sym of.write) (ring_word spot.path spot.place kind k of.giver.word d.word ring.read feeds_is by_form) in
      record { words = words; read = read.0; reads = read.1; written = subst (IsSpotWord nodes clocks read.0) (sym of.write) word; adaptable = ring_adaptable kind d.word ring.write ring.read words }

  -- every ring is one of an operand
  pub ring_found : (r : ℕ) (ring : RingSpec) → slice_get net.rings r ≡ Some ring → (o : IsOperandRing drafts r) × IsRingOf drafts o.a o.k o.source o.draft ring
  ring_found r ring e =
      let within = slice_get_within net.rings r ring e in
      let all = count_whole drafts in
      let o = find_ring drafts r (omega (arith, within, is.rings.count, all)) in
      let own = is.rings.each o.a o.k o.source o.draft (slice_get_within drafts o.a o.draft o.there) o.there o.reads in
      let same : own.0 ≡ ring = same_Some own.0 ring (sym own.1 ∙ ap (slice_get net.rings) o.is ∙ e) in
      (o, subst (IsRingOf drafts o.a o.k o.source o.draft) same own.2)

  -- the size of a buffer stands in its list
  buffer_there : (spot : Spot) (n : PlacedNode) (number q : ℕ) → node_at nodes spot.path ≡ Some n → Stands n spot.place (place_kind.Buffer number q) →
      at_one (sizes_in (slice_get clocks (index_at nodes spot.path))) number ≡ Some (ring_size clocks (index_at nodes spot.path) (place_kind.Buffer number q))
  buffer_there spot n number q e stands =
      let h = clock_of nodes clocks proper clocked spot.path n e in
      let kind_is = subst (IsProperKind n spot.place) stands.2 (h.proper_node.kinds spot.place stands.0 stands.1) in
      let few = h.is.sizes.count in
      let at_clock = there_at h.clock.sizes n.buffers number spot.place few kind_is.1 in
      ap (λ o. at_one (sizes_in o) number) h.stands ∙ at_clock ∙ ap (λ o. Some (slice_index_or (sizes_in o) (number - 1) 0)) (sym h.stands)
    where
      there_at : (sizes buffers : List ℕ) (k p : ℕ) → length sizes ≡ length buffers → at_one buffers k ≡ Some p → at_one sizes k ≡ Some (slice_index_or sizes (k - 1) 0)
      there_at sizes buffers zero p l f = absurd (cc f)
      there_at sizes buffers (suc i) p l f = (let z : i ≡ suc i - 1 = omega arith in present sizes i (omega (arith, l, slice_get_within buffers i p f)) ∙ ap (λ t. Some (slice_index_or sizes t 0)) z)

  -- the ring of an operand of an instance place: with the size of a buffer, and else 0
  spot_size : (spot : Spot) (kind : PlaceKind) (k source : ℕ) (d : Draft) (ring : RingSpec) → kind_at nodes spot ≡ Some kind → IsDraftMade nodes clocks spot kind d →
      slice_get d.reads.items k ≡ Some source → IsRingOf drafts (number nodes spot) k source d ring → IsSpotRing spot kind k d ring → IsSize ring.write ring.read ring.size
  spot_size spot kind k source d ring e made got of is_ring =
      elim (buffer_or clocks (index_at nodes spot.path) kind) [
        | inr r ↦
            let z : 0 ≡ ring.size = sym (of.size ∙ made.size ∙ r.1) in
            subst (IsSize ring.write ring.read) z (ring_empty kind d.word ring.write ring.read r.0 is_ring.words)
        | inl l ↦
            let st = standing nodes spot kind e in
            let number : ℕ = l.0 in
            let q : ℕ = l.1 in
            let stands = subst (Stands st.node spot.place) l.2 st.stands in
            let words = subst (λ t. IsRingWord t d.word ring.write ring.read) l.2 is_ring.words in
            let reads = one_read (at spot.path q) k is_ring.read (ap (λ t. slice_get (spot_reads nodes spot t) k) (sym l.2) ∙ is_ring.reads) in
            let written : IsSpotWord nodes clocks (at spot.path q) ring.write = subst (λ t. IsSpotWord nodes clocks t ring.write) (sym reads) is_ring.written in
            let size = buffer_there spot st.node number q st.found stands in
            let own = buffer_size nodes clocks proper clocked spot.path st.node spot.place number q (ring_size clocks (index_at nodes spot.path) (place_kind.Buffer number q)) ring.write d.word st.found stands size written made.word in
            let sized : ring_size clocks (index_at nodes spot.path) (place_kind.Buffer number q) ≡ ring.size = sym (of.size ∙ made.size ∙ ap (ring_size clocks (index_at nodes spot.path)) l.2) in
            subst (IsSize ring.write ring.read) sized (subst (λ t. IsSize ring.write t (ring_size clocks (index_at nodes spot.path) (place_kind.Buffer number q))) (sym words.0) own)
      ]
    where
      one_read : (x : Spot) (j : ℕ) (y : Spot) → slice_get (x ∷ []) j ≡ Some y → x ≡ y
      one_read x zero y g = same_Some x y g
      one_read x (suc j) y g = absurd (cc g)

  -- the ring of an output
  output_ring : (a k source : ℕ) (d : Draft) (ring : RingSpec) → all_places nodes ≤ a → slice_get drafts a ≡ Some d → slice_get d.reads.items k ≡ Some source → IsRingOf drafts a k source d ring →
      IsAdaptable ring.write ring.read × IsSize ring.write ring.read ring.size
  output_ring a k source d ring high at_a got of =
      let within = slice_get_within drafts a d at_a in
      let i : ℕ = a - all_places nodes in
      let place = get_there (results_in (node_at nodes [])) i (omega (arith, within, high, are.count)) in
      let numbered : all_places nodes + i ≡ a = omega (arith, high) in
      let out = are.outputs i place.0 place.1 in
      let same : out.draft ≡ d = same_Some out.draft d (sym out.there ∙ ap (slice_get drafts) numbered ∙ at_a) in
      let kind_is : d.kind ≡ Output i = ap (λ (t : Draft). t.kind) (sym same) ∙ out.kind in
      let read_is : ring.read ≡ d.word = subst (λ t. IsReadOn t k d.word of.giver.word ring.read) kind_is of.read in
      let spot = main_spot nodes proper i place.0 place.1 in
      let giver = are.places (at [] place.0) spot.0 spot.1 in
      let reads : d.reads.items ≡ number nodes (at [] place.0) ∷ [] = ap (λ (t : Draft). t.reads.items) (sym same) ∙ out.reads in
      let source_is : number nodes (at [] place.0) ≡ source = only_one (number nodes (at [] place.0)) k source (ap (λ t. slice_get t k) (sym reads) ∙ got) in
      let giver_is : giver.0 ≡ of.giver = same_Some giver.0 of.giver (sym giver.1 ∙ ap (slice_get drafts) source_is ∙ of.gives) in
      let written : IsSpotWord nodes clocks (at [] place.0) ring.write = subst (IsSpotWord nodes clocks (at [] place.0)) (sym of.write) (subst (λ (t : Draft). IsSpotWord nodes clocks (at [] place.0) t.word) giver_is giver.2.word) in
      let word : IsSpotWord nodes clocks (at [] place.0) ring.read = subst (IsSpotWord nodes clocks (at [] place.0)) (sym read_is) (subst (λ (t : Draft). IsSpotWord nodes clocks (at [] place.0) t.word) same out.word) in
      let alike : Same ring.write ring.read =
      on_one word.0 (word_at nodes clocks [] place.0) ring.write ring.read
      (on_base written.0 word.0 (word_at nodes clocks [] place.0) ring.write (base_same nodes clocks [] written.0 word.0 written.1 word.1) written.2) word.2 in
      let empty : 0 ≡ ring.size = sym (of.size ∙ ap (λ (t : Draft). t.size) (sym same) ∙ out.size) in
      (adaptable_self ring.write ring.read alike, subst (IsSize ring.write ring.read) empty (size_self ring.write ring.read alike))

  pub ring_fits : (r : ℕ) (ring : RingSpec) (o : IsOperandRing drafts r) → IsRingOf drafts o.a o.k o.source o.draft ring → IsAdaptable ring.write ring.read × IsSize ring.write ring.read ring.size
  ring_fits r ring o of = by_actor (cases_lt o.a (all_places nodes))
    where
      by_actor : (o.a < all_places nodes) ⊎ (all_places nodes ≤ o.a) → IsAdaptable ring.write ring.read × IsSize ring.write ring.read ring.size
      by_actor (inl low) =
          let sp = are.spots o.a low in
          let spot : Spot = sp.spot in
          let at_place = are.places spot sp.kind sp.stands in
          let same : at_place.0 ≡ o.draft = same_Some at_place.0 o.draft (sym at_place.1 ∙ ap (slice_get drafts) sp.numbered ∙ o.there) in
          let made : IsDraftMade nodes clocks spot sp.kind o.draft = subst (IsDraftMade nodes clocks spot sp.kind) same at_place.2 in
          let own : IsRingOf drafts (number nodes spot) o.k o.source o.draft ring = subst (λ t. IsRingOf drafts t o.k o.source o.draft ring) (sym sp.numbered) of in
          let st = standing nodes spot sp.kind sp.stands in
          let ring_of = spot_ring st.node spot sp.kind o.k o.source o.draft ring st.found st.stands made o.reads own in
          (ring_of.adaptable, spot_size spot sp.kind o.k o.source o.draft ring sp.stands made o.reads own ring_of)
      by_actor (inr high) = output_ring o.a o.k o.source o.draft ring high o.there o.reads of

  pub ring_sizes : (spot : Spot) (kind : PlaceKind) (actor : Actor) (k r : ℕ) (ring : RingSpec) → kind_at nodes spot ≡ Some kind →
      slice_get net.actors (number nodes spot) ≡ Some actor → slice_get actor.takes k ≡ Some r → slice_get net.rings r ≡ Some ring → ring.size ≡ ring_size clocks (index_at nodes spot.path) kind
  ring_sizes spot kind actor k r ring e f g h =
      let made = are.places spot kind e in
      let own = is.actors (number nodes spot) made.0 made.1 in
      let same : own.0 ≡ actor = same_Some own.0 actor (sym own.1 ∙ f) in
      let takes : slice_get (range_with_len (first_ring drafts (number nodes spot)) (reads_count made.0)) k ≡ Some r = ap (λ t. slice_get t k) (sym own.2.takes ∙ ap (λ (t : Actor). t.takes) same) ∙ g in
      let row = in_row (first_ring drafts (number nodes spot)) (reads_count made.0) k r takes in
      let source = present made.0.reads.items k row.0 in
      let found = is.rings.each (number nodes spot) k (get_or made.0.reads.items k 0) made.0 (slice_get_within drafts (number nodes spot) made.0 made.1) made.1 source in
      let ring_is : found.0 ≡ ring = same_Some found.0 ring (sym found.1 ∙ ap (slice_get net.rings) row.1 ∙ h) in
      ap (λ (t : RingSpec). t.size) (sym ring_is) ∙ found.2.size ∙ made.2.size
    where
      in_row : (a n j x : ℕ) → slice_get (range_with_len a n) j ≡ Some x → (j < n) × (a + j ≡ x)
      in_row a zero j x q = absurd (cc q)
      in_row a (suc n) zero x q = let z : a + 0 ≡ a = omega arith in (omega arith, z ∙ same_Some a x q)
      in_row a (suc n) (suc j) x q =
          let rest = in_row (a + 1) n j x q in
          let z : a + suc j ≡ a + 1 + j = omega arith in
          (omega (arith, rest.0), z ∙ rest.1)
