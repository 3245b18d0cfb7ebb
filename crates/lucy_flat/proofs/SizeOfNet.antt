-- A flat net is as large as is counted from its program's nodes.
use Rattle.std.proofs.Common.{ℕ, suc, ◌+◌, ◌*◌, ◌<◌, ◌≡◌, List, [], ◌∷◌, Option, Some, None, length, map, get_or, eqb, ap, sym, refl, ◌∙◌, subst, arith}
use Rattle.std.specs.Prelude.{All, slice_get, sum_by, option_map}
use Rattle.std.specs.List.{range_with_len, flat_map}
use Rattle.std.proofs.lemmas.List.{length-map}
use Rattle.std.proofs.lemmas.List.Sums.{sum_by-cons, sum_by-append}
use Rattle.std.proofs.lemmas.List.Concat.{length-flat_map}
use Rattle.std.proofs.lemmas.Option.{same_Some, slice_get_within, get_or_from_slice_get, slice_get-map}
use Rattle.std.proofs.lemmas.List.FromFn.{length-range_with_len}
use Rattle.lucy_word.specs.Bits.{Bits}
use Rattle.lucy_word.specs.Shortest.{Same}
use Rattle.lucy_word.specs.Sampling.{IsOn}
use Rattle.lucy_stream.specs.Forms.{Same as Alike}
use Rattle.lucy_word.proofs.ShortLaws.{same_sym, same_trans}
use Rattle.lucy_word.proofs.OnLaws.{on_one}
use Rattle.lucy_word.proofs.AdaptableLaws.{size_self}
use Rattle.lucy_place.specs.declared.placed.PlacedNode.{PlacedNode}
use Rattle.lucy_place.specs.declared.entry.PlaceKind.{PlaceKind}
use Rattle.lucy_place.specs.declared.entry.PlaceKind.TheVariants.{Param, Defined, Lit, Op, Host, When, Merge, Fby, Buffer, Result}
use Rattle.lucy_place.specs.Proper.{AreProper}
use Rattle.lucy_clock.specs.declared.node_clock.NodeClock.{NodeClock}
use Rattle.lucy_net.specs.declared.net.Actor.{Actor}
use Rattle.lucy_net.specs.declared.net.RingSpec.{RingSpec}
use Rattle.lucy_net.specs.declared.net.Net.{Net}
use Rattle.lucy_net.specs.Plans.{form_of, giver, taker}
use Rattle.lucy_net.specs.Proper.{IsWriteWord, IsReadWord}
use Rattle.lucy_net.proofs.WhereLaws.{where_all}
use Rattle.lucy_net.proofs.NetLaws.{from_here, to_here}
use Rattle.lucy_kahn.specs.Spots.{Spot, at, main_of, kind_at, spot_form, spot_reads, results_in}
use Rattle.lucy_kahn.specs.Sizes.{total_of, all_places}
use Rattle.lucy_kahn.specs.Numbers.{number}
use Rattle.lucy_kahn.proofs.Numbered.{number_reached}
use Rattle.lucy_flat.specs.Instances.{index_at, IsSpotWord}
use Rattle.lucy_flat.specs.Flat.{fires_at, ring_size, IsFlat, WouldBeFlat}
use Rattle.lucy_flat.specs.Counts.{own_rings, own_sizes, last_of, outputs_of, actors_of, rings_of, slots_of, IsPassedBy, NetPasses}
use Rattle.lucy_word.specs.declared.limit.Limit.{Limit}
use Rattle.lucy_word.proofs.Lists.{only_one}
use Rattle.lucy_host.proofs.Elements.{get_there}
use Rattle.lucy_flat.specs.Clocked.{AreClocked}
use Rattle.lucy_flat.specs.Drafts.{instance_spots}
use Rattle.lucy_flat.proofs.CountLaws.{reads_at, size_at, reads_by, size_by, kind_slots, total_reads, total_sizes}
use Rattle.lucy_flat.proofs.SizeLaws.{sum_add}
use Rattle.lucy_flat.proofs.SpotLaws.{spot_at, whole_length}
use Rattle.lucy_flat.proofs.SpotWords.{spot_same, feeds}
use Rattle.lucy_flat.proofs.RingWords.{form_back}
use Rattle.lucy_flat.proofs.FlatLaws.{standing, main_spot}
use Rattle.lucy_flat.proofs.OneNet.{one_size, taken_by}

-- a sum over a list whose front goes with another list, and behind it counts one each
sum_ones : {X : Type 0} (f : X → ℕ) (xs : List X) → ((i : ℕ) (x : X) → slice_get xs i ≡ Some x → f x ≡ 1) → sum_by f xs ≡ length xs
sum_ones f [] h = refl
sum_ones f (x ∷ xs) h = omega (arith, sum_by-cons f x xs, h 0 x refl, sum_ones f xs (λ i y e. h (suc i) y e))

pub two_parts : {X Y : Type 0} (f : X → ℕ) (g : Y → ℕ) (xs : List X) (ys : List Y) (n : ℕ) → length xs ≡ length ys + n → ((i : ℕ) (x : X) (y : Y) → slice_get xs i ≡ Some x → slice_get ys i ≡ Some y → f x ≡ g y) →
    ((i : ℕ) (x : X) → slice_get xs (length ys + i) ≡ Some x → f x ≡ 1) → sum_by f xs ≡ sum_by g ys + n
two_parts f g xs [] n l front back = omega (arith, sum_ones f xs (λ i x e. back i x (let z : i ≡ 0 + i = omega arith in ap (slice_get xs) (sym z) ∙ e)), l)
two_parts f g [] (y ∷ ys) n l front back = absurd (omega (arith, l))
two_parts f g (x ∷ xs) (y ∷ ys) n l front back =
    omega (arith, sum_by-cons f x xs, sum_by-cons g y ys, front 0 x y refl refl, two_parts f g xs ys n (omega (arith, l)) (λ i u v e k. front (suc i) u v e k) (λ i u e. back i u (let z : suc (length ys + i) ≡ suc (length ys) + i = omega arith in ap (slice_get (x ∷ xs)) (sym z) ∙ e)))

sum_flat : {X Y : Type 0} (g : Y → ℕ) (f : X → List Y) (xs : List X) → sum_by g (flat_map f xs) ≡ sum_by (λ x. sum_by g (f x)) xs
sum_flat g f [] = refl
sum_flat g f (x ∷ xs) = omega (arith, sum_by-append g (f x) (flat_map f xs), sum_by-cons (λ y. sum_by g (f y)) x xs, sum_flat g f xs)

sum_alike : {X : Type 0} (g : X → ℕ) (c : ℕ) (xs : List X) → ((k : ℕ) (x : X) → slice_get xs k ≡ Some x → g x ≡ c) → sum_by g xs ≡ length xs * c
sum_alike g c [] h = omega arith
sum_alike g c (x ∷ xs) h = omega (arith, sum_by-cons g x xs, h 0 x refl, sum_alike g c xs (λ k y e. h (suc k) y e))

sum_looked : {X : Type 0} (f : X → ℕ) (g : ℕ → ℕ) (n : ℕ) (xs : List X) → ((i : ℕ) (x : X) → slice_get xs i ≡ Some x → g (n + i) ≡ f x) → sum_by g (range_with_len n (length xs)) ≡ sum_by f xs
sum_looked f g n [] h = refl
sum_looked f g n (x ∷ xs) h =
    let first : g n ≡ f x = (let z : n ≡ n + 0 = omega arith in ap g z ∙ h 0 x refl) in
    let rest = sum_looked f g (n + 1) xs (λ i y e. (let z : n + 1 + i ≡ n + suc i = omega arith in ap g z ∙ h (suc i) y e)) in
    omega (arith, sum_by-cons g n (range_with_len (n + 1) (length xs)), sum_by-cons f x xs, first, rest)

-- the slots of a ring by its number
abbrev slots_in : Option RingSpec → ℕ
slots_in None = 0
slots_in (Some ring) = ring.size + 1

-- what the actor of an instance place writes has the bits of the place's own word
plain : (nodes : List PlacedNode) (clocks : List NodeClock) (spot : Spot) (firing write own : Bits) → IsSpotWord nodes clocks spot firing → IsSpotWord nodes clocks spot own → Same firing write → Same write own
plain nodes clocks spot firing write own a b w = same_trans write firing own (same_sym firing write w) (spot_same nodes clocks spot firing own a b)

write_own : (nodes : List PlacedNode) (clocks : List NodeClock) (path : List ℕ) (place : ℕ) (kind : PlaceKind) (firing write own : Bits) → IsSpotWord nodes clocks (fires_at (at path place) kind) firing → IsSpotWord nodes clocks (at path place) own →
    ((q : ℕ) (p : Bits) → kind ≡ When q p → IsSpotWord nodes clocks (at path q) firing → IsOn firing p own) → IsWriteWord (spot_form (at path place) kind) firing write → Same write own
write_own nodes clocks [] place Param firing write own a b h w = plain nodes clocks (at [] place) firing write own a b w
write_own nodes clocks (call ∷ path) place Param firing write own a b h w = plain nodes clocks (at (call ∷ path) place) firing write own a b w
write_own nodes clocks path place (Defined e) firing write own a b h w = plain nodes clocks (at path place) firing write own a b w
write_own nodes clocks path place (Lit l) firing write own a b h w = plain nodes clocks (at path place) firing write own a b w
write_own nodes clocks path place (Op op args) firing write own a b h w = plain nodes clocks (at path place) firing write own a b w
write_own nodes clocks path place (Host op u v) firing write own a b h w = plain nodes clocks (at path place) firing write own a b w
write_own nodes clocks path place (When q p) firing write own a b h w = on_one firing p write own w (h q p refl a)
write_own nodes clocks path place (Merge p u v) firing write own a b h w = plain nodes clocks (at path place) firing write own a b w
write_own nodes clocks path place (Fby l e) firing write own a b h w = plain nodes clocks (at path place) firing write own a b w
write_own nodes clocks path place (Buffer k e) firing write own a b h w = plain nodes clocks (at path place) firing write own a b w
write_own nodes clocks path place (Result c j) firing write own a b h w = plain nodes clocks (at path place) firing write own a b w

none_more : (n : ℕ) → 0 + n ≡ n
none_more n = omega arith

-- the sums over all instance places
by_nodes : (nodes : List PlacedNode) (clocks : List NodeClock) → AreProper nodes → AreClocked nodes clocks → sum_by (reads_at nodes clocks) (instance_spots nodes [] (last_of nodes)) ≡ total_of own_rings nodes (last_of nodes)
by_nodes [] clocks proper clocked = refl
by_nodes (n ∷ nodes) clocks proper clocked = (let main = get_there (n ∷ nodes) (last_of (n ∷ nodes)) (omega arith) in total_reads (n ∷ nodes) clocks proper clocked (length (n ∷ nodes)) [] main.0 main.1 (omega arith) ∙ none_more (total_of own_rings (n ∷ nodes) (last_of (n ∷ nodes))))

sizes_by : (nodes : List PlacedNode) (clocks : List NodeClock) → AreProper nodes → AreClocked nodes clocks → sum_by (size_at nodes clocks) (instance_spots nodes [] (last_of nodes)) ≡ total_of (own_sizes clocks) nodes (last_of nodes)
sizes_by [] clocks proper clocked = refl
sizes_by (n ∷ nodes) clocks proper clocked = (let main = get_there (n ∷ nodes) (last_of (n ∷ nodes)) (omega arith) in total_sizes (n ∷ nodes) clocks proper clocked (length (n ∷ nodes)) [] main.0 main.1 (omega arith))

module _ (nodes : List PlacedNode) (clocks : List NodeClock) (proper : AreProper nodes) (clocked : AreClocked nodes clocks) (net : Net) (flat : WouldBeFlat nodes clocks net) where
  abbrev places : List Spot
  places = instance_spots nodes [] (last_of nodes)

  count : length net.actors ≡ length places + outputs_of nodes
  count = omega (arith, flat.count, whole_length nodes proper)

  -- an actor of an instance place, and one of an output
  record IsPlaceActor (x : Actor) (s : Spot) : Type 0 where
    pub kind : PlaceKind
    pub stands : kind_at nodes s ≡ Some kind
    pub there : slice_get net.actors (number nodes s) ≡ Some x
    pub reads : length x.takes ≡ length (spot_reads nodes s kind)

  place_actor : (i : ℕ) (x : Actor) (s : Spot) → slice_get net.actors i ≡ Some x → slice_get places i ≡ Some s → IsPlaceActor x s
  place_actor i x s e f =
      let low = slice_get_within places i s f in
      let r = number_reached nodes proper i (omega (arith, low, whole_length nodes proper)) in
      let same : r.0 ≡ s = same_Some r.0 s (sym (spot_at nodes proper r.0 r.1.0 r.1.1) ∙ ap (slice_get places) r.2 ∙ f) in
      let a = flat.actors r.0 r.1.0 r.1.1 in
      let is : a.actor ≡ x = same_Some a.actor x (sym a.there ∙ ap (slice_get net.actors) r.2 ∙ e) in
      let found : IsPlaceActor a.actor r.0 = record {
        kind = r.1.0;
        stands = r.1.1;
        there = a.there;
        reads = sym (length-map a.actor.takes (giver net)) ∙ ap length a.reads ∙ length-map (spot_reads nodes r.0 r.1.0) (number nodes);
      } in
      subst (λ t. IsPlaceActor t s) is (subst (IsPlaceActor a.actor) same found)

  record IsOutputActor (x : Actor) (i : ℕ) : Type 0 where
    pub place : ℕ
    pub result : slice_get (results_in (main_of nodes)) i ≡ Some place
    pub there : slice_get net.actors (all_places nodes + i) ≡ Some x
    pub form : form_of x.kind ≡ Alike
    pub reads : map (giver net) x.takes ≡ number nodes (at [] place) ∷ []
    pub firing : IsSpotWord nodes clocks (at [] place) x.firing

  output_actor : (i : ℕ) (x : Actor) → slice_get net.actors (length places + i) ≡ Some x → IsOutputActor x i
  output_actor i x e =
      let at_i : length places + i ≡ all_places nodes + i = ap (λ n. n + i) (whole_length nodes proper) in
      let here : slice_get net.actors (all_places nodes + i) ≡ Some x = ap (slice_get net.actors) (sym at_i) ∙ e in
      let place = get_there (results_in (main_of nodes)) i (omega (arith, slice_get_within net.actors (all_places nodes + i) x here, flat.count)) in
      let a = flat.outputs i place.0 place.1 in
      let is : a.actor ≡ x = same_Some a.actor x (sym a.there ∙ here) in
      subst (λ t. IsOutputActor t i) is (record { place = place.0; result = place.1; there = a.there; form = ap form_of a.kind; reads = a.reads; firing = a.firing })

  one_taken : (x : Actor) (i : ℕ) → IsOutputActor x i → length x.takes ≡ 1
  one_taken x i out = sym (length-map x.takes (giver net)) ∙ ap length out.reads

  -- so many rings are there
  total_places : sum_by (reads_at nodes clocks) places ≡ total_of own_rings nodes (last_of nodes)
  total_places = by_nodes nodes clocks proper clocked

  pub rings_count : length net.rings ≡ rings_of nodes
  rings_count =
      let all = two_parts (λ (x : Actor). length x.takes) (reads_at nodes clocks) net.actors places (outputs_of nodes) count
      (λ i x s e f. (let p = place_actor i x s e f in p.reads ∙ sym (ap (reads_by nodes s) p.stands))) (λ i x e. one_taken x i (output_actor i x e)) in
      sym (length-range_with_len 0 (length net.rings)) ∙ ap length (sym flat.rings) ∙ length-flat_map (λ (x : Actor). x.takes) net.actors ∙ all ∙ ap (λ n. n + outputs_of nodes) total_places

  -- the ring of a number that an actor takes
  record IsTakenRing (a r : ℕ) : Type 0 where
    pub ring : RingSpec
    pub there : slice_get net.rings r ≡ Some ring
    pub to : ring.to ≡ a

  taken_ring : (a k r : ℕ) (x : Actor) → slice_get net.actors a ≡ Some x → slice_get x.takes k ≡ Some r → IsTakenRing a r
  taken_ring a k r x e f =
      let is = flat.proper.actors a x e in
      let l = slice_get_within x.takes k r f in
      let here : get_or x.takes k 0 ≡ r = get_or_from_slice_get x.takes k r 0 f in
      let low : All (λ (s : ℕ). s < length net.rings) x.takes = subst (All (λ (s : ℕ). s < length net.rings)) (sym is.takes) (where_all (λ s. s < length net.rings) (λ s. eqb (taker net s) a) (length net.rings) (λ s h y. h)) in
      let ring = get_there net.rings r (subst (λ s. s < length net.rings) here (low k 0 l)) in
      record { ring = ring.0; there = ring.1; to = sym (to_here net r ring.0 ring.1) ∙ taken_by net a r k x is l here }

  -- the slots of what an actor takes
  place_slots : (i : ℕ) (x : Actor) (s : Spot) → IsPlaceActor x s → sum_by (λ r. slots_in (slice_get net.rings r)) x.takes ≡ reads_at nodes clocks s + size_at nodes clocks s
  place_slots i x s is =
      let size : ℕ = ring_size clocks (index_at nodes s.path) is.kind in
      let each = sum_alike (λ r. slots_in (slice_get net.rings r)) (size + 1) x.takes (λ k r f. (
      let ring = taken_ring (number nodes s) k r x is.there f in
      ap slots_in ring.there ∙ ap (λ n. n + 1) (flat.sizes s is.kind x k r ring.ring is.stands is.there f ring.there)
      )) in
      each ∙ ap (λ n. n * (size + 1)) is.reads ∙ kind_slots nodes clocks (index_at nodes s.path) s.path s.place is.kind
      ∙ sym (ap (λ o. reads_by nodes s o + size_by nodes clocks s o) is.stands)

  -- the ring from which an output takes has size 0: it takes on the word on which its place gives
  output_empty : (i : ℕ) (x : Actor) → IsOutputActor x i → (k r : ℕ) (ring : RingSpec) → slice_get x.takes k ≡ Some r → slice_get net.rings r ≡ Some ring → ring.to ≡ all_places nodes + i → ring.size ≡ 0
  output_empty i x is k r ring f g to =
      let u = flat.proper.rings r ring g in
      let spot = main_spot nodes proper i is.place is.result in
      let a = flat.actors (at [] is.place) spot.0 spot.1 in
      let from : ring.from ≡ number nodes (at [] is.place) = sym (from_here net r ring g) ∙ sym (only_one (number nodes (at [] is.place)) k (giver net r) (ap (λ t. slice_get t k) (sym is.reads) ∙ slice_get-map (giver net) x.takes k ∙ ap (option_map (giver net)) f)) in
      let giver_is : a.actor ≡ u.giver = same_Some a.actor u.giver (sym a.there ∙ ap (slice_get net.actors) (sym from) ∙ u.gives_here) in
      let taker_is : u.taker ≡ x = same_Some u.taker x (sym u.takes_here ∙ ap (slice_get net.actors) to ∙ is.there) in
      let form : form_of a.actor.kind ≡ spot_form (at [] is.place) spot.0 = ap form_of a.does ∙ form_back (spot_form (at [] is.place) spot.0) in
      let written : IsWriteWord (spot_form (at [] is.place) spot.0) a.actor.firing ring.write =
      subst (λ t. IsWriteWord t a.actor.firing ring.write) form (subst (λ (t : Actor). IsWriteWord (form_of t.kind) t.firing ring.write) (sym giver_is) u.write) in
      let st = standing nodes (at [] is.place) spot.0 spot.1 in
      let write : Same ring.write x.firing =
      write_own nodes clocks [] is.place spot.0 a.actor.firing ring.write x.firing a.firing is.firing
      (λ q p e s. feeds nodes clocks proper clocked [] st.node is.place (When q p) st.found (st.stands.0, st.stands.1, st.stands.2 ∙ e) 0 (at [] q) a.actor.firing x.firing refl s is.firing) written in
      let here : k < length u.taker.takes = subst (λ (t : Actor). k < length t.takes) (sym taker_is) (slice_get_within x.takes k r f) in
      let mine : get_or u.taker.takes k 0 ≡ r = ap (λ (t : Actor). get_or t.takes k 0) taker_is ∙ get_or_from_slice_get x.takes k r 0 f in
      let read : Same x.firing ring.read = subst (λ t. IsReadWord t x.firing k ring.read) is.form (subst (λ (t : Actor). IsReadWord (form_of t.kind) t.firing k ring.read) taker_is (u.read k here mine)) in
      one_size ring.write ring.read ring.size 0 u.size (size_self ring.write ring.read (same_trans ring.write x.firing ring.read write read))

  output_slots : (i : ℕ) (x : Actor) → IsOutputActor x i → sum_by (λ r. slots_in (slice_get net.rings r)) x.takes ≡ 1
  output_slots i x is =
      let each = sum_alike (λ r. slots_in (slice_get net.rings r)) 1 x.takes (λ k r f. (
      let ring = taken_ring (all_places nodes + i) k r x is.there f in
      ap slots_in ring.there ∙ ap (λ n. n + 1) (output_empty i x is k r ring.ring f ring.there ring.to)
      )) in
      each ∙ ap (λ n. n * 1) (one_taken x i is)

  -- the same of the actor that stands at the number of an output
  pub output_ring_empty : (i k r : ℕ) (x : Actor) (ring : RingSpec) → slice_get net.actors (all_places nodes + i) ≡ Some x →
      slice_get x.takes k ≡ Some r → slice_get net.rings r ≡ Some ring → ring.to ≡ all_places nodes + i → ring.size ≡ 0
  output_ring_empty i k r x ring e f g to =
      let at_i : length places + i ≡ all_places nodes + i = ap (λ n. n + i) (whole_length nodes proper) in
      output_empty i x (output_actor i x (ap (slice_get net.actors) at_i ∙ e)) k r ring f g to

  pub slots_count : sum_by (λ ring. ring.size + 1) net.rings ≡ slots_of nodes clocks
  slots_count =
      let looked = sum_looked (λ (ring : RingSpec). ring.size + 1) (λ r. slots_in (slice_get net.rings r)) 0 net.rings (λ i ring e. (let z : 0 + i ≡ i = omega arith in ap (λ n. slots_in (slice_get net.rings n)) z ∙ ap slots_in e)) in
      let taken = ap (sum_by (λ r. slots_in (slice_get net.rings r))) (sym flat.rings) ∙ sum_flat (λ r. slots_in (slice_get net.rings r)) (λ (x : Actor). x.takes) net.actors in
      let all = two_parts (λ (x : Actor). sum_by (λ r. slots_in (slice_get net.rings r)) x.takes) (λ s. reads_at nodes clocks s + size_at nodes clocks s) net.actors places (outputs_of nodes) count
      (λ i x s e f. place_slots i x s (place_actor i x s e f)) (λ i x e. output_slots i x (output_actor i x e)) in
      omega (arith, looked, taken, all, sum_add (reads_at nodes clocks) (size_at nodes clocks) places, total_places, sizes_by nodes clocks proper clocked)

  pub passes : (l : Limit) → NetPasses nodes clocks l → IsPassedBy (length net.actors) (length net.rings) (sum_by (λ ring. ring.size + 1) net.rings) l
  passes l why =
      subst (λ n. IsPassedBy n (length net.rings) (sum_by (λ ring. ring.size + 1) net.rings) l) (sym flat.count)
      (subst (λ n. IsPassedBy (actors_of nodes) n (sum_by (λ ring. ring.size + 1) net.rings) l) (sym rings_count) (subst (λ n. IsPassedBy (actors_of nodes) (rings_of nodes) n l) (sym slots_count) why))

pub would_be : (nodes : List PlacedNode) (clocks : List NodeClock) (net : Net) → IsFlat nodes clocks net → WouldBeFlat nodes clocks net
would_be nodes clocks net flat = record {
  count = flat.count;
  actors = flat.actors;
  outputs = flat.outputs;
  rings = flat.rings;
  sizes = flat.sizes;
  proper = record { actors = flat.proper.actors; rings = flat.proper.rings };
}
