-- The list of each instance place is whole: that of one that nothing reads, too.
use Rattle.std.proofs.Common.{ℕ, ◌+◌, ◌-◌, ◌*◌, ◌<◌, ◌≤◌, ◌≡◌, List, [], ◌∷◌, Some, length, ap, sym, refl, ◌∙◌, subst, arith}
use Rattle.std.specs.Prelude.{ℤ, slice_get, slice_index_or}
use Rattle.std.proofs.lemmas.List.Elements.{All-get_or}
use Rattle.std.proofs.lemmas.Option.{same_Some, slice_get_within}
use Rattle.lucy_word.specs.Bits.{Bits, IsWord, ones_to}
use Rattle.lucy_word.specs.Sampling.{IsOn}
use Rattle.lucy_word.proofs.SamplingLaws.{ones_to-on}
use Rattle.lucy_word.proofs.OnLaws.{on_some}
use Rattle.lucy_word.proofs.ShortLaws.{same_counts}
use Rattle.lucy_host.specs.declared.kind.HostKind.{HostKind}
use Rattle.lucy_host.proofs.Elements.{get_there}
use Rattle.lucy_stream.specs.Items.{list_at}
use Rattle.lucy_stream.specs.Iterates.{iterate}
use Rattle.lucy_stream.specs.Forms.{Same, operands}
use Rattle.lucy_stream.specs.Firings.{gave_in, took_in}
use Rattle.lucy_stream.specs.Runs.{IsWhole}
use Rattle.lucy_stream.specs.Plans.{places_of}
use Rattle.lucy_place.specs.declared.placed.PlacedNode.{PlacedNode}
use Rattle.lucy_place.specs.declared.entry.PlaceKind.{PlaceKind}
use Rattle.lucy_place.specs.declared.entry.PlaceKind.TheVariants as place_kind
use Rattle.lucy_place.specs.Proper.{AreProper}
use Rattle.lucy_clock.specs.declared.node_clock.NodeClock.{NodeClock}
use Rattle.lucy_net.specs.declared.net.Actor.{Actor}
use Rattle.lucy_net.specs.declared.net.Net.{Net}
use Rattle.lucy_net.specs.Plans.{form_of, task_of, giver, plan, net_system}
use Rattle.lucy_net.specs.Proper.{IsProperRing, IsReadWord}
use Rattle.lucy_net.proofs.NetLaws.{task_at, planned, plugged, write_counts, read_counts, from_here, to_here, takes_there}
use Rattle.lucy_net.proofs.BackLaws.{same_places}
use Rattle.lucy_core.specs.Seen.{first_ring}
use Rattle.lucy_kahn.specs.Spots.{Spot, at, main_of, node_at, kind_at, IsSpot, spot_form, results_in}
use Rattle.lucy_kahn.specs.Sizes.{all_places}
use Rattle.lucy_kahn.specs.Numbers.{number}
use Rattle.lucy_kahn.specs.Kahn.{kahn}
use Rattle.lucy_kahn.specs.Horizons.{Suffice}
use Rattle.lucy_kahn.proofs.Paths.{low_of, is_at}
use Rattle.lucy_kahn.proofs.Numbered.{number_below}
use Rattle.lucy_flat.specs.Clocked.{AreClocked}
use Rattle.lucy_flat.specs.Instances.{word_at, IsBase, IsSpotWord}
use Rattle.lucy_flat.specs.Flat.{fires_at, IsFlat}
use Rattle.lucy_flat.proofs.FlatLaws.{main_spot}
use Rattle.lucy_flat.proofs.SpotWords.{spot_same, feeds, clock_of, base_word}
use Rattle.lucy_flat.proofs.RingWords.{form_back}
use Rattle.lucy_flat.proofs.MeaningLaws.{places_iterate}
use Rattle.lucy_results.specs.Streams.{main_word, param_words}
use Rattle.lucy_results.proofs.TaskLaws.{list_whole}
use Rattle.lucy_results.proofs.NetLaws.{main_counts, first_from, runnable, turns_are}

module _ (nodes : List PlacedNode) (clocks : List NodeClock) (proper : AreProper nodes) where
  same_ones : (spot : Spot) (firing word : Bits) (t : ℕ) → IsSpotWord nodes clocks spot firing → IsSpotWord nodes clocks spot word →
      ones_to firing t ≡ ones_to word t
  same_ones spot firing word t f w = same_counts firing word (spot_same nodes clocks spot firing word f w) t

  -- by its firings the actor of an instance place gives what the place's word counts
  gives_word : AreClocked nodes clocks → (path : List ℕ) (place : ℕ) (kind : PlaceKind) (firing word : Bits) (t : ℕ) →
      kind_at nodes (at path place) ≡ Some kind →
      IsSpotWord nodes clocks (fires_at (at path place) kind) firing → IsSpotWord nodes clocks (at path place) word →
      gave_in (spot_form (at path place) kind) (ones_to firing t) ≡ ones_to word t
  gives_word clocked path place (place_kind.When q p) firing word t e f w =
      let is = is_at (node_at nodes path) place (place_kind.When q p) e in
      let on : IsOn firing p word = feeds nodes clocks proper clocked path is.node place (place_kind.When q p) is.node_is
      (is.entry, is.stands, is.kind_is) 0 (at path q) firing word refl f w in
      sym (ones_to-on firing p word t on)
  gives_word clocked [] place place_kind.Param firing word t e f w = same_ones (at [] place) firing word t f w
  gives_word clocked (call ∷ path) place place_kind.Param firing word t e f w = same_ones (at (call ∷ path) place) firing word t f w
  gives_word clocked path place (place_kind.Defined q) firing word t e f w = same_ones (at path place) firing word t f w
  gives_word clocked path place (place_kind.Lit l) firing word t e f w = same_ones (at path place) firing word t f w
  gives_word clocked path place (place_kind.Op op args) firing word t e f w = same_ones (at path place) firing word t f w
  gives_word clocked path place (place_kind.Host op a b) firing word t e f w = same_ones (at path place) firing word t f w
  gives_word clocked path place (place_kind.Merge p a b) firing word t e f w = same_ones (at path place) firing word t f w
  gives_word clocked path place (place_kind.Fby l q) firing word t e f w = same_ones (at path place) firing word t f w
  gives_word clocked path place (place_kind.Buffer k q) firing word t e f w = same_ones (at path place) firing word t f w
  gives_word clocked path place (place_kind.Result c j) firing word t e f w = same_ones (at path place) firing word t f w

  -- the actor fires on the base of its instance
  base_of : (path : List ℕ) (place : ℕ) (kind : PlaceKind) (firing : Bits) →
      IsSpotWord nodes clocks (fires_at (at path place) kind) firing → (base : Bits) × IsBase nodes clocks path base
  base_of path place (place_kind.When q p) firing f = (f.0, f.1)
  base_of path place kind firing f = (f.0, f.1)

  -- an instance place has a word
  pub word_there : (net : Net) → IsFlat nodes clocks net → AreClocked nodes clocks → (spot : Spot) → IsSpot nodes spot →
      (word : Bits) × IsSpotWord nodes clocks spot word
  word_there net flat clocked spot is =
      let of = flat.actors spot is.0 is.1 in
      let base = base_of spot.path spot.place is.0 of.actor.firing of.firing in
      let stands = is_at (node_at nodes spot.path) spot.place is.0 is.1 in
      let own = clock_of nodes clocks proper clocked spot.path stands.node stands.node_is in
      let low = low_of stands.node.places spot.place stands.entry stands.stands in
      let within = slice_get_within stands.node.places (spot.place - 1) stands.entry low.1 in
      let word : IsWord (word_at nodes clocks spot.path spot.place) =
      subst IsWord (sym (own.word spot.place)) (own.is.well.words spot.place (omega (arith, low.0, within))) in
      let on = on_some base.0 (word_at nodes clocks spot.path spot.place)
      (base_word nodes clocks proper clocked spot.path base.0 base.1) word in
      (on.0, (base.0, base.1, on.1))

  module _ (net : Net) (flat : IsFlat nodes clocks net) (kinds : List HostKind) (inputs : List (List ℤ)) (t : ℕ) (order : List ℕ)
      (suffice : Suffice (param_words nodes clocks) inputs t) (whole : IsWhole (net_system net t) order) where
    -- the list of an instance place has what its actor gives
    actor_whole : (spot : Spot) (kind : PlaceKind) (e : kind_at nodes spot ≡ Some kind) →
        gave_in (form_of (flat.actors spot kind e).actor.kind) (ones_to (flat.actors spot kind e).actor.firing t)
        ≤ length (kahn kinds inputs nodes (t * all_places nodes) spot)
    actor_whole spot kind e =
        let of = flat.actors spot kind e in
        let a : ℕ = number nodes spot in
        let n : ℕ = all_places nodes * t in
        let all : gave_in (form_of of.actor.kind) (ones_to of.actor.firing t)
        ≤ length (list_at (iterate kinds inputs (places_of (plan net t)) n) a) =
        list_whole kinds inputs (plan net t) (all_places nodes) t order
        (runnable nodes clocks proper net flat inputs t suffice) (subst (λ sys. IsWhole sys order) (sym (planned net t)) whole) a
        (task_of t of.actor) (task_at net t a of.actor of.there)
        (number_below nodes proper spot (kind, e)) in
        let list : list_at (iterate kinds inputs (places_of (plan net t)) n) a ≡ kahn kinds inputs nodes (t * all_places nodes) spot =
        ap (λ ps. list_at (iterate kinds inputs ps n) a) (same_places net t)
        ∙ places_iterate nodes clocks net proper flat kinds inputs n spot (kind, e)
        ∙ ap (λ k. kahn kinds inputs nodes k spot) (turns_are nodes clocks proper net flat t) in
        omega (arith, all, ap length list)

    -- it has the items of the place's word
    pub place_whole : AreClocked nodes clocks → (spot : Spot) (word : Bits) → IsSpot nodes spot → IsSpotWord nodes clocks spot word →
        ones_to word t ≤ length (kahn kinds inputs nodes (t * all_places nodes) spot)
    place_whole clocked spot word is on =
        let of = flat.actors spot is.0 is.1 in
        let form : form_of of.actor.kind ≡ spot_form spot is.0 = ap form_of of.does ∙ form_back (spot_form spot is.0) in
        omega (
          arith,
          actor_whole spot is.0 is.1,
          ap (λ f. gave_in f (ones_to of.actor.firing t)) form,
          gives_word clocked spot.path spot.place is.0 of.actor.firing word t is.1 of.firing on,
        )

    -- that of a result has the items of its word, as its output takes them
    pub enough : (i place : ℕ) → slice_get (results_in (main_of nodes)) i ≡ Some place →
        ones_to (main_word nodes clocks place) t ≤ length (kahn kinds inputs nodes (t * all_places nodes) (at [] place))
    enough i place e =
        let of = flat.outputs i place e in
        let a : ℕ = all_places nodes + i in
        let r : ℕ = first_ring of.actor in
        let is_proper = flat.proper.actors a of.actor of.there in
        let same : form_of of.actor.kind ≡ Same = ap form_of of.kind in
        let takes_one : 0 < length of.actor.takes = omega (arith, is_proper.arity, ap operands same) in
        let within : r < length net.rings = All-get_or (λ q. q < length net.rings) of.actor.takes 0 0 takes_one
        (takes_there net a of.actor is_proper) in
        let ring = get_there net.rings r within in
        let is_ring : IsProperRing net r ring.0 = flat.proper.rings r ring.0 ring.1 in
        let to : ring.0.to ≡ a = sym (to_here net r ring.0 ring.1)
        ∙ All-get_or (λ q. (plan net t).to q ≡ a) of.actor.takes 0 0 takes_one
        (plugged net t flat.proper a (task_of t of.actor) (task_at net t a of.actor of.there)).takes in
        let taker : is_ring.taker ≡ of.actor = same_Some is_ring.taker of.actor
        (sym is_ring.takes_here ∙ ap (slice_get net.actors) to ∙ of.there) in
        let read : IsReadWord (form_of of.actor.kind) of.actor.firing 0 ring.0.read =
        subst (λ (x : Actor). IsReadWord (form_of x.kind) x.firing 0 ring.0.read) taker
        (is_ring.read 0 (omega (arith, takes_one, ap (λ (x : Actor). length x.takes) taker))
        (ap (λ (x : Actor). slice_index_or x.takes 0 0) taker)) in
        let reads : ones_to of.actor.firing t ≡ ones_to ring.0.read t =
        ap (λ f. took_in f (ones_to of.actor.firing t) 0) (sym same)
        ∙ read_counts (form_of of.actor.kind) of.actor.firing ring.0.read 0 t read in
        let writes : gave_in (form_of is_ring.giver.kind) (ones_to is_ring.giver.firing t) ≡ ones_to ring.0.write t =
        write_counts (form_of is_ring.giver.kind) is_ring.giver.firing ring.0.write t is_ring.write in
        let leads : ones_to ring.0.read t ≤ ones_to ring.0.write t = is_ring.adaptable.1 t in
        let spot = main_spot nodes proper i place e in
        let by = flat.actors (at [] place) spot.0 spot.1 in
        let from : ring.0.from ≡ number nodes (at [] place) =
        sym (from_here net r ring.0 ring.1) ∙ first_from nodes clocks proper net flat (giver net) of.actor.takes
        (number nodes (at [] place)) of.reads in
        let mine : is_ring.giver ≡ by.actor = same_Some is_ring.giver by.actor
        (sym is_ring.gives_here ∙ ap (slice_get net.actors) from ∙ by.there) in
        let counts : ones_to of.actor.firing t ≡ ones_to (main_word nodes clocks place) t =
        main_counts nodes clocks place t of.actor.firing of.firing in
        omega (
          arith,
          reads,
          writes,
          leads,
          counts,
          actor_whole (at [] place) spot.0 spot.1,
          ap (λ (x : Actor). gave_in (form_of x.kind) (ones_to x.firing t)) mine,
        )
