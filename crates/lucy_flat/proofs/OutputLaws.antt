-- The drafts of a program: those of its instance places, and then those of the results of main.
use Rattle.std.proofs.Common.{ℕ, ◌+◌, ◌*◌, ◌<◌, ◌≤◌, ◌≡◌, List, [], ◌∷◌, ◌++◌, Option, Some, None, length, get_or, ap, sym, refl, ◌∙◌, subst, inl, inr, arith}
use Rattle.std.specs.Prelude.{◌⊎◌, sum_by, slice_get, slice_index_or}
use Rattle.std.specs.List.{range_with_len}
use Rattle.std.proofs.lemmas.Grind.{flat_map-append}
use Rattle.std.proofs.lemmas.Bool.{cases_lt}
use Rattle.std.proofs.lemmas.List.{append-nil, length_push}
use Rattle.std.proofs.lemmas.List.Sums.{sum_by_push}
use Rattle.std.proofs.lemmas.Option.{same_Some, slice_get_within}
use Rattle.lucy_word.specs.Bits.{Bits, IsWord}
use Rattle.lucy_word.specs.Shortest.{IsShortest}
use Rattle.lucy_word.proofs.Lists.{still_there, range_more}
use Rattle.lucy_host.proofs.Elements.{get_there}
use Rattle.lucy_place.specs.declared.placed.PlacedNode.{PlacedNode}
use Rattle.lucy_place.specs.declared.entry.PlaceKind.{PlaceKind}
use Rattle.lucy_place.specs.Proper.{IsPlace, AreProper}
use Rattle.lucy_net.specs.declared.kind.ActorKind.TheVariants.{Output}
use Rattle.lucy_net.specs.Proper.{input_of, output_of}
use Rattle.lucy_clock.specs.declared.node_clock.NodeClock.{NodeClock}
use Rattle.lucy_flat.specs.declared.draft.Draft.{Draft}
use Rattle.lucy_kahn.specs.Spots.{Spot, at, kind_at, results_in, main_of}
use Rattle.lucy_kahn.specs.Sizes.{all_places}
use Rattle.lucy_kahn.specs.Numbers.{number}
use Rattle.lucy_flat.specs.Instances.{IsSpotWord}
use Rattle.lucy_flat.specs.Counts.{last_of}
use Rattle.lucy_kahn.proofs.Closed.{place_of, place_spot}
use Rattle.lucy_flat.specs.Clocked.{AreClocked}
use Rattle.lucy_flat.specs.Assembly.{reads_count, all_reads}
use Rattle.lucy_flat.specs.Drafts.{IsDraftMade, IsDraft, IsOutputDraft, IsOfSpot, instance_spots, input_numbers, output_numbers, inputs_in, draft_slots, ArePut, AreDrafts, AreDraftsSoFar}
use Rattle.lucy_flat.proofs.AssemblyLaws.{get_last, present}
use Rattle.lucy_flat.proofs.MadeLaws.{made_length, made_at}
use Rattle.lucy_flat.proofs.SpotLaws.{spot_at, whole_length}
use Rattle.lucy_flat.proofs.InstanceLaws.{word_is}
use Rattle.lucy_flat.proofs.DraftLaws.{main_word}
use Rattle.lucy_kahn.proofs.Numbered.{number_below, number_reached}
use Rattle.lucy_flat.proofs.CountLaws.{made_reads, made_slots, made_inputs, made_outputs, total_reads, total_sizes, total_inputs}

module _ (nodes : List PlacedNode) (clocks : List NodeClock) (proper : AreProper nodes) where
  -- a result of main
  pub record IsMainResult (place : ℕ) : Type 0 where
    pub low : 1 ≤ place
    pub high : (n : PlacedNode) → main_of nodes ≡ Some n → place ≤ length n.places
    pub kind : PlaceKind
    pub stands : kind_at nodes (at [] place) ≡ Some kind

  pub main_result : (results : List ℕ) (i place : ℕ) → results ≡ results_in (main_of nodes) → slice_get results i ≡ Some place → IsMainResult place
  main_result results i place same e = from_main (main_of nodes) refl (ap (λ t. slice_get t i) (sym same) ∙ e)
    where
      from_main : (o : Option PlacedNode) → main_of nodes ≡ o → slice_get (results_in o) i ≡ Some place → IsMainResult place
      from_main None f g = absurd (cc g)
      from_main (Some n) f g =
          let is = proper (last_of nodes) n f in
          let within = slice_get_within n.results i place g in
          let place_is : slice_index_or n.results i 0 ≡ place = same_Some (slice_index_or n.results i 0) place (sym (present n.results i within) ∙ g) in
          let stands = subst (IsPlace n) place_is (place_of n n.results i is.results within) in
          let spot = place_spot nodes [] n place f stands in
          record { low = stands.0; high = λ m h. (let same = ap (λ (t : PlacedNode). length t.places) (same_Some n m (sym f ∙ h)) in let l = stands.1 in omega arith); kind = spot.0; stands = spot.1 }

  -- the draft of a result of main comes next
  pub outputs_more : (i place : ℕ) (drafts : List Draft) (next : Draft) → AreDraftsSoFar nodes clocks i drafts → slice_get (results_in (main_of nodes)) i ≡ Some place → next.kind ≡ Output i → next.reads.items ≡ number nodes (at [] place) ∷ [] →
      IsSpotWord nodes clocks (at [] place) next.word → IsWord next.word → IsShortest next.word → next.size ≡ 0 → next.gives.items ≡ [] → AreDraftsSoFar nodes clocks (i + 1) (drafts ++ next ∷ [])
  outputs_more i place drafts next are got kind reads word is_word short size gives = record {
    count = omega (arith, are.count, length_push drafts next);
    places = λ spot k e. (let d = are.places spot k e in (d.0, still_there drafts (next ∷ []) (number nodes spot) d.0 d.1, d.2));
    outputs = λ j p l e. output_at j p l e (cases_lt j i);
    inputs = flat_map-append (λ (d : Draft). input_of d.kind) drafts (next ∷ []) ∙ ap (λ k. input_numbers drafts ++ (input_of k ++ [])) kind ∙ append-nil (input_numbers drafts) ∙ are.inputs;
    numbered = flat_map-append (λ (d : Draft). output_of d.kind) drafts (next ∷ []) ∙ ap (λ k. output_numbers drafts ++ (output_of k ++ [])) kind ∙ ap (λ t. t ++ i ∷ []) are.numbered ∙ row;
    reads = omega (arith, sum_by_push reads_count drafts next, are.reads, one);
    slots = omega (arith, sum_by_push draft_slots drafts next, are.slots, slots_one);
  }
    where
      one : reads_count next ≡ 1
      one = ap length reads

      slots_one : draft_slots next ≡ 1
      slots_one = let a : 1 * (0 + 1) ≡ 1 = omega arith in ap (λ t. t * (next.size + 1)) one ∙ ap (λ t. 1 * (t + 1)) size ∙ a

      row : range_with_len 0 i ++ i ∷ [] ≡ range_with_len 0 (i + 1)
      row = let z : i ≡ 0 + i = omega arith in ap (λ t. range_with_len 0 i ++ t ∷ []) z ∙ sym (range_more 0 i)

      output_at : (j p : ℕ) → j < i + 1 → slice_get (results_in (main_of nodes)) j ≡ Some p → (j < i) ⊎ (i ≤ j) → IsOutputDraft nodes clocks (drafts ++ next ∷ []) j p
      output_at j p l e (inl low) =
          let out = are.outputs j p low e in
          record {
            draft = out.draft;
            there = still_there drafts (next ∷ []) (all_places nodes + j) out.draft out.there;
            kind = out.kind;
            reads = out.reads;
            word = out.word;
            is_word = out.is_word;
            shortest = out.shortest;
            size = out.size;
            gives = out.gives;
          }
      output_at j p l e (inr high) =
          let same : i ≡ j = omega (arith, l, high) in
          let p_is : place ≡ p = same_Some place p (sym got ∙ ap (slice_get (results_in (main_of nodes))) same ∙ e) in
          subst (λ m. IsOutputDraft nodes clocks (drafts ++ next ∷ []) m p) same (subst (IsOutputDraft nodes clocks (drafts ++ next ∷ []) i) p_is (record {
            draft = next;
            there = get_last drafts (all_places nodes + i) next are.count;
            kind = kind;
            reads = reads;
            word = word;
            is_word = is_word;
            shortest = short;
            size = size;
            gives = gives;
          }))

module _ (nodes : List PlacedNode) (clocks : List NodeClock) (proper : AreProper nodes) (clocked : AreClocked nodes clocks) (some : 0 < length nodes) (old : List Draft) (put : ArePut nodes clocks [] (last_of nodes) [] old) where
  abbrev whole : List Spot
  whole = instance_spots nodes [] (last_of nodes)

  place_draft : (spot : Spot) (kind : PlaceKind) → kind_at nodes spot ≡ Some kind → IsDraft nodes clocks old spot kind
  place_draft spot kind e =
      let d = made_at nodes clocks whole put.more put.made (number nodes spot) spot (spot_at nodes proper spot kind e) in
      let same : d.2.kind ≡ kind = same_Some d.2.kind kind (sym d.2.stands ∙ e) in
      (d.0, ap (λ t. slice_get t (number nodes spot)) put.grown ∙ d.1, subst (λ k. IsDraftMade nodes clocks spot k d.0) same d.2.made)

  main_node : (n : PlacedNode) × (main_of nodes ≡ Some n)
  main_node = get_there nodes (last_of nodes) (omega (arith, some))

  pub drafts_first : AreDraftsSoFar nodes clocks 0 old
  drafts_first =
      let deep : last_of nodes < length nodes = omega (arith, some) in
      let reads = total_reads nodes clocks proper clocked (length nodes) [] main_node.0 main_node.1 deep in
      let sizes = total_sizes nodes clocks proper clocked (length nodes) [] main_node.0 main_node.1 deep in
      let all_of = ap all_reads put.grown in
      let slots = ap (sum_by draft_slots) put.grown in
      record {
        count = omega (arith, ap length put.grown, made_length nodes clocks whole put.more put.made, whole_length nodes proper);
        places = place_draft;
        outputs = λ i place l. absurd (omega (arith, l));
        inputs = ap input_numbers put.grown ∙ made_inputs nodes clocks whole put.more put.made ∙ total_inputs nodes clocks proper clocked main_node.0 main_node.1 ∙ ap (inputs_in []) (sym main_node.1);
        numbered = ap output_numbers put.grown ∙ made_outputs nodes clocks whole put.more put.made;
        reads = omega (arith, all_of, made_reads nodes clocks whole put.more put.made, reads);
        slots = omega (arith, slots, made_slots nodes clocks whole put.more put.made, reads, sizes);
      }

  spot_of : (i : ℕ) → i < all_places nodes → IsOfSpot nodes i
  spot_of i l = let r = number_reached nodes proper i l in record { spot = r.0; kind = r.1.0; stands = r.1.1; numbered = r.2 }

  pub drafts_all : (drafts : List Draft) (upto : ℕ) → length (results_in (main_of nodes)) ≡ upto → AreDraftsSoFar nodes clocks upto drafts → AreDrafts nodes clocks drafts
  drafts_all drafts upto count are = record {
    count = omega (arith, are.count, count);
    places = are.places;
    outputs = λ i place e. are.outputs i place (omega (arith, count, slice_get_within (results_in (main_of nodes)) i place e)) e;
    below = λ spot kind e. number_below nodes proper spot (kind, e);
    spots = spot_of;
    inputs = are.inputs;
    numbered = are.numbered ∙ ap (range_with_len 0) (sym count);
    reads = omega (arith, are.reads, count);
    slots = omega (arith, are.slots, count);
  }

-- the words of main's results, as the code has them at hand
module _ (nodes : List PlacedNode) (clocks : List NodeClock) (proper : AreProper nodes) (clocked : AreClocked nodes clocks) (main : ℕ) (n : PlacedNode) (clock : NodeClock) (results : List ℕ) (words : List Bits)
    (is_main : main ≡ last_of nodes) (at_node : slice_get nodes main ≡ Some n) (at_clock : slice_get clocks main ≡ Some clock) (results_are : results ≡ n.results) (words_are : words ≡ clock.words) where
  pub main_results : results ≡ results_in (main_of nodes)
  main_results = results_are ∙ sym (ap (λ k. results_in (slice_get nodes k)) (sym is_main) ∙ ap results_in at_node)

  pub result_is : (i place : ℕ) → slice_get results i ≡ Some place → IsMainResult nodes clocks proper place
  result_is i place e = main_result nodes clocks proper results i place main_results e

  pub result_within : (i place : ℕ) → slice_get results i ≡ Some place → place < length words
  result_within i place e =
      let high = (result_is i place e).high n (ap (slice_get nodes) (sym is_main) ∙ at_node) in
      let count = (clocked.each main n clock at_node at_clock).count in
      let same = ap length words_are in
      omega arith

  pub result_word : (i place : ℕ) (w : Bits) → slice_get results i ≡ Some place → w ≡ get_or words place w → IsSpotWord nodes clocks (at [] place) w
  result_word i place w e got = main_word nodes clocks place w (word_is nodes clocks [] main clock (sym is_main) at_clock place words w words_are (result_within i place e) got)
