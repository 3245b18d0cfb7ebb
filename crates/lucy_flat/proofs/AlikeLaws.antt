-- Instances of one node with one base have the same words: what isn't too long in one isn't in the other, and where the one has
-- drafts, the other has.
use Rattle.std.proofs.Common.{ℕ, suc, ◌+◌, ◌<◌, ◌≤◌, ◌≡◌, List, [], ◌∷◌, ◌++◌, Option, Some, length, map, take, ap, sym, refl, ◌∙◌, subst, arith, append_assoc}
use Rattle.std.specs.Prelude.{All, slice_get, slice_index_or}
use Rattle.std.proofs.lemmas.List.{length-map}
use Rattle.std.proofs.lemmas.List.Elements.{All-append, All-cons, All-nil, All-head, All-tail}
use Rattle.std.proofs.lemmas.List.Sums.{sum_by-append}
use Rattle.std.proofs.lemmas.Option.{slice_get_within}
use Rattle.lucy_word.specs.Always.{always}
use Rattle.lucy_word.specs.Bits.{Bits, IsWord}
use Rattle.lucy_word.specs.Limits.{limit_number}
use Rattle.lucy_word.specs.declared.limit.Limit.TheVariants as limit
use Rattle.lucy_word.specs.Shortest.{Same, IsShortest}
use Rattle.lucy_word.specs.Stored.{IsStored}
use Rattle.lucy_word.specs.Sampling.{IsOn, IsOnTooLong}
use Rattle.lucy_host.proofs.Elements.{get_there}
use Rattle.lucy_place.specs.declared.placed.PlacedNode.{PlacedNode}
use Rattle.lucy_place.specs.declared.entry.CallSite.{CallSite}
use Rattle.lucy_place.specs.declared.entry.PlaceKind.{PlaceKind}
use Rattle.lucy_place.specs.declared.entry.PlaceKind.TheVariants.{Param}
use Rattle.lucy_place.specs.Proper.{IsProperKind, AreProper}
use Rattle.lucy_clock.specs.declared.node_clock.NodeClock.{NodeClock}
use Rattle.lucy_kahn.specs.Spots.{Spot, at, site_in, node_at, kind_at, spot_form, spot_reads}
use Rattle.lucy_kahn.specs.Numbers.{number, spots_of}
use Rattle.lucy_kahn.proofs.Parts.{callee_in, kind_in}
use Rattle.lucy_kahn.proofs.Paths.{proper_at}
use Rattle.lucy_flat.specs.declared.draft.Draft.{Draft}
use Rattle.lucy_flat.specs.declared.kept.Kept.{Kept}
use Rattle.lucy_flat.specs.declared.instance.Caller.{Caller}
use Rattle.lucy_flat.specs.Clocked.{AreClocked}
use Rattle.lucy_flat.specs.Flat.{actor_of, ring_size}
use Rattle.lucy_flat.specs.Instances.{index_at, words_in, word_at, IsBase}
use Rattle.lucy_flat.specs.Drafts.{IsSpotDraft, AreMade, inside, own_spots, calls_spots, instance_spots, IsFit, AreFit, ArePut, IsInstanceAt, AreCallsAlike, draft_bits, AreKept, AreKeptSoFar}
use Rattle.lucy_flat.proofs.Parts.{called, base_clock}
use Rattle.lucy_flat.proofs.SpotWords.{base_same, base_word, clock_of}
use Rattle.lucy_flat.proofs.FlatLaws.{standing}
use Rattle.lucy_flat.proofs.KeptLaws.{HasStored}
use Rattle.lucy_flat.proofs.PutLaws.{inner_more, so_far_more}
use Rattle.lucy_clock.proofs.UnmadeLaws.{stored_on}
use Rattle.lucy_flat.proofs.UnmadePlaces.{reads_few, list_of}

-- what stands behind other drafts
all_back : (front back : List Draft) → All HasStored (front ++ back) → All HasStored back
all_back [] back all = all
all_back (draft ∷ front) back all = all_back front back (All-tail HasStored draft (front ++ back) all)

-- past Bits many drafts more are let go of
kept_many : (drafts more : List Draft) (kept : Kept) → AreKept drafts kept → All HasStored more → limit_number limit.Bits < kept.bits → AreKept (drafts ++ more) kept
kept_many drafts more kept are all past = record {
  stored = All-append HasStored drafts more are.stored all;
  most = (let before = are.most in let sum = sum_by-append draft_bits drafts more in omega arith);
  all = λ l. absurd (omega (arith, l));
  few = are.few;
}

-- the form of what stands in the instance of a call doesn't depend on the call
form_alike : (inner : List ℕ) (first second : ℕ) (outer other : List ℕ) (place : ℕ) (kind : PlaceKind) → spot_form (at (inner ++ first ∷ outer) place) kind ≡ spot_form (at (inner ++ second ∷ other) place) kind
form_alike [] first second outer other place Param = refl
form_alike (call ∷ inner) first second outer other place Param = refl
form_alike inner first second outer other place kind = refl

module _ (nodes : List PlacedNode) (clocks : List NodeClock) where
  made_back : (spots others : List Spot) (drafts : List Draft) → AreMade nodes clocks (spots ++ others) drafts → (front : List Draft) × (back : List Draft) × (drafts ≡ front ++ back) × AreMade nodes clocks others back
  made_back [] others drafts are = ([], drafts, refl, are)
  made_back (spot ∷ spots) others [] are = absurd are
  made_back (spot ∷ spots) others (draft ∷ drafts) are =
      let rest = made_back spots others drafts are.1 in
      (draft ∷ rest.0, rest.1, ap (λ t. draft ∷ t) rest.2, rest.3)

  -- a word with the bits of a base is one
  base_like : (path : List ℕ) (a b : Bits) → IsBase nodes clocks path a → IsWord b → Same a b → IsBase nodes clocks path b
  base_like [] a b is word same = (word, λ i h. sym (same i h) ∙ is.1 i h)
  base_like (call ∷ path) a b is word same = (word, is.1, is.2, λ i h. sym (same i h) ∙ is.3 i h)

  module _ (proper : AreProper nodes) (clocked : AreClocked nodes clocks) where
    -- two instances of a node with one base
    module _ (first second : ℕ) (outer other : List ℕ) (node : ℕ) (base : Bits) (first_index : index_at nodes (first ∷ outer) ≡ node) (second_index : index_at nodes (second ∷ other) ≡ node)
        (first_found : node_at nodes (first ∷ outer) ≡ slice_get nodes node) (second_found : node_at nodes (second ∷ other) ≡ slice_get nodes node) (first_base : IsBase nodes clocks (first ∷ outer) base)
        (second_base : IsBase nodes clocks (second ∷ other) base) where
      node_alike : (inner : List ℕ) → node_at nodes (inner ++ first ∷ outer) ≡ node_at nodes (inner ++ second ∷ other)
      node_alike [] = first_found ∙ sym second_found
      node_alike (call ∷ inner) = ap (λ o. callee_in nodes (site_in o call)) (node_alike inner)

      index_alike : (inner : List ℕ) → index_at nodes (inner ++ first ∷ outer) ≡ index_at nodes (inner ++ second ∷ other)
      index_alike [] = first_index ∙ sym second_index
      index_alike (call ∷ inner) = ap (λ o. called (site_in o call)) (node_alike inner)

      word_alike : (inner : List ℕ) (clock : ℕ) → word_at nodes clocks (inner ++ first ∷ outer) clock ≡ word_at nodes clocks (inner ++ second ∷ other) clock
      word_alike inner clock = ap (λ i. slice_index_or (words_in (slice_get clocks i)) clock always) (index_alike inner)

      base_alike : (inner : List ℕ) (b : Bits) → IsBase nodes clocks (inner ++ first ∷ outer) b → IsBase nodes clocks (inner ++ second ∷ other) b
      base_alike [] b is = base_like (second ∷ other) base b second_base (base_word nodes clocks proper clocked (first ∷ outer) b is) (base_same nodes clocks (first ∷ outer) base b first_base is)
      base_alike (call ∷ inner) b is =
          let clock : base_clock (node_at nodes (inner ++ first ∷ outer)) call ≡ base_clock (node_at nodes (inner ++ second ∷ other)) call = ap (λ o. base_clock o call) (node_alike inner) in
          let word = word_alike inner (base_clock (node_at nodes (inner ++ first ∷ outer)) call) ∙ ap (word_at nodes clocks (inner ++ second ∷ other)) clock in
          (is.0, is.1, base_alike inner is.1 is.2, subst (λ w. IsOn is.1 w b) word is.3)

      pub fit_alike : AreFit nodes clocks (second ∷ other) node → AreFit nodes clocks (first ∷ outer) node
      fit_alike fit inner n clock found low high b is short long = fit inner n clock found low high b (base_alike inner b is) short (subst (IsOnTooLong b) (word_alike inner clock) long)

      draft_alike : (s : Spot) (d : Draft) → IsSpotDraft nodes clocks (inside (first ∷ outer) s) d → (e : Draft) × IsSpotDraft nodes clocks (inside (second ∷ other) s) e × (e.word ≡ d.word)
      draft_alike s d is =
          let made = is.made in
          let spot : Spot = inside (second ∷ other) s in
          let stands : kind_at nodes spot ≡ Some is.kind = ap (λ o. kind_in o s.place) (sym (node_alike s.path)) ∙ is.stands in
          let st = standing nodes spot is.kind stands in
          let own = (proper_at nodes proper spot.path st.node st.found).2 in
          let kind_is = subst (IsProperKind st.node s.place) st.stands.2 (own.kinds s.place st.stands.0 st.stands.1) in
          let spots : List Spot = spot_reads nodes spot is.kind in
          let few : length spots ≤ 3 = reads_few nodes st.node spot.path s.place is.kind kind_is in
          let count : length (map (number nodes) spots) ≡ length spots = length-map spots (number nodes) in
          let e : Draft = record { kind = d.kind; word = d.word; reads = list_of d.reads (map (number nodes) spots) (omega (arith, count, few)); size = d.size; gives = d.gives } in (
            e,
            record {
              kind = is.kind;
              stands = stands;
              made = record {
                does = made.does ∙ ap actor_of (form_alike s.path first second outer other s.place is.kind);
                reads = refl;
                word = (made.word.0, base_alike s.path made.word.0 made.word.1, subst (λ w. IsOn made.word.0 w d.word) (word_alike s.path s.place) made.word.2);
                is_word = made.is_word;
                shortest = made.shortest;
                size = made.size ∙ ap (λ i. ring_size clocks i is.kind) (index_alike s.path);
                gives = made.gives;
                fits = made.fits;
              };
            },
            refl,
          )

      pub made_alike : (spots : List Spot) (drafts : List Draft) → AreMade nodes clocks (map (inside (first ∷ outer)) spots) drafts → All HasStored drafts →
          (more : List Draft) × AreMade nodes clocks (map (inside (second ∷ other)) spots) more × All HasStored more
      made_alike [] [] are all = ([], tt, All-nil HasStored)
      made_alike [] (d ∷ drafts) are all = absurd are
      made_alike (s ∷ spots) [] are all = absurd are
      made_alike (s ∷ spots) (d ∷ drafts) are all =
          let one = draft_alike s d are.0 in
          let rest = made_alike spots drafts are.1 (All-tail HasStored d drafts all) in
          (one.0 ∷ rest.0, (one.1, rest.1), All-cons HasStored one.0 rest.0 (subst IsStored (sym one.2) (All-head HasStored d drafts all)) rest.2)

    -- the instance of a call of the node that the call before calls, where the two have one word: past Bits nothing is made
    module _ (path : List ℕ) (n : PlacedNode) (i : ℕ) (old : List Draft) (kept : Kept) (before site : CallSite) (base : Bits) (found : node_at nodes path ≡ Some n) (is_base : IsBase nodes clocks path base) (short : IsShortest base)
        (at_before : slice_get n.calls i ≡ Some before) (at_site : slice_get n.calls (suc i) ≡ Some site) (one_node : before.node ≡ site.node)
        (one_word : word_at nodes clocks path (length n.places + suc i) ≡ word_at nodes clocks path (length n.places + suc (suc i))) where
      here : (call : ℕ) (s : CallSite) → slice_get n.calls call ≡ Some s → site_in (node_at nodes path) (suc call) ≡ Some s
      here call s e = ap (λ o. site_in o (suc call)) found ∙ e

      is_word : IsWord (word_at nodes clocks path (length n.places + suc i))
      is_word =
          let h = clock_of nodes clocks proper clocked path n found in
          let within = slice_get_within n.calls i before at_before in
          subst IsWord (sym (h.word (length n.places + suc i))) (h.is.well.words (length n.places + suc i) (omega (arith, within)))

      next_fit : IsFit nodes clocks path (length n.places + suc i) → IsFit nodes clocks path (length n.places + suc (suc i))
      next_fit fit b is_b short_b long = fit b is_b short_b (subst (IsOnTooLong b) (sym one_word) long)

      pub call_again : AreKeptSoFar nodes clocks path n (suc i) old kept → limit_number limit.Bits < kept.bits → AreKeptSoFar nodes clocks path n (suc i + 1) old kept
      call_again so past =
          let put = so.put in
          let fit : IsFit nodes clocks path (length n.places + suc i) = put.fit (length n.places + suc i) (omega arith) (omega arith) in
          let own = stored_on base (word_at nodes clocks path (length n.places + suc i)) (base_word nodes clocks proper clocked path base is_base) is_word (fit base is_base short) in
          let first : List ℕ = suc i ∷ path in
          let second : List ℕ = suc (suc i) ∷ path in
          let first_index : index_at nodes first ≡ site.node = ap called (here i before at_before) ∙ one_node in
          let second_index : index_at nodes second ≡ site.node = ap called (here (suc i) site at_site) in
          let first_found : node_at nodes first ≡ slice_get nodes site.node = ap (callee_in nodes) (here i before at_before) ∙ ap (slice_get nodes) one_node in
          let second_found : node_at nodes second ≡ slice_get nodes site.node = ap (callee_in nodes) (here (suc i) site at_site) in
          let first_base : IsBase nodes clocks first own.0 = (own.2.word, base, is_base, subst (λ o. IsOn base (word_at nodes clocks path (base_clock o (suc i))) own.0) (sym found) own.1) in
          let second_on : IsOn base (word_at nodes clocks path (length n.places + suc (suc i))) own.0 = subst (λ w. IsOn base w own.0) one_word own.1 in
          let second_base : IsBase nodes clocks second own.0 = (own.2.word, base, is_base, subst (λ o. IsOn base (word_at nodes clocks path (base_clock o (suc (suc i)))) own.0) (sym found) second_on) in
          let known : List ℕ → ℕ → List Spot = instance_spots nodes in
          let k : 1 + i ≡ suc i = omega arith in
          let lists : own_spots path n ++ calls_spots known path 1 (take (suc i) n.calls) ≡ (own_spots path n ++ calls_spots known path 1 (take i n.calls)) ++ known first site.node =
          ap (λ t. own_spots path n ++ t) (inner_more nodes clocks known path 1 n.calls i before at_before)
          ∙ sym (append_assoc (own_spots path n) (calls_spots known path 1 (take i n.calls)) (known ((1 + i) ∷ path) before.node))
          ∙ ap (λ j. (own_spots path n ++ calls_spots known path 1 (take i n.calls)) ++ known (j ∷ path) before.node) k
          ∙ ap (λ m. (own_spots path n ++ calls_spots known path 1 (take i n.calls)) ++ known first m) one_node in
          let back = made_back (own_spots path n ++ calls_spots known path 1 (take i n.calls)) (known first site.node) put.more (subst (λ t. AreMade nodes clocks t put.more) lists put.made) in
          let all = all_back back.0 back.1 (subst (All HasStored) back.2 (all_back old put.more (subst (All HasStored) put.grown so.keeps.stored))) in
          let more = made_alike (suc i) (suc (suc i)) path path site.node own.0 first_index second_index first_found second_found first_base second_base (spots_of nodes site.node) back.1 back.3 all in
          let first_fit : AreFit nodes clocks first site.node = subst (AreFit nodes clocks first) one_node (put.inner_fit i before (omega arith) at_before) in
          let second_fit : AreFit nodes clocks second site.node = fit_alike (suc (suc i)) (suc i) path path site.node own.0 second_index first_index second_found first_found second_base first_base first_fit in
          let next : ArePut nodes clocks second site.node so.new (so.new ++ more.0) = record { more = more.0; grown = refl; made = more.1; fit = second_fit } in
          record {
            new = so.new ++ more.0;
            put = so_far_more nodes clocks path n (suc i) old so.new (so.new ++ more.0) site put at_site next (next_fit fit);
            keeps = kept_many so.new more.0 kept so.keeps more.2 past;
          }

    -- the same, as the code has them at hand
    pub next_alike : (path : List ℕ) (n : PlacedNode) (node begin : ℕ) (base : Bits) (caller : Option Caller) (i places : ℕ) (sites : List CallSite) (words : List Bits) (clock : NodeClock) (old : List Draft) (kept : Kept) →
        IsInstanceAt nodes clocks path node begin base caller → slice_get nodes node ≡ Some n → slice_get clocks node ≡ Some clock → IsShortest base → sites ≡ n.calls → words ≡ clock.words → places ≡ length n.places → i < length sites →
        AreCallsAlike sites words places i → limit_number limit.Bits < kept.bits → AreKeptSoFar nodes clocks path n i old kept → AreKeptSoFar nodes clocks path n (i + 1) old kept
    next_alike path n node begin base caller i places sites words clock old kept is at_node at_clock short sites_are words_are places_are within alike past so =
        let j : ℕ = alike.before in
        let e : i ≡ suc j = alike.next in
        let before = get_there sites j (omega (arith, within, e)) in
        let site = get_there sites i within in
        let word : (k : ℕ) → word_at nodes clocks path k ≡ slice_index_or words k always = λ k.
        ap (λ m. slice_index_or (words_in (slice_get clocks m)) k always) is.index ∙ ap (λ o. slice_index_or (words_in o) k always) at_clock ∙ ap (λ t. slice_index_or t k always) (sym words_are) in
        let first : length n.places + suc j ≡ places + i = omega (arith, e, places_are) in
        let second : length n.places + suc (suc j) ≡ places + 1 + i = omega (arith, e, places_are) in
        let one_word : word_at nodes clocks path (length n.places + suc j) ≡ word_at nodes clocks path (length n.places + suc (suc j)) =
        ap (word_at nodes clocks path) first ∙ word (places + i) ∙ alike.one_word ∙ sym (word (places + 1 + i)) ∙ ap (word_at nodes clocks path) (sym second) in
        let at_before : slice_get n.calls j ≡ Some before.0 = ap (λ t. slice_get t j) (sym sites_are) ∙ before.1 in
        let at_site : slice_get n.calls (suc j) ≡ Some site.0 = ap (slice_get n.calls) (sym e) ∙ ap (λ t. slice_get t i) (sym sites_are) ∙ site.1 in
        subst (λ m. AreKeptSoFar nodes clocks path n (m + 1) old kept) (sym e)
        (call_again path n j old kept before.0 site.0 base (is.found ∙ at_node) is.is_base short at_before at_site (alike.one_node before.0 site.0 before.1 site.1) one_word (subst (λ m. AreKeptSoFar nodes clocks path n m old kept) e so) past)
