-- The numbers of the actors that a place of an instance reads.
use Rattle.std.proofs.Common.{ℕ, Bool, false, not, Vec, Global, true, suc, zero, ◌+◌, ◌-◌, ◌<◌, ◌≤◌, ◌≡◌, List, [], ◌∷◌, Option, Some, None, length, map, take, get_or, ap, sym, refl, ◌∙◌, subst, arith}
use Rattle.std.specs.Prelude.{is_some, sum_by, slice_get, slice_index_or}
use Rattle.std.specs.List.{AllByRecursion}
use Rattle.std.proofs.lemmas.Option.{same_Some, slice_get_within, slice_get_read}
use Rattle.lucy_place.specs.declared.placed.PlacedNode.{PlacedNode}
use Rattle.lucy_place.specs.declared.entry.CallSite.{CallSite}
use Rattle.lucy_place.specs.declared.entry.PlaceEntry.{PlaceEntry}
use Rattle.lucy_place.specs.declared.entry.PlaceKind.{PlaceKind}
use Rattle.lucy_place.specs.declared.entry.PlaceKind.TheVariants as place_kind
use Rattle.lucy_place.specs.Proper.{at_one, Stands, IsPlace, ArePlaces, IsProperKind, IsProperCall, IsProperNode, AreProper}
use Rattle.lucy_word.specs.Bits.{Bits, IsWord}
use Rattle.lucy_word.specs.Shortest.{IsShortest}
use Rattle.lucy_word.specs.Sampling.{IsOn, IsOnTooLong}
use Rattle.lucy_word.proofs.BitsLaws.{period_some}
use Rattle.lucy_word.proofs.ShortLaws.{shortest_one}
use Rattle.lucy_net.specs.declared.kind.ActorKind.{ActorKind}
use Rattle.std.proofs.lemmas.List.{get_or_read}
use Rattle.lucy_clock.specs.HandedDown.{HandsTooLong}
use Rattle.lucy_flat.specs.Clocked.{AreClocked}
use Rattle.lucy_flat.specs.Extents.{HasSize, size_in}
use Rattle.lucy_kahn.specs.Spots.{main_of, at, site_in, node_at, kind_at, spot_form, result_place, spot_reads}
use Rattle.lucy_kahn.proofs.Parts.{callee_in, kind_in, kind_of}
use Rattle.lucy_kahn.specs.Sizes.{own_places, size_of}
use Rattle.lucy_kahn.specs.Numbers.{begin_from, call_offset, number}
use Rattle.lucy_flat.specs.Instances.{index_at, words_in, sizes_in, word_at, IsBase}
use Rattle.lucy_flat.specs.Flat.{actor_of, ring_size}
use Rattle.lucy_kahn.proofs.Tables.{calls_below, total_law}
use Rattle.lucy_kahn.proofs.Closed.{get_take, place_of, call_of}
use Rattle.lucy_kahn.proofs.Paths.{proper_at}
use Rattle.lucy_flat.proofs.SpotWords.{base_same, base_word}
use Rattle.lucy_clock.specs.declared.node_clock.NodeClock.{NodeClock}
use Rattle.lucy_flat.specs.declared.instance.Caller.{Caller}
use Rattle.lucy_flat.specs.declared.instance.Instance.{Instance}
use Rattle.lucy_flat.specs.Drafts.{IsDraftMade, IsFit, IsCaller, IsInstance}
use Rattle.lucy_flat.specs.Refusals.{IsMergeTooLong}
use Rattle.lucy_flat.proofs.ExtentLaws.{sum_part}
use Rattle.lucy_flat.proofs.ProperLaws.{IsLongMerge}

-- a node is no larger than it is with its calls
pub places_within : (nodes : List PlacedNode) (i : ℕ) (n : PlacedNode) → AreProper nodes → slice_get nodes i ≡ Some n → length n.places ≤ size_of nodes i
places_within nodes i n proper e = omega (arith, total_law own_places nodes i n e (calls_below nodes i n (proper i n e)))

-- the instance of a call lies in that of its caller
pub call_within : (nodes : List PlacedNode) (i : ℕ) (n : PlacedNode) (j : ℕ) (site : CallSite) → AreProper nodes → slice_get nodes i ≡ Some n → slice_get n.calls j ≡ Some site →
    call_offset nodes (Some n) (j + 1) + size_of nodes site.node ≤ size_of nodes i
call_within nodes i n j site proper e f =
    let whole = total_law own_places nodes i n e (calls_below nodes i n (proper i n e)) in
    let part = sum_part (λ (s : CallSite). size_of nodes s.node) n.calls j site f in
    let back : j + 1 - 1 ≡ j = omega arith in
    let offset = ap (λ k. sum_by (λ (s : CallSite). size_of nodes s.node) (take k n.calls)) back in
    omega (arith, whole, part, offset)

-- the word of a clock of an instance
pub word_is : (nodes : List PlacedNode) (clocks : List NodeClock) (path : List ℕ) (node : ℕ) (clock : NodeClock) → index_at nodes path ≡ node → slice_get clocks node ≡ Some clock →
    (k : ℕ) (words : List Bits) (w : Bits) → words ≡ clock.words → k < length words → w ≡ get_or words k w → word_at nodes clocks path k ≡ w
word_is nodes clocks path node clock index at_node k words w e l f =
    let none : Bits = record { prefix = []; period = true ∷ [] } in
    ap (λ i. slice_index_or (words_in (slice_get clocks i)) k none) index ∙ ap (λ o. slice_index_or (words_in o) k none) at_node ∙ ap (λ t. get_or t k none) (sym e) ∙ sym (get_or_read words k w l f none)

-- the size of the rings of a place
pub size_there : (clocks : List NodeClock) (i : ℕ) (clock : NodeClock) (kind : PlaceKind) → slice_get clocks i ≡ Some clock → size_in clock.sizes kind ≡ ring_size clocks i kind
size_there clocks i clock place_kind.Param e = refl
size_there clocks i clock (place_kind.Defined q) e = refl
size_there clocks i clock (place_kind.Lit l) e = refl
size_there clocks i clock (place_kind.Op op args) e = refl
size_there clocks i clock (place_kind.Host op a b) e = refl
size_there clocks i clock (place_kind.When q p) e = refl
size_there clocks i clock (place_kind.Merge p a b) e = refl
size_there clocks i clock (place_kind.Fby l q) e = refl
size_there clocks i clock (place_kind.Buffer k q) e = ap (λ o. slice_index_or (sizes_in o) (k - 1) 0) (sym e)
size_there clocks i clock (place_kind.Result c j) e = refl

-- a place that has a size
pub has_size : (n : PlacedNode) (place : ℕ) (kind : PlaceKind) (sizes : List ℕ) → IsProperKind n place kind → length sizes ≡ length n.buffers → HasSize sizes kind
has_size n place place_kind.Param sizes is count = tt
has_size n place (place_kind.Defined q) sizes is count = tt
has_size n place (place_kind.Lit l) sizes is count = tt
has_size n place (place_kind.Op op args) sizes is count = tt
has_size n place (place_kind.Host op a b) sizes is count = tt
has_size n place (place_kind.When q p) sizes is count = tt
has_size n place (place_kind.Merge p a b) sizes is count = tt
has_size n place (place_kind.Fby l q) sizes is count = tt
has_size n place (place_kind.Buffer zero q) sizes is count = absurd (cc is.1)
has_size n place (place_kind.Buffer (suc k) q) sizes is count = (omega arith, omega (arith, count, slice_get_within n.buffers k place is.1))
has_size n place (place_kind.Result c j) sizes is count = tt

module _ (nodes : List PlacedNode) (clocks : List NodeClock) (proper : AreProper nodes) (path : List ℕ) (of : Instance) (is : IsInstance nodes clocks path of) where
  own_node : IsProperNode (take is.index nodes) of.node.now
  own_node = proper is.index of.node.now is.node

  pub found_at : node_at nodes path ≡ Some of.node.now
  found_at = is.at.found ∙ is.node

  -- what stands at a place is proper
  pub kind_here : (place : ℕ) (kind : PlaceKind) → Stands of.node.now place kind → IsProperKind of.node.now place kind
  kind_here place kind stands = subst (IsProperKind of.node.now place) stands.2 (own_node.kinds place stands.0 stands.1)

  -- a place's actor has a number
  pub place_fits : (e : ℕ) → IsPlace of.node.now e → (1 ≤ e) × (of.begin + e < 4294967296)
  place_fits e place =
      let few = is.few in
      let within = places_within nodes is.index of.node.now proper is.node in
      let high = place.1 in
      (place.0, omega arith)

  pub places_fit : (es : List ℕ) → ArePlaces of.node.now es → AllByRecursion (λ e. (1 ≤ e) × (of.begin + e < 4294967296)) es
  places_fit [] all = tt
  places_fit (e ∷ es) all = (place_fits e all.0, places_fit es all.1)

  pub own_reads : (es : List ℕ) → map (number nodes) (map (at path) es) ≡ map (λ e. of.begin + (e - 1)) es
  own_reads [] = refl
  own_reads (e ∷ es) =
      let here : number nodes (at path e) ≡ of.begin + (e - 1) = ap (λ b. b + (e - 1)) is.at.begins in
      ap (λ t. t ∷ map (number nodes) (map (at path) es)) here ∙ ap (λ t. (of.begin + (e - 1)) ∷ t) (own_reads es)

  -- a call in the instance
  pub record IsCallHere (call : ℕ) : Type 0 where
    pub site : CallSite
    pub low : 1 ≤ call
    pub stands : at_one of.node.now.calls call ≡ Some site
    pub at_call : slice_get of.node.now.calls (call - 1) ≡ Some site
    pub is_call : IsProperCall (take is.index nodes) of.node.now call site
    pub callee : slice_get nodes site.node ≡ Some is_call.callee
    pub begins : slice_index_or of.inner.now (call - 1) 0 ≡ of.begin + call_offset nodes (Some of.node.now) call
    pub few : slice_index_or of.inner.now (call - 1) 0 + size_of nodes site.node < 4294967296

  pub call_here : (call : ℕ) (site : CallSite) → at_one of.node.now.calls call ≡ Some site → IsCallHere call
  call_here zero site e = absurd (cc e)
  call_here (suc j) site e =
      let proper_call = own_node.calls (suc j) site e in
      let s : j ≡ suc j - 1 = omega arith in
      let t : j + 1 ≡ suc j = omega arith in
      let within = slice_get_within of.node.now.calls j site e in
      let begins = ap (λ k. get_or of.inner.now k 0) (sym s) ∙ is.inner.each j (omega (arith, within, is.inner.count)) ∙ ap (λ k. of.begin + call_offset nodes (Some of.node.now) k) t in
      let inside = call_within nodes is.index of.node.now j site proper is.node e in
      let offset = ap (call_offset nodes (Some of.node.now)) t in
      let few = is.few in
      record {
        site = site;
        low = omega arith;
        stands = e;
        at_call = ap (slice_get of.node.now.calls) (sym s) ∙ e;
        is_call = proper_call;
        callee = get_take nodes is.index site.node proper_call.callee proper_call.found;
        begins = begins;
        few = omega (arith, begins, inside, offset, few);
      }

  -- a result of a call
  pub record IsResultHere (call number : ℕ) : Type 0 where
    pub of_call : IsCallHere call
    pub few : number < length of_call.is_call.callee.results
    pub low : 1 ≤ slice_index_or of_call.is_call.callee.results number 0
    pub high : slice_index_or of.inner.now (call - 1) 0 + slice_index_or of_call.is_call.callee.results number 0 < 4294967296

  pub result_here : (place call number : ℕ) → Stands of.node.now place (place_kind.Result call number) → IsResultHere call number
  result_here place call number stands =
      let kind = kind_here place (place_kind.Result call number) stands in
      let h = call_here call kind.1 kind.2 in
      let few = (h.is_call.only place number stands).1 in
      let callee = proper h.site.node h.is_call.callee h.callee in
      let result = place_of h.is_call.callee h.is_call.callee.results number callee.results few in
      let within = places_within nodes h.site.node h.is_call.callee proper h.callee in
      let low = result.0 in
      let high = result.1 in
      let room = h.few in
      record { of_call = h; few = few; low = low; high = omega arith }

  -- the node that the code finds there
  pub callee_same : (call number_of : ℕ) (h : IsResultHere call number_of) (sites : List CallSite) (site : CallSite) (callee : PlacedNode) → sites ≡ of.node.now.calls → site ≡ get_or sites (call - 1) site →
      slice_get nodes (get_or sites (call - 1) site).node ≡ Some callee → h.of_call.is_call.callee ≡ callee
  callee_same call number_of h sites site callee e f g =
      let same : slice_get sites (call - 1) ≡ Some h.of_call.site = ap (λ t. slice_get t (call - 1)) e ∙ h.of_call.at_call in
      let within = slice_get_within sites (call - 1) h.of_call.site same in
      let at_site = slice_get_read sites (length sites) (call - 1) site refl within f in
      let site_is : h.of_call.site ≡ get_or sites (call - 1) site = same_Some h.of_call.site site (sym same ∙ at_site) ∙ f in
      let node : h.of_call.site.node ≡ (get_or sites (call - 1) site).node = ap (λ (t : CallSite). t.node) site_is in
      same_Some h.of_call.is_call.callee callee (sym h.of_call.callee ∙ ap (slice_get nodes) node ∙ g)

  pub result_reads : (place call number_of : ℕ) (h : IsResultHere call number_of) →
      map (number nodes) (spot_reads nodes (at path place) (place_kind.Result call number_of)) ≡ (slice_index_or of.inner.now (call - 1) 0 + (slice_index_or h.of_call.is_call.callee.results number_of 0 - 1)) ∷ []
  result_reads place call number_of h =
      let callee : PlacedNode = h.of_call.is_call.callee in
      let inside : node_at nodes (call ∷ path) ≡ Some callee = ap (λ o. callee_in nodes (site_in o call)) found_at ∙ ap (callee_in nodes) h.of_call.stands ∙ h.of_call.callee in
      let begin : begin_from nodes (main_of nodes) (call ∷ path) ≡ slice_index_or of.inner.now (call - 1) 0 =
      ap (λ b. b + call_offset nodes (node_at nodes path) call) is.at.begins ∙ ap (λ o. of.begin + call_offset nodes o call) found_at ∙ sym h.of_call.begins in
      ap (λ b. (b + (result_place (node_at nodes (call ∷ path)) number_of - 1)) ∷ []) begin ∙ ap (λ o. (slice_index_or of.inner.now (call - 1) 0 + (result_place o number_of - 1)) ∷ []) inside

  -- the word of a clock there
  pub word_here : (k : ℕ) (words : List Bits) (w : Bits) → words ≡ of.clock.now.words → k < length words → w ≡ get_or words k w → word_at nodes clocks path k ≡ w
  word_here = word_is nodes clocks path is.index of.clock.now is.at.index is.clock

  -- what stands at a place there
  pub entry_here : (place : ℕ) (places : List PlaceEntry) (entry : PlaceEntry) → places ≡ of.node.now.places → 1 ≤ place → place ≤ length of.node.now.places → entry ≡ get_or places (place - 1) entry → at_one of.node.now.places place ≡ Some entry
  entry_here zero places entry e low high f = absurd (omega (arith, low))
  entry_here (suc i) places entry e low high f =
      let back : suc i - 1 ≡ i = omega arith in
      let count = ap length e in
      let same : entry ≡ get_or places i entry = f ∙ ap (λ k. get_or places k entry) back in
      ap (λ t. slice_get t i) (sym e) ∙ slice_get_read places (length places) i entry refl (omega (arith, high, count)) same

  pub kind_is : (place : ℕ) (entry : PlaceEntry) → at_one of.node.now.places place ≡ Some entry → kind_at nodes (at path place) ≡ Some entry.kind
  kind_is place entry e = ap (λ o. kind_in o place) found_at ∙ ap kind_of e

  pub places_few : length of.node.now.places < 4294967296
  places_few = let few = is.few in let within = places_within nodes is.index of.node.now proper is.node in omega arith

  -- the draft of a place there
  pub made_here : (place : ℕ) (entry : PlaceEntry) (kind : PlaceKind) (does : ActorKind) (word : Bits) (reads gives : Vec ℕ Global) (size : ℕ) → kind_at nodes (at path place) ≡ Some kind → at_one of.node.now.places place ≡ Some entry →
      does ≡ actor_of (spot_form (at path place) entry.kind) → IsOn of.base.now (word_at nodes clocks path place) word → IsWord word → IsShortest word →
      reads.items ≡ map (number nodes) (spot_reads nodes (at path place) entry.kind) → size ≡ size_in of.clock.now.sizes entry.kind → gives.items ≡ [] → (HandsTooLong entry.kind word → ⊥) →
      IsDraftMade nodes clocks (at path place) kind (record { kind = does; word = word; reads = reads; size = size; gives = gives })
  made_here place entry kind does word reads gives size e f does_is on is_word short reads_are size_is none fits =
      let same : entry.kind ≡ kind = same_Some entry.kind kind (sym (kind_is place entry f) ∙ e) in
      record {
        does = does_is ∙ ap (λ k. actor_of (spot_form (at path place) k)) same;
        reads = reads_are ∙ ap (λ k. map (number nodes) (spot_reads nodes (at path place) k)) same;
        word = (of.base.now, is.at.is_base, on);
        is_word = is_word;
        shortest = short;
        size = size_is ∙ size_there clocks is.index of.clock.now entry.kind is.clock ∙ ap (λ i. ring_size clocks i entry.kind) (sym is.at.index) ∙ ap (ring_size clocks (index_at nodes path)) same;
        gives = none;
        fits = subst (λ k. HandsTooLong k word → ⊥) same fits;
      }

  -- main has no caller
  pub main_alone : of.caller ≡ None → path ≡ []
  main_alone = alone path is.at.is_called
    where
      alone : (p : List ℕ) → IsCaller nodes p of.caller → of.caller ≡ None → p ≡ []
      alone [] called e = refl
      alone (call ∷ p) called e = absurd (cc (sym e ∙ called.2))

  pub alone_main : path ≡ [] → of.caller ≡ None
  alone_main e = subst (λ p. IsCaller nodes p of.caller) e is.at.is_called

-- what an option tells
pub none_tells : {A : Type 0} (o : Option A) (b : Bool) → is_some o ≡ not b → b ≡ true → o ≡ None
none_tells None b e h = refl
none_tells (Some x) true e h = absurd (cc e)
none_tells (Some x) false e h = absurd (cc h)

pub tells_none : {A : Type 0} (o : Option A) (b : Bool) → is_some o ≡ not b → o ≡ None → b ≡ true
tells_none None true e h = refl
tells_none None false e h = absurd (cc e)
tells_none (Some x) b e h = absurd (cc h)

-- an instance has one base in shortest form
pub base_one : (nodes : List PlacedNode) (clocks : List NodeClock) → AreProper nodes → AreClocked nodes clocks → (path : List ℕ) (a b : Bits) → IsBase nodes clocks path a → IsBase nodes clocks path b → IsShortest a → IsShortest b → a ≡ b
base_one nodes clocks proper clocked path a b is_a is_b short_a short_b =
    shortest_one a b short_a short_b (period_some a (base_word nodes clocks proper clocked path a is_a)) (period_some b (base_word nodes clocks proper clocked path b is_b)) (base_same nodes clocks path a b is_a is_b)

pub fit_here : (nodes : List PlacedNode) (clocks : List NodeClock) → AreProper nodes → AreClocked nodes clocks → (path : List ℕ) (clock : ℕ) (base w : Bits) → IsBase nodes clocks path base → IsShortest base → word_at nodes clocks path clock ≡ w →
    (IsOnTooLong base w → ⊥) → IsFit nodes clocks path clock
fit_here nodes clocks proper clocked path clock base w is short e fits other is_other short_other long =
    fits (subst (IsOnTooLong base) e (subst (λ t. IsOnTooLong t (word_at nodes clocks path clock)) (base_one nodes clocks proper clocked path other base is_other is short_other short) long))

-- the argument of a parameter
pub record IsArgument (place : ℕ) (c : Caller) : Type 0 where
  pub inside : place - 1 < length c.args.now
  pub low : 1 ≤ slice_index_or c.args.now (place - 1) 0
  pub high : c.begin + slice_index_or c.args.now (place - 1) 0 < 4294967296

pub argument_here : (nodes : List PlacedNode) (clocks : List NodeClock) → AreProper nodes → (path : List ℕ) (of : Instance) → IsInstance nodes clocks path of → (place : ℕ) (c : Caller) → of.caller ≡ Some c → Stands of.node.now place place_kind.Param → IsArgument place c
argument_here nodes clocks proper [] of is place c e stands = absurd (cc (sym e ∙ is.at.is_called))
argument_here nodes clocks proper (call ∷ path) of is place c e stands =
    let params : place ≤ of.node.now.params = kind_here nodes clocks proper (call ∷ path) of is place place_kind.Param stands in
    let low_place = place_low of.node.now.places place stands.0 stands.1 in
    let by = call_of nodes path call of.node.now (found_at nodes clocks proper (call ∷ path) of is) in
    let own = proper_at nodes proper path by.caller by.outer in
    let is_call = own.2.calls call by.to.site by.to.stands in
    let callee_is : of.node.now ≡ is_call.callee = same_Some of.node.now is_call.callee (sym by.to.found ∙ get_take nodes own.0 by.to.site.node is_call.callee is_call.found) in
    let params_are : of.node.now.params ≡ is_call.callee.params = ap (λ (m : PlacedNode). m.params) callee_is in
    let count = is_call.arguments in
    let caller_is : is.at.is_called.0 ≡ c = same_Some is.at.is_called.0 c (sym is.at.is_called.2 ∙ e) in
    let site_is : is.at.is_called.1 ≡ by.to.site = same_Some is.at.is_called.1 by.to.site (sym is.at.is_called.3 ∙ ap (λ o. site_in o call) by.outer ∙ by.to.stands) in
    let args : c.args.now ≡ by.to.site.args = ap (λ (t : Caller). t.args.now) (sym caller_is) ∙ is.at.is_called.5 ∙ ap (λ (t : CallSite). t.args) site_is in
    let begin : c.begin ≡ begin_from nodes (main_of nodes) path = ap (λ (t : Caller). t.begin) (sym caller_is) ∙ is.at.is_called.4 in
    let within : place - 1 < length by.to.site.args = omega (arith, low_place, params, params_are, count) in
    let length_is = ap length args in
    let arg_is : slice_index_or c.args.now (place - 1) 0 ≡ slice_index_or by.to.site.args (place - 1) 0 = ap (λ t. slice_index_or t (place - 1) 0) args in
    let arg = place_of by.caller by.to.site.args (place - 1) is_call.places within in
    let arg_low = arg.0 in
    let arg_high = arg.1 in
    let begins : begin_from nodes (main_of nodes) path + call_offset nodes (Some by.caller) call ≡ of.begin = ap (λ o. begin_from nodes (main_of nodes) path + call_offset nodes o call) (sym by.outer) ∙ is.at.begins in
    let few = is.few in
    record {
      inside = omega (arith, within, length_is);
      low = omega (arith, arg_low, arg_is);
      high = omega (arith, arg_is, arg_high, begin, begins, few);
    }
  where
    place_low : (xs : List PlaceEntry) (p : ℕ) (entry : PlaceEntry) → at_one xs p ≡ Some entry → 1 ≤ p
    place_low xs zero entry f = absurd (cc f)
    place_low xs (suc i) entry f = omega arith

-- a merge whose operand's word is too long
pub long_merge : (kind : PlaceKind) (own : Bits) → HandsTooLong kind own → IsLongMerge kind own
long_merge place_kind.Param own long = absurd long
long_merge (place_kind.Defined q) own long = absurd long
long_merge (place_kind.Lit l) own long = absurd long
long_merge (place_kind.Op op args) own long = absurd long
long_merge (place_kind.Host op a b) own long = absurd long
long_merge (place_kind.When q p) own long = absurd long
long_merge (place_kind.Merge p a b) own long = record { p = p; a = a; b = b; is = refl; long = long }
long_merge (place_kind.Fby l q) own long = absurd long
long_merge (place_kind.Buffer k q) own long = absurd long
long_merge (place_kind.Result c j) own long = absurd long

pub merge_here : (nodes : List PlacedNode) (clocks : List NodeClock) → AreProper nodes → (path : List ℕ) (of : Instance) → IsInstance nodes clocks path of → (place : ℕ) (entry : PlaceEntry) (word : Bits) → at_one of.node.now.places place ≡ Some entry →
    IsOn of.base.now (word_at nodes clocks path place) word → IsWord word → IsShortest word → HandsTooLong entry.kind word → IsMergeTooLong nodes clocks
merge_here nodes clocks proper path of is place entry word e on is_word short long =
    let m = long_merge entry.kind word long in
    record {
      spot = at path place;
      p = m.p;
      a = m.a;
      b = m.b;
      stands = kind_is nodes clocks proper path of is place entry e ∙ ap (λ t. Some t) m.is;
      own = word;
      is = (of.base.now, is.at.is_base, on);
      is_word = is_word;
      shortest = short;
      too_long = m.long;
    }
