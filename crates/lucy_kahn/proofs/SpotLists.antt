-- The list of all instance places has each of them once, at its number.
use Rattle.std.proofs.Common.{ℕ, suc, zero, ◌+◌, ◌-◌, ◌<◌, ◌≤◌, ◌≡◌, ◌⊎◌, inl, inr, List, [], ◌∷◌, ◌++◌, Option, Some, None, length, map, take, ap, sym, refl, ◌∙◌, subst, arith}
use Rattle.std.specs.Prelude.{sum_by, slice_get, option_map}
use Rattle.std.specs.List.{range_with_len}
use Rattle.std.proofs.lemmas.Bool.{cases_lt}
use Rattle.std.proofs.lemmas.List.{length-map, length-append}
use Rattle.std.proofs.lemmas.List.FromFn.{length-map-range_with_len}
use Rattle.std.proofs.lemmas.List.Sums.{sum_by-cons}
use Rattle.std.proofs.lemmas.Option.{same_Some, slice_get_within, slice_get-map}
use Rattle.lucy_host.proofs.Elements.{get_there, get_left, get_right}
use Rattle.lucy_place.specs.declared.placed.PlacedNode.{PlacedNode}
use Rattle.lucy_place.specs.declared.entry.CallSite.{CallSite}
use Rattle.lucy_place.specs.declared.entry.PlaceKind.{PlaceKind}
use Rattle.lucy_place.specs.Proper.{at_one, AreProper}
use Rattle.lucy_kahn.specs.Spots.{Spot, at, site_in, node_from}
use Rattle.lucy_kahn.proofs.Parts.{callee_in, kind_in}
use Rattle.lucy_kahn.specs.Below.{Below}
use Rattle.lucy_kahn.specs.Sizes.{own_places, size_of}
use Rattle.lucy_kahn.specs.Numbers.{call_offset, begin_from, within_call, inner_spots, spots_in, spots_of}
use Rattle.lucy_kahn.proofs.JoinedLists.{get_range, mapped}
use Rattle.lucy_kahn.proofs.Tables.{IsLocal, calls_below, below_take, sum_same, entry_law, total_law}
use Rattle.lucy_kahn.proofs.Paths.{low_of, none_from, node_inside, begin_inside, begins_with, called, is_at, kind_there}

-- the number of an instance place, counted from the begin of an instance of the node at which its path begins
abbrev pub number_from : List PlacedNode → Option PlacedNode → Spot → ℕ
number_from nodes begin spot = begin_from nodes begin spot.path + (spot.place - 1)

inner_same : (f g : ℕ → List Spot) (k call : ℕ) (sites : List CallSite) → ((j : ℕ) → j < k → f j ≡ g j) → Below k sites → inner_spots f call sites ≡ inner_spots g call sites
inner_same f g k call [] h all = refl
inner_same f g k call (s ∷ sites) h all =
    ap (λ xs. map (within_call call) xs ++ inner_spots f (suc call) sites) (h s.node all.0) ∙ ap (λ ys. map (within_call call) (g s.node) ++ ys) (inner_same f g k (suc call) sites h all.1)

spots_local : IsLocal spots_in
spots_local f g i node below h = ap (λ ys. map (at []) (range_with_len 1 (length node.places)) ++ ys) (inner_same f g i 1 node.calls h below)

-- how many instance places a call has
abbrev pub count_in : (ℕ → List Spot) → CallSite → ℕ
count_in f site = length (f site.node)

length_inner : (f : ℕ → List Spot) (call : ℕ) (sites : List CallSite) → length (inner_spots f call sites) ≡ sum_by (count_in f) sites
length_inner f call [] = refl
length_inner f call (s ∷ sites) =
    omega (arith, length-append (map (within_call call) (f s.node)) (inner_spots f (suc call) sites), length-map (f s.node) (within_call call), length_inner f (suc call) sites, sum_by-cons (count_in f) s sites)

inner_at : (f : ℕ → List Spot) (call : ℕ) (sites : List CallSite) (j : ℕ) (site : CallSite) (k : ℕ) (spot : Spot) → slice_get sites j ≡ Some site → slice_get (f site.node) k ≡ Some spot →
    slice_get (inner_spots f call sites) (sum_by (count_in f) (take j sites) + k) ≡ Some (within_call (call + j) spot)
inner_at f call [] j site k spot e g = absurd (cc e)
inner_at f call (s ∷ sites) zero site k spot e g =
    let own : List Spot = map (within_call call) (f s.node) in
    let same : s ≡ site = same_Some s site e in
    let here : slice_get (f s.node) k ≡ Some spot = ap (λ (t : CallSite). slice_get (f t.node) k) same ∙ g in
    let l : k < length own = omega (arith, slice_get_within (f s.node) k spot here, length-map (f s.node) (within_call call)) in
    let z : sum_by (count_in f) (take zero (s ∷ sites)) + k ≡ k = omega arith in
    let c : call ≡ call + 0 = omega arith in
    ap (slice_get (inner_spots f call (s ∷ sites))) z ∙ get_left own (inner_spots f (suc call) sites) k l
    ∙ slice_get-map (within_call call) (f s.node) k ∙ ap (option_map (within_call call)) here ∙ ap (λ n. Some (within_call n spot)) c
inner_at f call (s ∷ sites) (suc j) site k spot e g =
    let own : List Spot = map (within_call call) (f s.node) in
    let parts : sum_by (count_in f) (s ∷ take j sites) ≡ count_in f s + sum_by (count_in f) (take j sites) = sum_by-cons (count_in f) s (take j sites) in
    let z : sum_by (count_in f) (take (suc j) (s ∷ sites)) + k ≡ length own + (sum_by (count_in f) (take j sites) + k) = omega (arith, length-map (f s.node) (within_call call)) in
    let c : suc call + j ≡ call + suc j = omega arith in
    ap (slice_get (inner_spots f call (s ∷ sites))) z ∙ get_right own (inner_spots f (suc call) sites) (sum_by (count_in f) (take j sites) + k)
    ∙ inner_at f (suc call) sites j site k spot e g ∙ ap (λ n. Some (within_call n spot)) c

-- an instance place of a call, found in the list
pub record IsInner (f : ℕ → List Spot) (call : ℕ) (sites : List CallSite) (k : ℕ) (spot : Spot) : Type 0 where
  pub index : ℕ
  pub site : CallSite
  pub stands : slice_get sites index ≡ Some site
  pub place : ℕ
  pub inside : Spot
  pub found : slice_get (f site.node) place ≡ Some inside
  pub is : spot ≡ within_call (call + index) inside
  pub at_place : k ≡ sum_by (count_in f) (take index sites) + place

inner_from : (f : ℕ → List Spot) (call : ℕ) (sites : List CallSite) (k : ℕ) (spot : Spot) → slice_get (inner_spots f call sites) k ≡ Some spot → IsInner f call sites k spot
inner_from f call [] k spot e = absurd (cc e)
inner_from f call (s ∷ sites) k spot e = by_place (cases_lt k (length (map (within_call call) (f s.node)))) (λ j g. inner_from f (suc call) sites j spot g)
  where
    by_place : (k < length (map (within_call call) (f s.node))) ⊎ (length (map (within_call call) (f s.node)) ≤ k) →
        ((j : ℕ) → slice_get (inner_spots f (suc call) sites) j ≡ Some spot → IsInner f (suc call) sites j spot) → IsInner f call (s ∷ sites) k spot
    by_place (inl l) later =
        let own : List Spot = map (within_call call) (f s.node) in
        let g = mapped (within_call call) (slice_get (f s.node) k) spot (sym (slice_get-map (within_call call) (f s.node) k) ∙ sym (get_left own (inner_spots f (suc call) sites) k l) ∙ e) in
        let c : call ≡ call + 0 = omega arith in
        record {
          index = 0;
          site = s;
          stands = refl;
          place = k;
          inside = g.0;
          found = g.1;
          is = sym g.2 ∙ ap (λ n. within_call n g.0) c;
          at_place = omega arith;
        }
    by_place (inr l) later =
        let own : List Spot = map (within_call call) (f s.node) in
        let z : k ≡ length own + (k - length own) = omega arith in
        let r = later (k - length own) (sym (get_right own (inner_spots f (suc call) sites) (k - length own)) ∙ sym (ap (slice_get (inner_spots f call (s ∷ sites))) z) ∙ e) in
        let c : suc call + r.index ≡ call + suc r.index = omega arith in
        let parts : sum_by (count_in f) (s ∷ take r.index sites) ≡ count_in f s + sum_by (count_in f) (take r.index sites) = sum_by-cons (count_in f) s (take r.index sites) in
        let before : k - length own ≡ sum_by (count_in f) (take r.index sites) + r.place = r.at_place in
        record {
          index = suc r.index;
          site = r.site;
          stands = r.stands;
          place = r.place;
          inside = r.inside;
          found = r.found;
          is = r.is ∙ ap (λ n. within_call n r.inside) c;
          at_place = omega (arith, length-map (f s.node) (within_call call));
        }

-- an instance place from a node on
abbrev pub IsSpotFrom : List PlacedNode → Option PlacedNode → Spot → Type 0
IsSpotFrom nodes begin spot = (kind : PlaceKind) × (kind_in (node_from nodes begin spot.path) spot.place ≡ Some kind)

-- a node's list has its instance places, each at its number, and no others
pub record IsListed (nodes : List PlacedNode) (i : ℕ) (n : PlacedNode) : Type 0 where
  pub has : (path : List ℕ) (place : ℕ) → IsSpotFrom nodes (Some n) (at path place) → slice_get (spots_of nodes i) (number_from nodes (Some n) (at path place)) ≡ Some (at path place)
  pub alone : (k : ℕ) (spot : Spot) → slice_get (spots_of nodes i) k ≡ Some spot → IsSpotFrom nodes (Some n) spot × (number_from nodes (Some n) spot ≡ k)

module _ (nodes : List PlacedNode) (proper : AreProper nodes) where
  below : (i : ℕ) (n : PlacedNode) → slice_get nodes i ≡ Some n → Below i n.calls
  below i n e = calls_below nodes i n (proper i n e)

  pub spots_law : (i : ℕ) (n : PlacedNode) → slice_get nodes i ≡ Some n → spots_of nodes i ≡ spots_in (spots_of nodes) i n
  spots_law i n e = entry_law [] spots_in spots_local nodes i n e (below i n e)

  pub size_law : (i : ℕ) (n : PlacedNode) → slice_get nodes i ≡ Some n → size_of nodes i ≡ length n.places + sum_by (λ site. size_of nodes site.node) n.calls
  size_law i n e = total_law own_places nodes i n e (below i n e)

  pub length_spots : (most i : ℕ) (n : PlacedNode) → i < most → slice_get nodes i ≡ Some n → length (spots_of nodes i) ≡ size_of nodes i
  length_spots zero i n l e = absurd (omega arith)
  length_spots (suc most) i n l e =
      let within : i < length nodes = slice_get_within nodes i n e in
      let own : List Spot = map (at []) (range_with_len 1 (length n.places)) in
      let inner : List Spot = inner_spots (spots_of nodes) 1 n.calls in
      let calls : sum_by (count_in (spots_of nodes)) n.calls ≡ sum_by (λ site. size_of nodes site.node) n.calls =
      sum_same (count_in (spots_of nodes)) (λ site. size_of nodes site.node) i n.calls
      (λ s h. let m = get_there nodes s.node (omega arith) in length_spots most s.node m.0 (omega arith) m.1) (below i n e) in
      omega (arith, ap (λ (xs : List Spot). length xs) (spots_law i n e), length-append own inner, length-map-range_with_len (at []) 1 (length n.places), length_inner (spots_of nodes) 1 n.calls, size_law i n e)

  -- where the part of a call begins in a node's list
  offset : (i : ℕ) (n : PlacedNode) (j : ℕ) → slice_get nodes i ≡ Some n →
      length (map (at []) (range_with_len 1 (length n.places))) + sum_by (count_in (spots_of nodes)) (take j n.calls) ≡ call_offset nodes (Some n) (suc j)
  offset i n j e =
      let within : i < length nodes = slice_get_within nodes i n e in
      let calls : sum_by (count_in (spots_of nodes)) (take j n.calls) ≡ sum_by (λ site. size_of nodes site.node) (take j n.calls) =
      sum_same (count_in (spots_of nodes)) (λ site. size_of nodes site.node) i (take j n.calls)
      (λ s h. let m = get_there nodes s.node (omega arith) in length_spots (suc s.node) s.node m.0 (omega arith) m.1) (below_take i n.calls j (below i n e)) in
      let z : suc j - 1 ≡ j = omega arith in
      let to : sum_by (λ site. size_of nodes site.node) (take j n.calls) ≡ sum_by (λ site. size_of nodes site.node) (take (suc j - 1) n.calls) = ap (λ t. sum_by (λ site. size_of nodes site.node) (take t n.calls)) (sym z) in
      omega (arith, length-map-range_with_len (at []) 1 (length n.places))

  -- where the nodes above are listed
  abbrev Above : ℕ → Type 0
  Above i = (j : ℕ) (m : PlacedNode) → j < i → slice_get nodes j ≡ Some m → IsListed nodes j m

  -- a place of the node itself
  has_own : (i : ℕ) (n : PlacedNode) (place : ℕ) → slice_get nodes i ≡ Some n → IsSpotFrom nodes (Some n) (at [] place) → slice_get (spots_of nodes i) (number_from nodes (Some n) (at [] place)) ≡ Some (at [] place)
  has_own i n place e is =
      let own : List Spot = map (at []) (range_with_len 1 (length n.places)) in
      let a = is_at (Some n) place is.0 is.1 in
      let same : n ≡ a.node = same_Some n a.node a.node_is in
      let low = low_of a.node.places place a.entry a.stands in
      let l : place - 1 < length n.places = subst (λ (m : PlacedNode). place - 1 < length m.places) (sym same) (slice_get_within a.node.places (place - 1) a.entry low.1) in
      let high : place - 1 < length own = omega (arith, length-map-range_with_len (at []) 1 (length n.places)) in
      let z : 0 + (place - 1) ≡ place - 1 = omega arith in
      let one : 1 + (place - 1) ≡ place = omega (arith, low.0) in
      ap (λ xs. slice_get xs (0 + (place - 1))) (spots_law i n e) ∙ ap (slice_get (own ++ inner_spots (spots_of nodes) 1 n.calls)) z
      ∙ get_left own (inner_spots (spots_of nodes) 1 n.calls) (place - 1) high ∙ get_range (at []) 1 (length n.places) (place - 1) l ∙ ap (λ p. Some (at [] p)) one

  has_inner : (i : ℕ) (n : PlacedNode) (rest : List ℕ) (call place : ℕ) → slice_get nodes i ≡ Some n → Above i → IsSpotFrom nodes (Some n) (at (rest ++ call ∷ []) place) →
      slice_get (spots_of nodes i) (number_from nodes (Some n) (at (rest ++ call ∷ []) place)) ≡ Some (at (rest ++ call ∷ []) place)
  has_inner i n rest call place e above is = from_callee (callee_in nodes (site_in (Some n) call)) refl
    where
      from_callee : (o : Option PlacedNode) → callee_in nodes (site_in (Some n) call) ≡ o → slice_get (spots_of nodes i) (number_from nodes (Some n) (at (rest ++ call ∷ []) place)) ≡ Some (at (rest ++ call ∷ []) place)
      from_callee None f =
          let none : node_from nodes (Some n) (rest ++ call ∷ []) ≡ None = node_inside nodes (Some n) rest call ∙ ap (λ o. node_from nodes o rest) f ∙ none_from nodes rest in
          let never : None ≡ Some is.0 = sym (ap (λ o. kind_in o place) none) ∙ is.1 in
          absurd (cc never)
      from_callee (Some m) f =
          let to = called nodes n call m f in
          let low = low_of n.calls call to.site to.stands in
          let is_below : to.site.node < i = below_at n.calls (call - 1) to.site low.1 (below i n e) in
          let node : node_from nodes (Some n) (rest ++ call ∷ []) ≡ node_from nodes (Some m) rest = node_inside nodes (Some n) rest call ∙ ap (λ o. node_from nodes o rest) f in
          let inside : IsSpotFrom nodes (Some m) (at rest place) = (is.0, sym (ap (λ o. kind_in o place) node) ∙ is.1) in
          let k : ℕ = number_from nodes (Some m) (at rest place) in
          let got : slice_get (spots_of nodes to.site.node) k ≡ Some (at rest place) = (above to.site.node m is_below to.found).has rest place inside in
          let own : List Spot = map (at []) (range_with_len 1 (length n.places)) in
          let j : ℕ = call - 1 in
          let one : suc j ≡ call = omega (arith, low.0) in
          let begin : begin_from nodes (Some n) (rest ++ call ∷ []) ≡ call_offset nodes (Some n) call + begin_from nodes (Some m) rest = begin_inside nodes (Some n) rest call ∙ ap (λ o. call_offset nodes (Some n) call + begin_from nodes o rest) f in
          let part : length own + sum_by (count_in (spots_of nodes)) (take j n.calls) ≡ call_offset nodes (Some n) call = offset i n j e ∙ ap (call_offset nodes (Some n)) one in
          let z : number_from nodes (Some n) (at (rest ++ call ∷ []) place) ≡ length own + (sum_by (count_in (spots_of nodes)) (take j n.calls) + k) = omega arith in
          let c : 1 + j ≡ call = omega (arith, low.0) in
          ap (λ xs. slice_get xs (number_from nodes (Some n) (at (rest ++ call ∷ []) place))) (spots_law i n e)
          ∙ ap (slice_get (own ++ inner_spots (spots_of nodes) 1 n.calls)) z
          ∙ get_right own (inner_spots (spots_of nodes) 1 n.calls) (sum_by (count_in (spots_of nodes)) (take j n.calls) + k)
          ∙ inner_at (spots_of nodes) 1 n.calls j to.site k (at rest place) low.1 got
          ∙ ap (λ t. Some (within_call t (at rest place))) c
        where
          below_at : (sites : List CallSite) (j : ℕ) (s : CallSite) → slice_get sites j ≡ Some s → Below i sites → s.node < i
          below_at [] j s g all = absurd (cc g)
          below_at (x ∷ sites) zero s g all = subst (λ (y : CallSite). y.node < i) (same_Some x s g) all.0
          below_at (x ∷ sites) (suc j) s g all = below_at sites j s g all.1

  own_alone : (i : ℕ) (n : PlacedNode) (k : ℕ) (spot : Spot) → slice_get nodes i ≡ Some n → k < length n.places → slice_get (map (at []) (range_with_len 1 (length n.places))) k ≡ Some spot →
      IsSpotFrom nodes (Some n) spot × (number_from nodes (Some n) spot ≡ k)
  own_alone i n k spot e l g =
      let is : at [] (1 + k) ≡ spot = same_Some (at [] (1 + k)) spot (sym (get_range (at []) 1 (length n.places) k l) ∙ g) in
      let P : Spot → Type 0 = λ s. IsSpotFrom nodes (Some n) s × (number_from nodes (Some n) s ≡ k) in
      let mine : IsSpotFrom nodes (Some n) (at [] (1 + k)) = kind_there n (1 + k) (omega arith, omega (arith, l)) in
      let place : number_from nodes (Some n) (at [] (1 + k)) ≡ k = omega arith in
      subst P is (mine, place)

  inner_alone : (i : ℕ) (n : PlacedNode) (k : ℕ) (spot : Spot) → slice_get nodes i ≡ Some n → Above i →
      IsInner (spots_of nodes) 1 n.calls (k - length (map (at []) (range_with_len 1 (length n.places)))) spot → length (map (at []) (range_with_len 1 (length n.places))) ≤ k →
      IsSpotFrom nodes (Some n) spot × (number_from nodes (Some n) spot ≡ k)
  inner_alone i n k spot e above r high =
      let own : List Spot = map (at []) (range_with_len 1 (length n.places)) in
      let is_below : r.site.node < i = below_at n.calls r.index r.site r.stands (below i n e) in
      let within : i < length nodes = slice_get_within nodes i n e in
      let m = get_there nodes r.site.node (omega arith) in
      let to = (above r.site.node m.0 is_below m.1).alone r.place r.inside r.found in
      let call : ℕ = 1 + r.index in
      let c : call ≡ suc r.index = omega arith in
      let site : callee_in nodes (site_in (Some n) call) ≡ Some m.0 = ap (λ t. callee_in nodes (at_one n.calls t)) c ∙ ap (callee_in nodes) r.stands ∙ m.1 in
      let node : node_from nodes (Some n) (r.inside.path ++ call ∷ []) ≡ node_from nodes (Some m.0) r.inside.path = node_inside nodes (Some n) r.inside.path call ∙ ap (λ o. node_from nodes o r.inside.path) site in
      let mine : IsSpotFrom nodes (Some n) (within_call call r.inside) = (to.0.0, ap (λ o. kind_in o r.inside.place) node ∙ to.0.1) in
      let begin : begin_from nodes (Some n) (r.inside.path ++ call ∷ []) ≡ call_offset nodes (Some n) call + begin_from nodes (Some m.0) r.inside.path =
      begin_inside nodes (Some n) r.inside.path call ∙ ap (λ o. call_offset nodes (Some n) call + begin_from nodes o r.inside.path) site in
      let part : length own + sum_by (count_in (spots_of nodes)) (take r.index n.calls) ≡ call_offset nodes (Some n) call = offset i n r.index e ∙ ap (call_offset nodes (Some n)) (sym c) in
      let inside : number_from nodes (Some m.0) r.inside ≡ r.place = to.1 in
      let there_at : k - length own ≡ sum_by (count_in (spots_of nodes)) (take r.index n.calls) + r.place = r.at_place in
      let place : number_from nodes (Some n) (within_call call r.inside) ≡ k = omega arith in
      let P : Spot → Type 0 = λ s. IsSpotFrom nodes (Some n) s × (number_from nodes (Some n) s ≡ k) in
      subst P (sym r.is) (mine, place)
    where
      below_at : (sites : List CallSite) (j : ℕ) (s : CallSite) → slice_get sites j ≡ Some s → Below i sites → s.node < i
      below_at [] j s g all = absurd (cc g)
      below_at (x ∷ sites) zero s g all = subst (λ (y : CallSite). y.node < i) (same_Some x s g) all.0
      below_at (x ∷ sites) (suc j) s g all = below_at sites j s g all.1

  -- a node is listed, where those above it are
  listed_here : (i : ℕ) (n : PlacedNode) → slice_get nodes i ≡ Some n → Above i → IsListed nodes i n
  listed_here i n e above = record { has = has; alone = alone }
    where
      has : (path : List ℕ) (place : ℕ) → IsSpotFrom nodes (Some n) (at path place) → slice_get (spots_of nodes i) (number_from nodes (Some n) (at path place)) ≡ Some (at path place)
      has path place is = by_path (begins_with path)
        where
          by_path : (path ≡ []) ⊎ ((rest : List ℕ) × (call : ℕ) × (path ≡ rest ++ call ∷ [])) → slice_get (spots_of nodes i) (number_from nodes (Some n) (at path place)) ≡ Some (at path place)
          by_path (inl f) =
              let Q : List ℕ → Type 0 = λ p. slice_get (spots_of nodes i) (number_from nodes (Some n) (at p place)) ≡ Some (at p place) in
              let R : List ℕ → Type 0 = λ p. IsSpotFrom nodes (Some n) (at p place) in
              subst Q (sym f) (has_own i n place e (subst R f is))
          by_path (inr r) =
              let Q : List ℕ → Type 0 = λ p. slice_get (spots_of nodes i) (number_from nodes (Some n) (at p place)) ≡ Some (at p place) in
              let R : List ℕ → Type 0 = λ p. IsSpotFrom nodes (Some n) (at p place) in
              subst Q (sym r.2) (has_inner i n r.0 r.1 place e above (subst R r.2 is))

      alone : (k : ℕ) (spot : Spot) → slice_get (spots_of nodes i) k ≡ Some spot → IsSpotFrom nodes (Some n) spot × (number_from nodes (Some n) spot ≡ k)
      alone k spot g = by_place (cases_lt k (length (map (at []) (range_with_len 1 (length n.places)))))
        where
          by_place : (k < length (map (at []) (range_with_len 1 (length n.places)))) ⊎ (length (map (at []) (range_with_len 1 (length n.places))) ≤ k) → IsSpotFrom nodes (Some n) spot × (number_from nodes (Some n) spot ≡ k)
          by_place (inl l) =
              let own : List Spot = map (at []) (range_with_len 1 (length n.places)) in
              let here : slice_get own k ≡ Some spot = sym (get_left own (inner_spots (spots_of nodes) 1 n.calls) k l) ∙ sym (ap (λ xs. slice_get xs k) (spots_law i n e)) ∙ g in
              own_alone i n k spot e (omega (arith, l, length-map-range_with_len (at []) 1 (length n.places))) here
          by_place (inr l) =
              let own : List Spot = map (at []) (range_with_len 1 (length n.places)) in
              let z : k ≡ length own + (k - length own) = omega arith in
              let here : slice_get (inner_spots (spots_of nodes) 1 n.calls) (k - length own) ≡ Some spot =
              sym (get_right own (inner_spots (spots_of nodes) 1 n.calls) (k - length own)) ∙ sym (ap (slice_get (own ++ inner_spots (spots_of nodes) 1 n.calls)) z) ∙ sym (ap (λ xs. slice_get xs k) (spots_law i n e)) ∙ g in
              inner_alone i n k spot e above (inner_from (spots_of nodes) 1 n.calls (k - length own) spot here) l

  listed_to : (most i : ℕ) (n : PlacedNode) → i < most → slice_get nodes i ≡ Some n → IsListed nodes i n
  listed_to zero i n l e = absurd (omega arith)
  listed_to (suc most) i n l e = listed_here i n e (λ j m h f. listed_to most j m (omega arith) f)

  pub listed : (i : ℕ) (n : PlacedNode) → slice_get nodes i ≡ Some n → IsListed nodes i n
  listed i n e = listed_to (suc i) i n (omega arith) e
