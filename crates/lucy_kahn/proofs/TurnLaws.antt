-- What a turn reads, instance by instance.
use Rattle.std.proofs.Common.{ℕ, suc, ◌+◌, ◌-◌, ◌<◌, ◌≤◌, ◌≡◌, List, [], ◌∷◌, Some, None, length, map, ap, sym, refl, ◌∙◌, subst, arith}
use Rattle.std.specs.Prelude.{ℤ, slice_get, slice_index_or}
use Rattle.std.proofs.lemmas.List.FromFn.{get_or-map-range_with_len, length-map-range_with_len}
use Rattle.std.proofs.lemmas.Option.{same_Some, slice_get_within, get_or_from_slice_get}
use Rattle.lucy_word.proofs.Lists.{all_at}
use Rattle.lucy_host.specs.declared.kind.HostKind.{HostKind}
use Rattle.lucy_host.proofs.Elements.{get_there}
use Rattle.lucy_stream.specs.Items.{list_at}
use Rattle.lucy_stream.specs.Lists.{form_list}
use Rattle.lucy_place.specs.declared.placed.PlacedNode.{PlacedNode}
use Rattle.lucy_place.specs.declared.entry.CallSite.{CallSite}
use Rattle.lucy_place.specs.declared.entry.PlaceKind.{PlaceKind}
use Rattle.lucy_place.specs.declared.entry.PlaceKind.TheVariants.{Param, Defined, Lit, Op, Host, When, Merge, Fby, Buffer, Result}
use Rattle.lucy_place.specs.Proper.{Stands, IsPlace, ArePlaces, IsProperKind, HaveOperators}
use Rattle.lucy_place.specs.Reads.{operands_of}
use Rattle.lucy_kahn.specs.Spots.{Spot, at, node_at, main_of, kind_at, IsSpot, spot_form, spot_reads, site_in, argument, result_place}
use Rattle.lucy_kahn.proofs.Parts.{kind_of, kind_in, form_if, reads_if, callee_in}
use Rattle.lucy_kahn.specs.Kahn.{kahn}
use Rattle.lucy_kahn.proofs.JoinedLists.{get_range}
use Rattle.lucy_kahn.proofs.Paths.{low_of, is_at, path_node}
use Rattle.lucy_kahn.proofs.Closed.{get_take, place_of, call_of}
use Rattle.lucy_kahn.specs.declared.instances.Caller.{Caller}
use Rattle.lucy_kahn.specs.declared.instances.Instance.{Instance}
use Rattle.lucy_kahn.specs.Outcomes.{most_items}
use Rattle.lucy_kahn.specs.Instances.{IsCalledBy, AreAll}
use Rattle.lucy_kahn.specs.Turns.{AreShort, own_at, own_list, HasItsOperands, AreThere, places_in, lists_to, lists_in, params_in, IsTurn, StandsIn}
use Rattle.lucy_kahn.proofs.InstanceLaws.{path_found}

-- the list of an instance place in the next iterate, by what stands there
pub kahn_next : (kinds : List HostKind) (inputs : List (List ℤ)) (nodes : List PlacedNode) (n : ℕ) (spot : Spot) (kind : PlaceKind) → kind_at nodes spot ≡ Some kind →
    kahn kinds inputs nodes (suc n) spot ≡ form_list kinds inputs n (spot_form spot kind) (map (kahn kinds inputs nodes n) (spot_reads nodes spot kind))
kahn_next kinds inputs nodes n spot kind e = ap (λ o. form_list kinds inputs n (form_if spot o) (map (kahn kinds inputs nodes n) (reads_if nodes spot o))) e

pub stands_at : (nodes : List PlacedNode) (path : List ℕ) (n : PlacedNode) (place : ℕ) (kind : PlaceKind) → node_at nodes path ≡ Some n → Stands n place kind → kind_at nodes (at path place) ≡ Some kind
stands_at nodes path n place kind e s = ap (λ o. kind_in o place) e ∙ ap kind_of s.1 ∙ ap (λ k. Some k) s.2

module _ (kinds : List HostKind) (inputs : List (List ℤ)) (nodes : List PlacedNode) (list : List Instance) (inner : List ℕ) (n : ℕ) (before : List (List (List ℤ))) (paths : ℕ → List ℕ)
    (turn : IsTurn kinds inputs nodes list inner n before paths) where
  -- the lists of an instance
  pub lists_are : (i : ℕ) → i < length list → slice_get before i ≡ Some (lists_in kinds inputs nodes n (paths i))
  lists_are i l =
      let z : 0 + i ≡ i = omega arith in
      ap (λ xs. slice_get xs i) turn.iterate.is ∙ get_range (λ j. lists_in kinds inputs nodes n (paths j)) 0 (length list) i l ∙ ap (λ j. Some (lists_in kinds inputs nodes n (paths j))) z

  pub count_of_iterate : length before ≡ length list
  count_of_iterate = ap (λ (xs : List (List (List ℤ))). length xs) turn.iterate.is ∙ length-map-range_with_len (λ j. lists_in kinds inputs nodes n (paths j)) 0 (length list)

  pub lists_from : (i : ℕ) (lists : List (List ℤ)) → i < length list → slice_get before i ≡ Some lists → lists ≡ lists_in kinds inputs nodes n (paths i)
  lists_from i lists l e = same_Some lists (lists_in kinds inputs nodes n (paths i)) (sym e ∙ lists_are i l)

  pub short_at : (i : ℕ) (lists : List (List ℤ)) → slice_get before i ≡ Some lists → AreShort lists
  short_at i lists e = all_at AreShort before i lists turn.iterate.short e

  -- the node of an instance
  pub node_of : (i : ℕ) (x : Instance) (nd : PlacedNode) → slice_get list i ≡ Some x → slice_get nodes x.node ≡ Some nd → node_at nodes (paths i) ≡ Some nd
  node_of i x nd e f = (turn.instances.each i x e).node ∙ f

  pub count_of_lists : (i : ℕ) (nd : PlacedNode) (lists : List (List ℤ)) → node_at nodes (paths i) ≡ Some nd → lists ≡ lists_in kinds inputs nodes n (paths i) → length lists ≡ length nd.places
  count_of_lists i nd lists e is =
      ap (λ (xs : List (List ℤ)). length xs) is ∙ length-map-range_with_len (λ p. kahn kinds inputs nodes n (at (paths i) p)) 1 (places_in (node_at nodes (paths i))) ∙ ap places_in e

  pub list_is : (i : ℕ) (nd : PlacedNode) (lists : List (List ℤ)) (place : ℕ) → node_at nodes (paths i) ≡ Some nd → lists ≡ lists_in kinds inputs nodes n (paths i) → IsPlace nd place →
      own_at lists place ≡ kahn kinds inputs nodes n (at (paths i) place)
  list_is i nd lists place e is p =
      let f : ℕ → List ℤ = λ q. kahn kinds inputs nodes n (at (paths i) q) in
      let low : 1 ≤ place = p.0 in
      let high : place ≤ length nd.places = p.1 in
      let z : 1 + (place - 1) ≡ place = omega arith in
      let l : place - 1 < length nd.places = omega arith in
      ap (λ xs. own_at xs place) (is ∙ ap (λ o. lists_to kinds inputs nodes n (paths i) (places_in o)) e) ∙ get_or-map-range_with_len f 1 (length nd.places) (place - 1) place [] l z

  pub own_lists : (i : ℕ) (nd : PlacedNode) (lists : List (List ℤ)) (ps : List ℕ) → node_at nodes (paths i) ≡ Some nd → lists ≡ lists_in kinds inputs nodes n (paths i) → ArePlaces nd ps →
      map (own_at lists) ps ≡ map (kahn kinds inputs nodes n) (map (at (paths i)) ps)
  own_lists i nd lists [] e is all = refl
  own_lists i nd lists (p ∷ ps) e is all =
      let a : own_at lists p ≡ kahn kinds inputs nodes n (at (paths i) p) = list_is i nd lists p e is all.0 in
      let b : map (own_at lists) ps ≡ map (kahn kinds inputs nodes n) (map (at (paths i)) ps) = own_lists i nd lists ps e is all.1 in
      cc

  -- a place that reads in its own instance
  pub own_law : (i : ℕ) (nd : PlacedNode) (lists : List (List ℤ)) (place : ℕ) (kind : PlaceKind) → node_at nodes (paths i) ≡ Some nd → lists ≡ lists_in kinds inputs nodes n (paths i) → IsProperKind nd place kind →
      (kind ≡ Param → ⊥) → ((call number : ℕ) → kind ≡ Result call number → ⊥) →
      own_list kinds n lists kind ≡ form_list kinds inputs n (spot_form (at (paths i) place) kind) (map (kahn kinds inputs nodes n) (spot_reads nodes (at (paths i) place) kind))
  own_law i nd lists place Param e is k no_param no_result = absurd (no_param refl)
  own_law i nd lists place (Lit l) e is k no_param no_result = refl
  own_law i nd lists place (Defined x) e is k no_param no_result = list_is i nd lists x e is k.1
  own_law i nd lists place (Buffer b x) e is k no_param no_result = list_is i nd lists x e is k.2
  own_law i nd lists place (Op op args) e is k no_param no_result = ap (form_list kinds inputs n (spot_form (at (paths i) place) (Op op args))) (own_lists i nd lists args e is k.2)
  own_law i nd lists place (Host op a b) e is k no_param no_result = ap (form_list kinds inputs n (spot_form (at (paths i) place) (Host op a b))) (own_lists i nd lists (a ∷ b ∷ []) e is (k.1, (k.2, tt)))
  own_law i nd lists place (When x word) e is k no_param no_result = ap (form_list kinds inputs n (spot_form (at (paths i) place) (When x word))) (own_lists i nd lists (x ∷ []) e is (k.1, tt))
  own_law i nd lists place (Merge word a b) e is k no_param no_result = ap (form_list kinds inputs n (spot_form (at (paths i) place) (Merge word a b))) (own_lists i nd lists (a ∷ b ∷ []) e is (k.2, (k.3, tt)))
  own_law i nd lists place (Fby l x) e is k no_param no_result = ap (form_list kinds inputs n (spot_form (at (paths i) place) (Fby l x))) (own_lists i nd lists (x ∷ []) e is (k.1, tt))
  own_law i nd lists place (Result c j) e is k no_param no_result = absurd (no_result c j refl)

  pub places_there : (nd : PlacedNode) (lists : List (List ℤ)) (ps : List ℕ) → length lists ≡ length nd.places → ArePlaces nd ps → AreThere lists ps
  places_there nd lists [] e all = tt
  places_there nd lists (p ∷ ps) e all = ((all.0.0, omega (arith, all.0.1)), places_there nd lists ps e all.1)

  pub operands_there : (nd : PlacedNode) (lists : List (List ℤ)) (place : ℕ) (kind : PlaceKind) → length lists ≡ length nd.places → IsProperKind nd place kind → AreThere lists (operands_of kind)
  operands_there nd lists place Param e k = tt
  operands_there nd lists place (Lit l) e k = tt
  operands_there nd lists place (Defined x) e k = places_there nd lists (x ∷ []) e (k.1, tt)
  operands_there nd lists place (Buffer b x) e k = places_there nd lists (x ∷ []) e (k.2, tt)
  operands_there nd lists place (Op op args) e k = places_there nd lists args e k.2
  operands_there nd lists place (Host op a b) e k = places_there nd lists (a ∷ b ∷ []) e (k.1, (k.2, tt))
  operands_there nd lists place (When x word) e k = places_there nd lists (x ∷ []) e (k.1, tt)
  operands_there nd lists place (Merge word a b) e k = places_there nd lists (a ∷ b ∷ []) e (k.2, (k.3, tt))
  operands_there nd lists place (Fby l x) e k = places_there nd lists (x ∷ []) e (k.1, tt)
  operands_there nd lists place (Result c j) e k = tt

  -- the kind that stands at a place of a node of the program
  pub proper_kind : (i : ℕ) (nd : PlacedNode) (place : ℕ) (kind : PlaceKind) → slice_get nodes i ≡ Some nd → Stands nd place kind → IsProperKind nd place kind
  proper_kind i nd place kind e s = subst (IsProperKind nd place) s.2 ((turn.proper i nd e).kinds place s.0 s.1)

  -- no list of the iterate is too long
  pub none_long : (spot : Spot) → IsSpot nodes spot → length (kahn kinds inputs nodes n spot) ≤ most_items
  none_long spot is =
      let a = is_at (node_at nodes spot.path) spot.place is.0 is.1 in
      let all : AreAll nodes list inner = record { paths = paths; instances = turn.instances; all = turn.all } in
      let of = path_found nodes list inner all spot.path a.node a.node_is in
      let i : ℕ = of.0 in
      let lists : List (List ℤ) = lists_in kinds inputs nodes n (paths i) in
      let node : node_at nodes (paths i) ≡ Some a.node = ap (node_at nodes) of.2 ∙ a.node_is in
      let low = low_of a.node.places spot.place a.entry a.stands in
      let l : spot.place - 1 < length a.node.places = slice_get_within a.node.places (spot.place - 1) a.entry low.1 in
      let p : IsPlace a.node spot.place = (low.0, omega (arith, low.0)) in
      let here : own_at lists spot.place ≡ kahn kinds inputs nodes n (at (paths i) spot.place) = list_is i a.node lists spot.place node refl p in
      let got = get_there lists (spot.place - 1) (omega (arith, count_of_lists i a.node lists node refl)) in
      let short : length got.0 ≤ most_items = all_at (λ xs. length xs ≤ most_items) lists (spot.place - 1) got.0 (short_at i lists (lists_are i of.1)) got.1 in
      let same : got.0 ≡ kahn kinds inputs nodes n spot = sym (get_or_from_slice_get lists (spot.place - 1) got.0 [] got.1) ∙ here ∙ ap (λ q. kahn kinds inputs nodes n (at q spot.place)) of.2 in
      subst (λ xs. length xs ≤ most_items) same short

  -- a parameter of main reads its input
  pub main_param : (i place : ℕ) (x : Instance) → slice_get list i ≡ Some x → x.caller ≡ None → StandsIn nodes list i place Param →
      (1 ≤ place) × (place - 1 < length inputs) × (kahn kinds inputs nodes (suc n) (at (paths i) place) ≡ list_at inputs (place - 1))
  main_param i place x e none stands =
      let h = turn.instances.each i x e in
      let nd = get_there nodes x.node h.within in
      let s = stands x nd.0 e nd.1 in
      let k : place ≤ nd.0.params = proper_kind x.node nd.0 place Param nd.1 s in
      let low = low_of nd.0.places place s.0 s.1 in
      let path : paths i ≡ [] = subst (λ o. IsCalledBy paths (length list) (paths i) o) none h.caller in
      let node : node_at nodes (paths i) ≡ Some nd.0 = h.node ∙ nd.1 in
      let main : main_of nodes ≡ Some nd.0 = ap (node_at nodes) (sym path) ∙ node in
      let params : nd.0.params ≡ length inputs = sym (ap params_in main) ∙ turn.params in
      let spot : kahn kinds inputs nodes (suc n) (at [] place) ≡ list_at inputs (place - 1) = kahn_next kinds inputs nodes n (at [] place) Param (stands_at nodes [] nd.0 place Param main s) in
      (low.0, omega (arith, low.0), ap (λ p. kahn kinds inputs nodes (suc n) (at p place)) path ∙ spot)

  -- a parameter of a call reads the call's argument, in the instance that calls
  pub record IsArgument (i place : ℕ) (by : Caller) (m : PlacedNode) (site : CallSite) : Type 0 where
    pub low : 1 ≤ place
    pub within : place - 1 < length site.args
    pub place_there : IsPlace m (slice_index_or site.args (place - 1) 0)
    pub reads : kahn kinds inputs nodes (suc n) (at (paths i) place) ≡ kahn kinds inputs nodes n (at (paths by.instance) (slice_index_or site.args (place - 1) 0))

  pub record HasArgument (i place : ℕ) (by : Caller) : Type 0 where
    pub within : by.instance < length list
    pub low : 1 ≤ by.call
    pub call : (m : PlacedNode) → node_at nodes (paths by.instance) ≡ Some m → by.call - 1 < length m.calls
    pub argument : (m : PlacedNode) (site : CallSite) → node_at nodes (paths by.instance) ≡ Some m → slice_get m.calls (by.call - 1) ≡ Some site → IsArgument i place by m site

  pub call_param : (i place : ℕ) (x : Instance) (by : Caller) → slice_get list i ≡ Some x → x.caller ≡ Some by → StandsIn nodes list i place Param → HasArgument i place by
  call_param i place x by e called stands =
      let h = turn.instances.each i x e in
      let nd = get_there nodes x.node h.within in
      let s = stands x nd.0 e nd.1 in
      let k : place ≤ nd.0.params = proper_kind x.node nd.0 place Param nd.1 s in
      let low = low_of nd.0.places place s.0 s.1 in
      let from = subst (λ o. IsCalledBy paths (length list) (paths i) o) called h.caller in
      let outer : List ℕ = paths by.instance in
      let node : node_at nodes (by.call ∷ outer) ≡ Some nd.0 = ap (node_at nodes) (sym from.1) ∙ h.node ∙ nd.1 in
      let of = call_of nodes outer by.call nd.0 node in
      let own = low_of of.caller.calls by.call of.to.site of.to.stands in
      let spot : kahn kinds inputs nodes (suc n) (at (by.call ∷ outer) place) ≡ kahn kinds inputs nodes n (at outer (argument (site_in (node_at nodes outer) by.call) place)) =
      kahn_next kinds inputs nodes n (at (by.call ∷ outer) place) Param (stands_at nodes (by.call ∷ outer) nd.0 place Param node s) in
      record {
        within = from.0;
        low = own.0;
        call = λ m f. subst (λ (q : PlacedNode). by.call - 1 < length q.calls) (same_Some of.caller m (sym of.outer ∙ f)) (slice_get_within of.caller.calls (by.call - 1) of.to.site own.1);
        argument = λ m site f g.
            let same : of.caller ≡ m = same_Some of.caller m (sym of.outer ∙ f) in
            let site_same : of.to.site ≡ site = same_Some of.to.site site (sym own.1 ∙ ap (λ (q : PlacedNode). slice_get q.calls (by.call - 1)) same ∙ g) in
            let y = path_index outer of.caller of.outer in
            let is = (turn.proper y.0 of.caller y.1).calls by.call of.to.site of.to.stands in
            let callee : nd.0 ≡ is.callee = same_Some nd.0 is.callee (sym of.to.found ∙ get_take nodes y.0 of.to.site.node is.callee is.found) in
            let params : nd.0.params ≡ is.callee.params = ap (λ (q : PlacedNode). q.params) callee in
            let count : length of.to.site.args ≡ is.callee.params = is.arguments in
            let args : of.to.site.args ≡ site.args = ap (λ (q : CallSite). q.args) site_same in
            let within : place - 1 < length of.to.site.args = omega (arith, low.0) in
            let arg : IsPlace of.caller (slice_index_or of.to.site.args (place - 1) 0) = place_of of.caller of.to.site.args (place - 1) is.places within in
            let read : argument (site_in (node_at nodes outer) by.call) place ≡ slice_index_or of.to.site.args (place - 1) 0 =
            ap (λ o. argument (site_in o by.call) place) of.outer ∙ ap (λ o. argument o place) of.to.stands in
            record {
              low = low.0;
              within = subst (λ (xs : List ℕ). place - 1 < length xs) args within;
              place_there = subst (λ (q : PlacedNode). IsPlace q (slice_index_or site.args (place - 1) 0)) same (subst (λ (xs : List ℕ). IsPlace of.caller (slice_index_or xs (place - 1) 0)) args arg);
              reads = ap (λ p. kahn kinds inputs nodes (suc n) (at p place)) from.1 ∙ spot ∙ ap (λ q. kahn kinds inputs nodes n (at outer q)) (read ∙ ap (λ (xs : List ℕ). slice_index_or xs (place - 1) 0) args);
            };
      }
    where
      path_index : (path : List ℕ) (m : PlacedNode) → node_at nodes path ≡ Some m → (j : ℕ) × (slice_get nodes j ≡ Some m)
      path_index path m f = let p = path_node nodes path m f in (p.index, p.found)

  -- a result of a call reads the result of the node that is called, in the instance that the call makes
  pub record IsReturned (i place call number first : ℕ) (m : PlacedNode) : Type 0 where
    pub within : number < length m.results
    pub place_there : IsPlace m (slice_index_or m.results number 0)
    pub reads : kahn kinds inputs nodes (suc n) (at (paths i) place) ≡ kahn kinds inputs nodes n (at (paths (first + (call - 1))) (slice_index_or m.results number 0))

  pub record HasResult (i place call number first : ℕ) : Type 0 where
    pub low : 1 ≤ call
    pub within : first + (call - 1) < length list
    pub returned : (m : PlacedNode) → node_at nodes (paths (first + (call - 1))) ≡ Some m → IsReturned i place call number first m

  pub call_result : (i place call number first : ℕ) (x : Instance) → slice_get list i ≡ Some x → slice_get inner i ≡ Some first → StandsIn nodes list i place (Result call number) → HasResult i place call number first
  call_result i place call number first x e made_from stands =
      let h = turn.instances.each i x e in
      let nd = get_there nodes x.node h.within in
      let s = stands x nd.0 e nd.1 in
      let k = proper_kind x.node nd.0 place (Result call number) nd.1 s in
      let site : CallSite = k.1 in
      let node : node_at nodes (paths i) ≡ Some nd.0 = h.node ∙ nd.1 in
      let own = low_of nd.0.calls call site k.2 in
      let is = (turn.proper x.node nd.0 nd.1).calls call site k.2 in
      let few = (is.only place number s).1 in
      let callee : slice_get nodes site.node ≡ Some is.callee = get_take nodes x.node site.node is.callee is.found in
      let inside : node_at nodes (call ∷ paths i) ≡ Some is.callee = ap (λ o. callee_in nodes (site_in o call)) node ∙ ap (callee_in nodes) k.2 ∙ callee in
      let r = turn.instances.calls i first made_from nd.0 site (call - 1) node own.1 in
      let z : suc (call - 1) ≡ call = omega (arith, own.0) in
      let path : paths (first + (call - 1)) ≡ call ∷ paths i = r.1 ∙ ap (λ c. c ∷ paths i) z in
      let spot : kahn kinds inputs nodes (suc n) (at (paths i) place) ≡ kahn kinds inputs nodes n (at (call ∷ paths i) (result_place (node_at nodes (call ∷ paths i)) number)) =
      kahn_next kinds inputs nodes n (at (paths i) place) (Result call number) (stands_at nodes (paths i) nd.0 place (Result call number) node s) in
      record {
        low = own.0;
        within = r.0;
        returned = λ m f.
            let same : is.callee ≡ m = same_Some is.callee m (sym inside ∙ ap (node_at nodes) (sym path) ∙ f) in
            let results : is.callee.results ≡ m.results = ap (λ (q : PlacedNode). q.results) same in
            let deep = turn.proper site.node is.callee callee in
            let arg : IsPlace is.callee (slice_index_or is.callee.results number 0) = place_of is.callee is.callee.results number deep.results few in
            let read : result_place (node_at nodes (call ∷ paths i)) number ≡ slice_index_or is.callee.results number 0 = ap (λ o. result_place o number) inside in
            record {
              within = subst (λ (xs : List ℕ). number < length xs) results few;
              place_there = subst (λ (q : PlacedNode). IsPlace q (slice_index_or q.results number 0)) same arg;
              reads = spot ∙ ap (λ q. kahn kinds inputs nodes n (at (call ∷ paths i) q)) (read ∙ ap (λ (xs : List ℕ). slice_index_or xs number 0) results)
                  ∙ ap (λ p. kahn kinds inputs nodes n (at p (slice_index_or m.results number 0))) (sym path);
            };
      }

-- an operator has its operands, and one of the host is known
pub applied_of : (known i : ℕ) (nodes : List PlacedNode) (nd : PlacedNode) (place : ℕ) (kind : PlaceKind) → HaveOperators known nodes → slice_get nodes i ≡ Some nd → Stands nd place kind → IsProperKind nd place kind → HasItsOperands known kind
applied_of known i nodes nd place Param h e s k = tt
applied_of known i nodes nd place (Lit l) h e s k = tt
applied_of known i nodes nd place (Defined x) h e s k = tt
applied_of known i nodes nd place (Buffer b x) h e s k = tt
applied_of known i nodes nd place (Op op args) h e s k = k.1
applied_of known i nodes nd place (Host op a b) h e s k = h i nd place op a b e s
applied_of known i nodes nd place (When x word) h e s k = tt
applied_of known i nodes nd place (Merge word a b) h e s k = tt
applied_of known i nodes nd place (Fby l x) h e s k = tt
applied_of known i nodes nd place (Result c j) h e s k = tt
