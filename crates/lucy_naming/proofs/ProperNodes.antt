-- A node without faults is proper, where its tree has the shape that the grammar gives.
use Rattle.std.proofs.Common.{◌≡◌, ◌+◌, ◌≤◌, ◌<◌, ℕ, zero, suc, Bool, true, false, List, [], ◌∷◌, ◌++◌, length, length-append, map, Some, slice_get, if◌then◌else◌, refl, ap, sym, ◌∙◌, subst, arith}
use Rattle.std.proofs.lemmas.List.{length-map}
use Rattle.lucy_word.proofs.Lists.{front_empty, back_empty}
use Rattle.lucy_host.specs.Operators.{Operator}
use Rattle.lucy_tree.specs.declared.span.Name.{Name}
use Rattle.lucy_tree.specs.declared.decl.Decl.{Decl}
use Rattle.lucy_tree.specs.View.{NodeTree, ProgramTree}
use Rattle.lucy_tree.specs.Shaped.{IsShapedNode}
use Rattle.lucy_naming.specs.declared.error.NameError.{NameError}
use Rattle.lucy_place.specs.declared.entry.PlaceEntry.{PlaceEntry}
use Rattle.lucy_place.specs.declared.entry.PlaceKind.TheVariants as kind
use Rattle.lucy_place.specs.declared.entry.CallSite.{CallSite}
use Rattle.lucy_place.specs.declared.placed.PlacedNode.{PlacedNode}
use Rattle.lucy_naming.specs.Texts.{is_in}
use Rattle.lucy_naming.specs.Streams.{streams, declared, def_names}
use Rattle.lucy_naming.specs.Views.{text_of}
use Rattle.lucy_naming.specs.Faults.{Within, result_fault, result_faults, node_faults}
use Rattle.lucy_place.specs.Standing.{most_places}
use Rattle.lucy_naming.specs.Numbering.{Next}
use Rattle.lucy_naming.specs.Places.{Known, stream_place, declared_entry, known_in}
use Rattle.lucy_naming.specs.Nodes.{past_defs, defined, rights, first_next, placed_node}
use Rattle.lucy_place.specs.Proper.{at_one, Stands, ArePlaces, IsNamed, AreNamed, IsProperCall, IsProperNode}
use Rattle.lucy_place.proofs.NodeLaws.{named_place}
use Rattle.lucy_naming.proofs.EachLaws.{Each, each_one}
use Rattle.lucy_naming.proofs.Spread.{Call, Reaches, reaches_join}
use Rattle.lucy_naming.proofs.BoundLaws.{past_bounds, defs_small}
use Rattle.lucy_naming.proofs.CallLaws.{site, def_made, def_sites_are, reaches_defs}
use Rattle.lucy_naming.proofs.RoomLaws.{length_node, past_few}
use Rattle.lucy_naming.proofs.Good.{known_of, GoodPlace, GoodBuffer, GoodCall, Good, IsResultOf, Callee}
use Rattle.lucy_naming.proofs.ProperPhrases.{good_join, defs_good}
use Rattle.lucy_naming.proofs.NodeFaults.{defs_faultless, results_faultless, rooms_few}
use Rattle.lucy_naming.proofs.NameLaws.{distinct}
use Rattle.lucy_naming.proofs.ResultLaws as results
use Rattle.lucy_naming.proofs.ReadOrder.{read_once}
use Rattle.lucy_naming.proofs.NodeParts.{buffers_params, buffers_defined, reach_params, reach_defined, known, node_set, rights_lie}

-- a call in the list of calls is one of the node's
call_at : (cs : List Call) (i : ℕ) (s : CallSite) → slice_get (map site cs) i ≡ Some s → (x : Call) × (slice_get cs i ≡ Some x) × (x.site ≡ s)
call_at [] i s h = cc
call_at (x ∷ cs) zero s h = (x, refl, cc)
call_at (x ∷ cs) (suc i) s h = call_at cs i s h

pub call_one : (cs : List Call) (c : ℕ) (s : CallSite) → at_one (map site cs) c ≡ Some s → (x : Call) × (at_one cs c ≡ Some x) × (x.site ≡ s)
call_one cs zero s h = cc
call_one cs (suc i) s h = call_at cs i s h

are_places : (n : PlacedNode) (ps : List ℕ) → AreNamed n ps → ArePlaces n ps
are_places n [] h = tt
are_places n (p ∷ ps) h = (named_place n p h.0, are_places n ps h.1)

is_stream : (b : Bool) (fs : List NameError) (e : NameError) → (if b then fs else e ∷ []) ≡ [] → b ≡ true
is_stream true fs e h = refl
is_stream false fs e h = cc

module _ (n : PlacedNode) (w : Within) (known : (t : List ℕ) → is_in w.streams t ≡ true → IsNamed n (stream_place (known_of w) t)) where
  results_named : (before : List (List ℕ)) (rs : List Name) → result_faults w.streams before rs ≡ [] → AreNamed n (map (λ r. stream_place (known_of w) r.text) rs)
  results_named before [] h = tt
  results_named before (r ∷ rs) h =
      let own = front_empty (result_fault w.streams before r) (result_faults w.streams (before ++ r.text ∷ []) rs) h in
      let rest = back_empty (result_fault w.streams before r) (result_faults w.streams (before ++ r.text ∷ []) rs) h in
      (known r.text (is_stream _ _ _ own), results_named (before ++ r.text ∷ []) rs rest)

-- what the parameters of a node are
module _ (n : PlacedNode) (cs : List Call) where
  params_good : (from : ℕ) (ds : List Decl) → from + length ds ≤ n.params + 1 → Each (GoodPlace n cs) from (map (declared_entry kind.Param) ds)
  params_good from [] few = tt
  params_good from (d ∷ ds) few = (record { label = (d.name, refl); kind = omega (arith, few); result = tt }, params_good (from + 1) ds (omega (arith, few)))

module _ (ops : List Operator) (all above : ProgramTree) (t : NodeTree) (placed : List PlacedNode) (callees : (i : ℕ) (u : NodeTree) → slice_get above i ≡ Some u → Callee placed i u)
    (shape : IsShapedNode t) (none : node_faults ops all above t ≡ []) where
  abbrev k : Known
  k = known_in ops above t

  abbrev n : PlacedNode
  n = placed_node ops above t

  abbrev cs : List Call
  cs = def_made k (first_next t) t.defs

  abbrev w : Within
  w = record { operators = ops; all = all; above = above; streams = map text_of (streams t) }

  abbrev ps : List PlaceEntry
  ps = map (declared_entry kind.Param) t.params

  abbrev ds : List PlaceEntry
  ds = defined k (first_next t) t.defs

  abbrev rs : List PlaceEntry
  rs = rights k (first_next t) t.defs

  abbrev start : Next
  start = record { place = 1; buffer = 1; call = 1 }

  abbrev behind_params : Next
  behind_params = record { place = length t.params + 1; buffer = 1; call = 1 }

  good : Good placed n cs start (ps ++ (ds ++ rs)) cs
  good =
      let a = length-append (declared t.params) (def_names t.defs) in
      let b = length-map t.params (λ (x : Decl). x.name) in
      let defs = defs_good w placed n cs (node_set ops all above t placed callees) (first_next t) t.defs (omega (arith, a, b)) shape (defs_faultless ops all above t none) (rights_lie ops all above t) in
      good_join n cs start behind_params ps (ds ++ rs) [] cs (reach_params ops all above t) placed
      (record { places = params_good n cs 1 t.params (omega arith); buffers = subst (λ l. Each (GoodBuffer n) 1 l) (sym (buffers_params 1 t.params)) tt; calls = tt })
      (good_join n cs behind_params (first_next t) ds rs [] cs (reach_defined ops all above t) placed
      (record {
        places = defs.defined (length t.params + 1) (omega arith);
        buffers = subst (λ l. Each (GoodBuffer n) 1 l) (sym (buffers_defined (length t.params + 1) k (first_next t) t.defs)) tt;
        calls = tt;
      })
      defs.rights)

  place_good : (p : ℕ) (e : PlaceEntry) → at_one n.places p ≡ Some e → GoodPlace n cs p e
  place_good p e g = each_one (GoodPlace n cs) n.places p e g good.places

  only_results : (c : ℕ) (x : Call) → at_one cs c ≡ Some x → (p j : ℕ) → Stands n p (kind.Result c j) → (p ≡ x.site.first + j) × (j < x.results)
  only_results c x at p j stands =
      let r : IsResultOf cs p (kind.Result c j) = subst (IsResultOf cs p) stands.2 (place_good p stands.0 stands.1).result in
      let same : r.0 ≡ x = cc (r.1, at) in
      (r.2 ∙ ap (λ y. y.site.first + j) same, subst (λ y. j < y.results) same r.3)

  call_proper : (c : ℕ) (s : CallSite) → at_one n.calls c ≡ Some s → IsProperCall placed n c s
  call_proper c s g =
      let found = call_one cs c s (ap (λ l. at_one l c) (def_sites_are k (first_next t) t.defs) ∙ g) in
      let call : GoodCall placed n c found.0 = each_one (GoodCall placed n) cs c found.0 found.1 good.calls in
      subst (IsProperCall placed n c) found.2 (record {
        callee = call.callee;
        found = call.found;
        arguments = call.arguments;
        some = omega (arith, call.some, call.count);
        places = call.places;
        results = λ j h. call.results j (omega (arith, h, call.count));
        only = λ p j stands. let o = only_results c found.0 found.1 p j stands in (o.0, omega (arith, o.1, call.count));
      })

  calls_few : length n.calls ≤ most_places
  calls_few =
      let reach = reaches_defs k (first_next t) t.defs in
      let behind = past_few (first_next t) t.defs in
      let last = reach.call in
      let most = behind.2 in
      let same : length n.calls ≡ length cs = ap length (sym (def_sites_are k (first_next t) t.defs)) ∙ length-map cs site in
      let rooms = rooms_few ops all above t none in
      omega arith

  results_few : length n.results ≤ most_places
  results_few =
      let few = results.few_results (map text_of (streams t)) t.results (results_faultless ops all above t none) in
      omega (arith, few, rooms_few ops all above t none, length-map (streams t) text_of, length-map t.results (λ (r : Name). stream_place k r.text))

  reach_all : Reaches start (past_defs (first_next t) t.defs) (ps ++ (ds ++ rs)) cs
  reach_all =
      let end : Next = past_defs (first_next t) t.defs in
      reaches_join start behind_params end ps (ds ++ rs) [] cs (reach_params ops all above t)
      (reaches_join behind_params (first_next t) end ds rs [] cs (reach_defined ops all above t) (reaches_defs k (first_next t) t.defs))

  bounds_count : length n.bounds ≡ length n.buffers
  bounds_count = (let b = past_bounds (first_next t) t.defs in let r = reach_all.buffer in omega arith)

  pub node_proper : IsProperNode placed n
  node_proper =
      let rooms = length_node k t in
      let a = length-append ps (ds ++ rs) in
      let b = length-map t.params (declared_entry kind.Param) in
      let named = results_named n w (known ops all above t) [] t.results (results_faultless ops all above t none) in
      record {
        few = subst (λ m. m ≤ most_places) (sym rooms) (rooms_few ops all above t none);
        params = omega (arith, a, b);
        labels = λ p e g. (place_good p e g).label;
        kinds = λ p e g. (place_good p e g).kind;
        calls = call_proper;
        in_order = refl;
        bounds = bounds_count;
        small = defs_small t.defs shape;
        buffers = λ b p g. each_one (GoodBuffer n) n.buffers b p g good.buffers;
        results = are_places n n.results named;
        named = named;
        few_calls = calls_few;
        few_results = results_few;
        distinct = distinct ops all above t none;
        once = read_once ops all above t shape none;
      }
