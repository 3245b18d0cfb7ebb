-- The parts of a placed node: parameters, defined names and right sides, and which of its places have names.
use Rattle.std.proofs.Common.{◌≡◌, ◌+◌, ◌<◌, ◌||◌, ℕ, zero, suc, Bool, true, false, not, cond, List, [], ◌∷◌, ◌++◌, length, length-append, map, Some, slice_get, refl, ap, sym, ◌∙◌, arith, append_assoc}
use Rattle.std.proofs.lemmas.List.{length-map}
use Rattle.std.specs.List.{AllByRecursion, list_any, position_or_len}
use Rattle.lucy_host.specs.Operators.{Operator}
use Rattle.lucy_tree.specs.declared.span.Name.{Name}
use Rattle.lucy_tree.specs.declared.decl.Decl.{Decl}
use Rattle.lucy_tree.specs.View.{DefTree, NodeTree, ProgramTree}
use Rattle.lucy_place.specs.declared.entry.PlaceEntry.{PlaceEntry}
use Rattle.lucy_place.specs.declared.entry.PlaceKind.TheVariants as kind
use Rattle.lucy_place.specs.declared.placed.PlacedNode.{PlacedNode}
use Rattle.lucy_naming.specs.Texts.{is_text, is_in, place_in}
use Rattle.lucy_naming.specs.Streams.{streams, declared, def_names}
use Rattle.lucy_naming.specs.Views.{text_of}
use Rattle.lucy_naming.specs.Phrases.{phrase_of}
use Rattle.lucy_naming.specs.Faults.{Within}
use Rattle.lucy_naming.specs.Numbering.{Next, number}
use Rattle.lucy_naming.specs.Places.{Known, stream_place, declared_entry, left_entries, known_in}
use Rattle.lucy_naming.specs.Nodes.{past_def, defined, rights, first_next, placed_node}
use Rattle.lucy_place.specs.Standing.{buffer_places}
use Rattle.lucy_place.specs.Proper.{at_one, IsNamed}
use Rattle.lucy_naming.proofs.EachLaws.{each_own}
use Rattle.lucy_naming.proofs.Spread.{Call, Reaches, buffers_append}
use Rattle.lucy_naming.proofs.CallLaws.{def_made, def_sites_are}
use Rattle.lucy_naming.proofs.RoomLaws.{length_defined}
use Rattle.lucy_naming.proofs.Good.{Lies, Callee, Setting}
use Rattle.lucy_naming.proofs.ProperPhrases.{lies_back}

-- a text among others stands at one of their places
pub found_within : {A : Type 0} (p : A → Bool) (xs : List A) → list_any p xs ≡ true → position_or_len p xs < length xs
found_within p [] h = cc
found_within p (x ∷ xs) h = step (p x) (list_any p xs) (position_or_len p xs) (length xs) (found_within p xs) h
  where
    step : (b c : Bool) (m l : ℕ) → (c ≡ true → m < l) → (b || c) ≡ true → cond (not b) (1 + m) 0 < suc l
    step true c m l f h = omega arith
    step false c m l f h = let g = f h in omega (arith, g)

-- the first places of a node have names
abbrev HasName : PlaceEntry → Type 0
HasName e = (name : Name) × (e.name ≡ Some name)

pub named_at : (xs ys : List PlaceEntry) (i : ℕ) → i < length xs → AllByRecursion HasName xs → (e : PlaceEntry) × (name : Name) × (slice_get (xs ++ ys) i ≡ Some e) × (e.name ≡ Some name)
named_at [] ys i h all = absurd (omega arith)
named_at (x ∷ xs) ys zero h all = (x, all.0.0, refl, all.0.1)
named_at (x ∷ xs) ys (suc i) h all = named_at xs ys i (omega (arith, h)) all.1

pub names_join : (xs ys : List PlaceEntry) → AllByRecursion HasName xs → AllByRecursion HasName ys → AllByRecursion HasName (xs ++ ys)
names_join [] ys a b = b
names_join (x ∷ xs) ys a b = (a.0, names_join xs ys a.1 b)

pub params_named : (ds : List Decl) → AllByRecursion HasName (map (declared_entry kind.Param) ds)
params_named [] = tt
params_named (d ∷ ds) = ((d.name, refl), params_named ds)

lefts_named : (right : ℕ) (ds : List Decl) → AllByRecursion HasName (left_entries right ds)
lefts_named right [] = tt
lefts_named right (d ∷ ds) = ((d.name, refl), lefts_named (right + 1) ds)

pub defined_named : (k : Known) (at : Next) (ds : List DefTree) → AllByRecursion HasName (defined k at ds)
defined_named k at [] = tt
defined_named k at (d ∷ ds) =
    names_join (left_entries (number k at (phrase_of d.right)) d.left) (defined k (past_def at d) ds) (lefts_named (number k at (phrase_of d.right)) d.left) (defined_named k (past_def at d) ds)

-- no buffer stands at them
pub buffers_params : (from : ℕ) (ds : List Decl) → buffer_places from (map (declared_entry kind.Param) ds) ≡ []
buffers_params from [] = refl
buffers_params from (d ∷ ds) = buffers_params (from + 1) ds

buffers_lefts : (from right : ℕ) (ds : List Decl) → buffer_places from (left_entries right ds) ≡ []
buffers_lefts from right [] = refl
buffers_lefts from right (d ∷ ds) = buffers_lefts (from + 1) (right + 1) ds

pub buffers_defined : (from : ℕ) (k : Known) (at : Next) (ds : List DefTree) → buffer_places from (defined k at ds) ≡ []
buffers_defined from k at [] = refl
buffers_defined from k at (d ∷ ds) =
    let left : List PlaceEntry = left_entries (number k at (phrase_of d.right)) d.left in
    buffers_append from (from + length left) left (defined k (past_def at d) ds) refl
    ∙ ap (λ l. l ++ buffer_places (from + length left) (defined k (past_def at d) ds)) (buffers_lefts from (number k at (phrase_of d.right)) d.left)
    ∙ buffers_defined (from + length left) k (past_def at d) ds

module _ (ops : List Operator) (all above : ProgramTree) (t : NodeTree) where
  abbrev pub texts : List (List ℕ)
  texts = map text_of (streams t)

  abbrev pub w : Within
  w = record { operators = ops; all = all; above = above; streams = texts }

  abbrev pub k : Known
  k = known_in ops above t

  abbrev pub n : PlacedNode
  n = placed_node ops above t

  abbrev pub cs : List Call
  cs = def_made k (first_next t) t.defs

  abbrev pub ps : List PlaceEntry
  ps = map (declared_entry kind.Param) t.params

  abbrev pub ds : List PlaceEntry
  ds = defined k (first_next t) t.defs

  abbrev pub rs : List PlaceEntry
  rs = rights k (first_next t) t.defs

  abbrev pub start : Next
  start = record { place = 1; buffer = 1; call = 1 }

  abbrev pub behind_params : Next
  behind_params = record { place = length t.params + 1; buffer = 1; call = 1 }

  length_streams : length (streams t) ≡ length t.params + length (def_names t.defs)
  length_streams =
      let a = length-append (declared t.params) (def_names t.defs) in
      let b = length-map t.params (λ (x : Decl). x.name) in
      omega (arith, a, b)

  pub reach_params : Reaches start behind_params ps []
  reach_params = record {
    place = let l = length-map t.params (declared_entry kind.Param) in omega (arith, l);
    buffer = let l : length (buffer_places 1 ps) ≡ 0 = ap length (buffers_params 1 t.params) in omega (arith, l);
    call = omega arith;
  }

  pub reach_defined : Reaches behind_params (first_next t) ds []
  reach_defined = record {
    place = let l = length_defined k (first_next t) t.defs in omega (arith, l, length_streams);
    buffer = let l : length (buffer_places (length t.params + 1) ds) ≡ 0 = ap length (buffers_defined (length t.params + 1) k (first_next t) t.defs) in omega (arith, l);
    call = omega arith;
  }

  pub known : (text : List ℕ) → is_in texts text ≡ true → IsNamed n (stream_place k text)
  known text h =
      let i : ℕ = place_in texts text in
      let a = found_within (is_text text) texts h in
      let b = length-map (streams t) text_of in
      let c = length-append ps ds in
      let d = length-map t.params (declared_entry kind.Param) in
      let e = length_defined k (first_next t) t.defs in
      let found = named_at (ps ++ ds) rs i (omega (arith, a, b, c, d, e, length_streams)) (names_join ps ds (params_named t.params) (defined_named k (first_next t) t.defs)) in
      let f : i + 1 ≡ suc i = omega arith in
      let g : at_one n.places (i + 1) ≡ Some found.0 = ap (at_one n.places) f ∙ ap (λ l. slice_get l i) (sym (append_assoc ps ds rs)) ∙ found.2 in
      (found.0, found.1, g, found.3)

  -- its places, buffers and calls, and those of its right sides, lie in it
  pub node_lies : Lies n cs start (ps ++ (ds ++ rs)) cs
  node_lies = record { places = each_own n.places; buffers = each_own n.buffers; calls = each_own cs }

  pub rights_lie : Lies n cs (first_next t) rs cs
  rights_lie = lies_back n cs behind_params (first_next t) ds rs [] cs reach_defined (lies_back n cs start behind_params ps (ds ++ rs) [] cs reach_params node_lies)

  pub node_set : (placed : List PlacedNode) → ((i : ℕ) (u : NodeTree) → slice_get above i ≡ Some u → Callee placed i u) → Setting w placed n cs
  node_set placed callees = record { calls = sym (def_sites_are k (first_next t) t.defs); known = known; callees = callees }
