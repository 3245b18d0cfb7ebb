-- A node with few places has few buffers and calls, and so few numbers.
use Rattle.std.proofs.Common.{◌≡◌, ◌+◌, ◌≤◌, ℕ, zero, suc, drop, List, [], ◌∷◌, ◌++◌, length, length-append, map, not, refl, ap, ◌∙◌, arith}
use Rattle.std.proofs.lemmas.List.{length-map}
use Rattle.std.proofs.lemmas.List.Sums.{prefix_len-le-length}
use Rattle.lucy_place.specs.declared.entry.PlaceEntry.{PlaceEntry}
use Rattle.lucy_place.specs.declared.placed.PlacedNode.{PlacedNode}
use Rattle.lucy_place.specs.declared.entry.PlaceKind.TheVariants.{Param}
use Rattle.lucy_naming.specs.Texts.{is_text}
use Rattle.lucy_naming.proofs.PartsLaws.{length_phrase, node_same}
use Rattle.lucy_tree.specs.declared.decl.Decl.{Decl}
use Rattle.lucy_tree.specs.declared.program.Def.{Def}
use Rattle.lucy_tree.specs.View.{DefTree, NodeTree, ProgramTree, def_tree}
use Rattle.lucy_host.specs.Operators.{Operator}
use Rattle.lucy_naming.specs.Streams.{declared, def_names, result_count}
use Rattle.lucy_naming.specs.Phrases.{Head, Literal, Applied, Host, Sampled, Merged, Followed, Buffered, Called, Phrase, Phrases, name, headed, none, and, phrase_of}
use Rattle.lucy_place.specs.Standing.{most_places}
use Rattle.lucy_naming.specs.Numbering.{Next, number, entries, rooms, all_rooms, bounds, all_bounds, calls, all_calls, own_rooms, own_calls, def_rooms, node_rooms}
use Rattle.lucy_naming.specs.Places.{Known, known_in, own_bounds, declared_entry, left_entries, as_placed}
use Rattle.lucy_naming.specs.Nodes.{past_def, past_defs, first_next, defined, rights, node_entries}
use Rattle.lucy_naming.specs.Drafts.{IsSmall}

own_few : (r : ℕ) (h : Head) → 1 ≤ r → (length (own_bounds h) ≤ own_rooms r h) × (own_calls h ≤ own_rooms r h)
own_few r (Literal l) some = (omega arith, omega arith)
own_few r (Applied o) some = (omega arith, omega arith)
own_few r (Host n) some = (omega arith, omega arith)
own_few r (Sampled flip w) some = (omega arith, omega arith)
own_few r (Merged w) some = (omega arith, omega arith)
own_few r (Followed l) some = (omega arith, omega arith)
own_few r (Buffered most) some = (omega arith, omega arith)
own_few r (Called n base) some = (omega arith, omega arith)

mutual
  few : (r : ℕ) (f : Phrase) → 1 ≤ r → (length (bounds f) ≤ rooms r f) × (calls f ≤ rooms r f)
  few r (name n) some = (omega arith, omega arith)
  few r (headed h span fs) some =
      let own = own_few r h some in
      let more = all_few fs in
      (omega (arith, own.0, more.0, length-append (own_bounds h) (all_bounds fs)), omega (arith, own.1, more.1))

  all_few : (fs : Phrases) → (length (all_bounds fs) ≤ all_rooms fs) × (all_calls fs ≤ all_rooms fs)
  all_few none = (omega arith, omega arith)
  all_few (and f fs) =
      let first = few 1 f (omega arith) in
      let more = all_few fs in
      (omega (arith, first.0, more.0, length-append (bounds f) (all_bounds fs)), omega (arith, first.1, more.1))

pub some_results : (ds : List Decl) → 1 ≤ result_count ds
some_results [] = omega arith
some_results (d ∷ ds) = omega arith

pub past_few : (at : Next) (ds : List DefTree) →
    ((past_defs at ds).place ≡ at.place + def_rooms ds) × ((past_defs at ds).buffer ≤ at.buffer + def_rooms ds) × ((past_defs at ds).call ≤ at.call + def_rooms ds)
past_few at [] = (omega arith, omega arith, omega arith)
past_few at (d ∷ ds) =
    let own = few (result_count d.left) (phrase_of d.right) (some_results d.left) in
    let more = past_few (past_def at d) ds in
    (omega (arith, more.0), omega (arith, more.1, own.0), omega (arith, more.2, own.1))

pub node_small : (n : NodeTree) → node_rooms n ≤ most_places → IsSmall (past_defs (first_next n) n.defs)
node_small n few =
    let more = past_few (first_next n) n.defs in
    record { place = omega (arith, more.0); buffer = omega (arith, more.1); call = omega (arith, more.2) }

-- a number is small where the next one is
pub number_few : (k : Known) (at : Next) (f : Phrase) → length k.streams ≤ most_places → at.place ≤ most_places + 1 → number k at f ≤ most_places + 1
number_few k at (name n) few here = omega (arith, prefix_len-le-length (λ t. not (is_text n.text t)) k.streams)
number_few k at (headed h span fs) few here = here

-- as many places as were counted
pub length_lefts : (right : ℕ) (ds : List Decl) → length (left_entries right ds) ≡ length ds
length_lefts right [] = refl
length_lefts right (d ∷ ds) = omega (arith, length_lefts (right + 1) ds)

-- as many streams are defined as are named
pub length_defined : (k : Known) (at : Next) (ds : List DefTree) → length (defined k at ds) ≡ length (def_names ds)
length_defined k at [] = refl
length_defined k at (d ∷ ds) =
    let l : List PlaceEntry = left_entries (number k at (phrase_of d.right)) d.left in
    let a = length-append l (defined k (past_def at d) ds) in
    let b = length-append (declared d.left) (def_names ds) in
    omega (arith, a, b, length_lefts (number k at (phrase_of d.right)) d.left, length-map d.left (λ (x : Decl). x.name), length_defined k (past_def at d) ds)

pub length_rights : (k : Known) (at : Next) (ds : List DefTree) → length (rights k at ds) ≡ def_rooms ds
length_rights k at [] = refl
length_rights k at (d ∷ ds) =
    let r : ℕ = result_count d.left in
    let a = length-append (entries k at r (phrase_of d.right)) (rights k (past_def at d) ds) in
    omega (arith, a, (length_phrase k at r (phrase_of d.right)).0, length_rights k (past_def at d) ds)

pub length_node : (k : Known) (n : NodeTree) → length (node_entries k n) ≡ node_rooms n
length_node k n =
    let ps : List PlaceEntry = map (declared_entry Param) n.params in
    let a = length-append ps (defined k (first_next n) n.defs ++ rights k (first_next n) n.defs) in
    let b = length-append (defined k (first_next n) n.defs) (rights k (first_next n) n.defs) in
    let c = length-append (declared n.params) (def_names n.defs) in
    omega (arith, a, b, c, length-map n.params (declared_entry Param), length-map n.params (λ (x : Decl). x.name), length_defined k (first_next n) n.defs, length_rights k (first_next n) n.defs)

-- so has a node that is read off its tree
pub length_placed : (ops : List Operator) (above : ProgramTree) (n : NodeTree) → length (as_placed ops above n).places ≡ node_rooms n
length_placed ops above n = ap (λ (m : PlacedNode). length m.places) (node_same ops above n) ∙ length_node (known_in ops above n) n

-- numbers before definitions are small where those behind them are
defs_before : (at : Next) (ds : List DefTree) → (at.place ≤ (past_defs at ds).place) × (at.buffer ≤ (past_defs at ds).buffer) × (at.call ≤ (past_defs at ds).call)
defs_before at [] = (omega arith, omega arith, omega arith)
defs_before at (d ∷ ds) =
    let more = defs_before (past_def at d) ds in
    (omega (arith, more.0), omega (arith, more.1), omega (arith, more.2))

pub small_before_defs : (at : Next) (ds : List DefTree) → IsSmall (past_defs at ds) → IsSmall at
small_before_defs at ds small =
    let b = defs_before at ds in
    record { place = omega (arith, b.0, small.place); buffer = omega (arith, b.1, small.buffer); call = omega (arith, b.2, small.call) }

-- definitions from some on have no more names than all
pub later_names : (ds : List Def) (i : ℕ) → length (def_names (map def_tree (drop i ds))) ≤ length (def_names (map def_tree ds))
later_names [] zero = omega arith
later_names [] (suc i) = omega arith
later_names (d ∷ ds) zero = omega arith
later_names (d ∷ ds) (suc i) = omega (arith, later_names ds i, length-append (declared d.left) (def_names (map def_tree ds)))

-- and one has no more
pub left_names : (d : Def) (ds : List Def) → length d.left ≤ length (def_names (map def_tree (d ∷ ds)))
left_names d ds = omega (arith, length-append (declared d.left) (def_names (map def_tree ds)), length-map d.left (λ (x : Decl). x.name))
