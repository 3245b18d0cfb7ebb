-- The parts of an expression are what is numbered of it: from the numbers that follow those of the parts before.
use Rattle.std.proofs.Common.{◌≡◌, ◌+◌, ℕ, List, [], ◌∷◌, ◌++◌, length, refl, ap, ◌∙◌, arith, length-append}
use Rattle.std.proofs.lemmas.List.{length-replicate}
use Rattle.std.specs.Prelude.{map, replicate}
use Rattle.lucy_host.specs.Operators.{Operator}
use Rattle.lucy_tree.specs.View.{DefTree, NodeTree, ProgramTree}
use Rattle.lucy_place.specs.declared.entry.PlaceEntry.{PlaceEntry}
use Rattle.lucy_place.specs.declared.entry.PlaceKind.TheVariants.{Param}
use Rattle.lucy_place.specs.declared.placed.PlacedNode.{PlacedNode}
use Rattle.lucy_naming.specs.Phrases.{Head, Literal, Applied, Host, Sampled, Merged, Followed, Buffered, Called, Phrase, Phrases, name, headed, none, and, phrase_of}
use Rattle.lucy_naming.specs.Streams.{streams, result_count}
use Rattle.lucy_naming.specs.Numbering.{Next, past, inside, number, numbers, entries, all_entries, own_entries, sites, all_sites, own_sites, rooms, all_rooms, own_rooms, bounds, all_bounds, calls, all_calls, own_calls}
use Rattle.lucy_naming.specs.Places.{Known, own_bounds, unnamed, stream_place, declared_entry, left_entries, known_in, Parts, no_parts, in_turn, own_parts, parts_of, all_parts, def_parts, as_placed}
use Rattle.lucy_naming.specs.Nodes.{past_def, defined, rights, def_sites, def_bounds, first_next, placed_node}
use Rattle.lucy_place.specs.Standing.{buffer_places}
use Rattle.lucy_naming.proofs.DraftLaws.{next_same, length_results}

-- the numbers that come behind these parts
abbrev next_of : Parts → Next
next_of at = record { place = length at.places + 1; buffer = length at.bounds + 1; call = length at.calls + 1 }

-- what is numbered of a form by itself, of an expression, of operands and of right sides
abbrev own_numbered : Known → Next → ℕ → Head → List ℕ → Parts
own_numbered k at r h args = record { places = own_entries k at r h args; bounds = own_bounds h; calls = own_sites k at h args }

abbrev numbered : Known → Next → ℕ → Phrase → Parts
numbered k at r f = record { places = entries k at r f; bounds = bounds f; calls = sites k at r f }

abbrev all_numbered : Known → Next → Phrases → Parts
all_numbered k at fs = record { places = all_entries k at fs; bounds = all_bounds fs; calls = all_sites k at fs }

abbrev def_numbered : Known → Next → List DefTree → Parts
def_numbered k at ds = record { places = rights k at ds; bounds = def_bounds ds; calls = def_sites k at ds }

own_same : (k : Known) (at : Parts) (r : ℕ) (h : Head) (args : List ℕ) → own_parts k at r h args ≡ own_numbered k (next_of at) r h args
own_same k at r (Literal l) args = refl
own_same k at r (Applied o) args = refl
own_same k at r (Host n) args = refl
own_same k at r (Sampled flip w) args = refl
own_same k at r (Merged w) args = refl
own_same k at r (Followed l) args = refl
own_same k at r (Buffered most) args = refl
own_same k at r (Called n base) args = refl

-- as many of each as are counted
length_own : (k : Known) (at : Next) (r : ℕ) (h : Head) (args : List ℕ) → (length (own_entries k at r h args) ≡ own_rooms r h) × (length (own_sites k at h args) ≡ own_calls h)
length_own k at r (Literal l) args = (refl, refl)
length_own k at r (Applied o) args = (refl, refl)
length_own k at r (Host n) args = (refl, refl)
length_own k at r (Sampled flip w) args = (refl, refl)
length_own k at r (Merged w) args = (refl, refl)
length_own k at r (Followed l) args = (refl, refl)
length_own k at r (Buffered most) args = (refl, refl)
length_own k at r (Called n base) args = (length_results at.call 0 r, refl)

mutual
  pub length_phrase : (k : Known) (at : Next) (r : ℕ) (f : Phrase) → (length (entries k at r f) ≡ rooms r f) × (length (sites k at r f) ≡ calls f)
  length_phrase k at r (name n) = (refl, refl)
  length_phrase k at r (headed h span fs) =
      let in_ : Next = inside at r h in
      let args : List ℕ = numbers k in_ fs in
      let own = length_own k at r h args in
      let more = length_all k in_ fs in
      (omega (arith, own.0, more.0, length-append (own_entries k at r h args) (all_entries k in_ fs)), omega (arith, own.1, more.1, length-append (own_sites k at h args) (all_sites k in_ fs)))

  length_all : (k : Known) (at : Next) (fs : Phrases) → (length (all_entries k at fs) ≡ all_rooms fs) × (length (all_sites k at fs) ≡ all_calls fs)
  length_all k at none = (refl, refl)
  length_all k at (and f fs) =
      let first = length_phrase k at 1 f in
      let more = length_all k (past at 1 f) fs in
      (omega (arith, first.0, more.0, length-append (entries k at 1 f) (all_entries k (past at 1 f) fs)), omega (arith, first.1, more.1, length-append (sites k at 1 f) (all_sites k (past at 1 f) fs)))

-- behind a form by itself, and behind an expression
next_own : (k : Known) (at : Parts) (r : ℕ) (h : Head) → next_of (in_turn at (own_parts k at r h [])) ≡ inside (next_of at) r h
next_own k at r h =
    let own : Parts = own_numbered k (next_of at) r h [] in
    let lengths = length_own k (next_of at) r h [] in
    ap (λ o. next_of (in_turn at o)) (own_same k at r h [])
    ∙ next_same (omega (arith, lengths.0, length-append at.places own.places)) (omega (arith, length-append at.bounds own.bounds))
    (omega (arith, lengths.1, length-append at.calls own.calls))

next_phrase : (k : Known) (at : Parts) (r : ℕ) (f : Phrase) → next_of (in_turn at (numbered k (next_of at) r f)) ≡ past (next_of at) r f
next_phrase k at r f =
    let one : Parts = numbered k (next_of at) r f in
    let lengths = length_phrase k (next_of at) r f in
    next_same (omega (arith, lengths.0, length-append at.places one.places)) (omega (arith, length-append at.bounds one.bounds))
    (omega (arith, lengths.1, length-append at.calls one.calls))

mutual
  phrase_same : (k : Known) (at : Parts) (r : ℕ) (f : Phrase) → parts_of k at r f ≡ (number k (next_of at) f, numbered k (next_of at) r f)
  phrase_same k at r (name n) = refl
  phrase_same k at r (headed h span fs) =
      let in_ : Next = inside (next_of at) r h in
      let inner : all_parts k (in_turn at (own_parts k at r h [])) fs ≡ (numbers k in_ fs, all_numbered k in_ fs) =
      all_same k (in_turn at (own_parts k at r h [])) fs ∙ ap (λ n. let p : List ℕ × Parts = (numbers k n fs, all_numbered k n fs) in p) (next_own k at r h) in
      ap (λ (q : List ℕ × Parts). let p : ℕ × Parts = (length at.places + 1, in_turn (own_parts k at r h q.0) q.1) in p) inner
      ∙ ap (λ o. let p : ℕ × Parts = (length at.places + 1, in_turn o (all_numbered k in_ fs)) in p) (own_same k at r h (numbers k in_ fs))

  all_same : (k : Known) (at : Parts) (fs : Phrases) → all_parts k at fs ≡ (numbers k (next_of at) fs, all_numbered k (next_of at) fs)
  all_same k at none = refl
  all_same k at (and f fs) =
      let one : Parts = numbered k (next_of at) 1 f in
      let more : all_parts k (in_turn at one) fs ≡ (numbers k (past (next_of at) 1 f) fs, all_numbered k (past (next_of at) 1 f) fs) =
      all_same k (in_turn at one) fs ∙ ap (λ n. let p : List ℕ × Parts = (numbers k n fs, all_numbered k n fs) in p) (next_phrase k at 1 f) in
      ap (λ (q : ℕ × Parts). let rest : List ℕ × Parts = all_parts k (in_turn at q.1) fs in let p : List ℕ × Parts = (q.0 ∷ rest.0, in_turn q.1 rest.1) in p) (phrase_same k at 1 f)
      ∙ ap (λ (q : List ℕ × Parts). let p : List ℕ × Parts = (number k (next_of at) f ∷ q.0, in_turn one q.1) in p) more

defs_same : (k : Known) (at : Parts) (ds : List DefTree) → def_parts k at ds ≡ (defined k (next_of at) ds, def_numbered k (next_of at) ds)
defs_same k at [] = refl
defs_same k at (d ∷ ds) =
    let f : Phrase = phrase_of d.right in
    let r : ℕ = result_count d.left in
    let one : Parts = numbered k (next_of at) r f in
    let more : def_parts k (in_turn at one) ds ≡ (defined k (past_def (next_of at) d) ds, def_numbered k (past_def (next_of at) d) ds) =
    defs_same k (in_turn at one) ds ∙ ap (λ n. let p : List PlaceEntry × Parts = (defined k n ds, def_numbered k n ds) in p) (next_phrase k at r f) in
    ap (λ (q : ℕ × Parts). let rest : List PlaceEntry × Parts = def_parts k (in_turn at q.1) ds in let p : List PlaceEntry × Parts = (left_entries q.0 d.left ++ rest.0, in_turn q.1 rest.1) in p) (phrase_same k at r f)
    ∙ ap (λ (q : List PlaceEntry × Parts). let p : List PlaceEntry × Parts = (left_entries (number k (next_of at) f) d.left ++ q.0, in_turn one q.1) in p) more

module _ (ops : List Operator) (above : ProgramTree) (n : NodeTree) where
  abbrev before : Parts
  before = record no_parts { places = replicate (length (streams n)) (unnamed Param) }

  first_same : next_of before ≡ first_next n
  first_same = next_same (omega (arith, length-replicate (length (streams n)) (unnamed Param))) refl refl

  -- a node of what its definitions come to
  abbrev made_of : List PlaceEntry × Parts → PlacedNode
  made_of defs =
      let k = known_in ops above n in
      let places = map (declared_entry Param) n.params ++ (defs.0 ++ defs.1.places) in
      record {
        name = n.name;
        params = length n.params;
        places = places;
        results = map (λ r. stream_place k r.text) n.results;
        buffers = buffer_places 1 places;
        bounds = defs.1.bounds;
        calls = defs.1.calls;
      }

  -- a node read off its tree is the node that is numbered
  pub node_same : as_placed ops above n ≡ placed_node ops above n
  node_same =
      let k : Known = known_in ops above n in
      ap made_of (defs_same k before n.defs ∙ ap (λ at. let p : List PlaceEntry × Parts = (defined k at n.defs, def_numbered k at n.defs) in p) first_same)
