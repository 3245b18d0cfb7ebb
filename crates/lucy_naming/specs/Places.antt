-- The places of a node, and of a program, read off their trees. Places, buffers and calls count from 1.
use Rattle.std.specs.Prelude.{ℕ, suc, zero, ◌+◌, ◌≡◌, List, [], ◌∷◌, ◌++◌, Option, Some, None, length, map, take, replicate, slice_get, slice_index_or, option_map}
use Rattle.std.specs.Option.{unwrap_or}
use Rattle.lucy_host.specs.Operators.{Operator, operator_number}
use Rattle.lucy_tree.specs.declared.decl.Decl.{Decl}
use Rattle.lucy_tree.specs.View.{DefTree, NodeTree, ProgramTree}
use Rattle.lucy_place.specs.declared.entry.PlaceEntry.{PlaceEntry}
use Rattle.lucy_place.specs.declared.entry.PlaceKind.{PlaceKind}
use Rattle.lucy_place.specs.declared.entry.PlaceKind.TheVariants as kind
use Rattle.lucy_place.specs.declared.entry.CallSite.{CallSite}
use Rattle.lucy_place.specs.declared.placed.PlacedNode.{PlacedNode}
use Rattle.lucy_place.specs.Standing.{sampling_word, buffer_places}
use Rattle.lucy_naming.specs.Texts.{place_in}
use Rattle.lucy_naming.specs.Streams.{streams, node_names, result_count}
use Rattle.lucy_naming.specs.Phrases.{Head, Literal, Applied, Host, Sampled, Merged, Followed, Buffered, Called, Phrase, Phrases, name, headed, none, and, phrase_of}

-- the operators of the host, the names of the nodes above, and those of the node's streams in order of their places
pub record Known : Type 0 where
  pub operators : List Operator
  pub nodes : List (List ℕ)
  pub streams : List (List ℕ)

-- what names stand for in a node with these nodes above it
abbrev pub known_in : List Operator → ProgramTree → NodeTree → Known
known_in operators above n = record { operators = operators; nodes = node_names above; streams = map (λ s. s.text) (streams n) }

-- the place of a stream
abbrev pub stream_place : Known → List ℕ → ℕ
stream_place k text = place_in k.streams text + 1

-- the number of an operator of the host, where there is one of the name (else 0, which says nothing)
abbrev pub operator_place : Known → List ℕ → ℕ
operator_place k text = unwrap_or (operator_number k.operators text) 0

-- the place of a name that is declared
abbrev pub declared_entry : PlaceKind → Decl → PlaceEntry
declared_entry k d = record { name = Some d.name; holds = d.holds; word = d.word; kind = k }

-- the names on the left of a definition, defined by places in order
abbrev pub left_entries : ℕ → List Decl → List PlaceEntry
left_entries right [] = []
left_entries right (d ∷ ds) = declared_entry (kind.Defined right) d ∷ left_entries (right + 1) ds

-- a place without a name
abbrev pub unnamed : PlaceKind → PlaceEntry
unnamed k = record { name = None; holds = None; word = None; kind = k }

-- the results of a call, from one on
abbrev pub results_from : ℕ → ℕ → ℕ → List PlaceEntry
results_from call first zero = []
results_from call first (suc n) = unnamed (kind.Result call first) ∷ results_from call (first + 1) n

-- what stands at the place of a form that is no call, with its number as a buffer and the places of its operands
abbrev pub own_kind : Known → ℕ → Head → List ℕ → PlaceKind
own_kind k n (Literal l) args = kind.Lit l
own_kind k n (Applied op) args = kind.Op op args
own_kind k n (Host t) args = kind.Host (operator_place k t.text) (slice_index_or args 0 0) (slice_index_or args 1 0)
own_kind k n (Sampled flip w) args = kind.When (slice_index_or args 0 0) (sampling_word flip w)
own_kind k n (Merged w) args = kind.Merge w (slice_index_or args 0 0) (slice_index_or args 1 0)
own_kind k n (Followed l) args = kind.Fby l (slice_index_or args 0 0)
own_kind k n (Buffered most) args = kind.Buffer n (slice_index_or args 0 0)
own_kind k n (Called _ base) args = kind.Param

-- the buffer that a form is, if it is one: its bound, where one is written
abbrev pub own_bounds : Head → List (Option ℕ)
own_bounds (Buffered most) = most ∷ []
own_bounds h = []

-- places, bounds of buffers and calls, each in order of the text
pub record Parts : Type 0 where
  pub places : List PlaceEntry
  pub bounds : List (Option ℕ)
  pub calls : List CallSite

-- none of them
abbrev pub no_parts : Parts
no_parts = record { places = []; bounds = []; calls = [] }

-- these, and then those
abbrev pub in_turn : Parts → Parts → Parts
in_turn a b = record { places = a.places ++ b.places; bounds = a.bounds ++ b.bounds; calls = a.calls ++ b.calls }

-- the parts that a form with these operands is by itself, behind others: a call has a place for each of its results, any other form one
abbrev pub own_parts : Known → Parts → ℕ → Head → List ℕ → Parts
own_parts k at results (Called n base) args = record {
  places = results_from (length at.calls + 1) 0 results;
  bounds = [];
  calls = record { node = place_in k.nodes n.text; at = base; first = length at.places + 1; args = args } ∷ [];
}
own_parts k at results h args = record { places = unnamed (own_kind k (length at.bounds + 1) h args) ∷ []; bounds = own_bounds h; calls = [] }

-- the place of an expression, and the parts that it adds behind others: of a name its stream's place, and no part; of a form the next place, its
-- own parts, and those of its operands from left to right
abbrev mutual
  pub parts_of : Known → Parts → ℕ → Phrase → ℕ × Parts
  parts_of k at results (name n) = (stream_place k n.text, no_parts)
  parts_of k at results (headed h span fs) =
      let more = all_parts k (in_turn at (own_parts k at results h [])) fs in (length at.places + 1, in_turn (own_parts k at results h more.0) more.1)

  pub all_parts : Known → Parts → Phrases → List ℕ × Parts
  all_parts k at none = ([], no_parts)
  all_parts k at (and f fs) =
      let first = parts_of k at 1 f in let more = all_parts k (in_turn at first.1) fs in (first.0 ∷ more.0, in_turn first.1 more.1)

-- the places of defined names, and the parts that their right sides add behind others
abbrev pub def_parts : Known → Parts → List DefTree → List PlaceEntry × Parts
def_parts k at [] = ([], no_parts)
def_parts k at (d ∷ ds) =
    let right = parts_of k at (result_count d.left) (phrase_of d.right) in
    let more = def_parts k (in_turn at right.1) ds in (left_entries right.0 d.left ++ more.0, in_turn right.1 more.1)

-- a node with these nodes above it: its places are those of its parameters, of its defined names, and of right sides, which count on from there
abbrev pub as_placed : List Operator → (above : ProgramTree) → NodeTree → PlacedNode
as_placed ops above n =
    let k = known_in ops above n in
    let defs = def_parts k (record no_parts { places = replicate (length (streams n)) (unnamed kind.Param) }) n.defs in
    let places = map (declared_entry kind.Param) n.params ++ (defs.0 ++ defs.1.places) in
    record {
      name = n.name;
      params = length n.params;
      places = places;
      results = map (λ r. stream_place k r.text) n.results;
      buffers = buffer_places 1 places;
      bounds = defs.1.bounds;
      calls = defs.1.calls;
    }

-- these are the nodes of a program, each with those above it
abbrev pub AreNodesOf : List Operator → ProgramTree → List PlacedNode → Type 0
AreNodesOf ops program nodes = (i : ℕ) → slice_get nodes i ≡ option_map (as_placed ops (take i program)) (slice_get program i)
