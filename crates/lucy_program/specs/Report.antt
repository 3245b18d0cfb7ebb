-- The report of an accepted program.
use Rattle.std.specs.Prelude.{ℕ, ◌+◌, ◌≤◌, ◌≡◌, Bool, ◌==◌, List, [], ◌∷◌, ◌++◌, Option, Some, length, slice_get, codes, if◌then◌else◌}
use Rattle.std.specs.Option.{unwrap_or, option_and_then}
use Rattle.std.specs.Fmt.{decimal}
use Rattle.lucy_word.specs.Bits.{Bits}
use Rattle.lucy_word.specs.Spelling.{text_of}
use Rattle.lucy_tree.specs.declared.span.Name.{Name}
use Rattle.lucy_place.specs.declared.entry.PlaceEntry.{PlaceEntry}
use Rattle.lucy_place.specs.declared.entry.CallSite.{CallSite}
use Rattle.lucy_place.specs.declared.placed.PlacedNode.{PlacedNode}
use Rattle.lucy_place.specs.Standing.{at_one, bound_of}
use Rattle.lucy_place.specs.Reads.{operands_of}
use Rattle.lucy_types.specs.declared.ty.Ty.{Ty}
use Rattle.lucy_types.specs.declared.ty.Ty.TheVariants as ty
use Rattle.lucy_types.specs.Programs.{IsTyped}
use Rattle.lucy_need.specs.Meeting.{Assignment, assigned}
use Rattle.lucy_clock.specs.declared.node_clock.NodeClock.{NodeClock}
use Rattle.lucy_clock.specs.Clocks.{call_clock}
use Rattle.lucy_program.specs.Names.{of_one, node_line}

-- a type; one that is open is `int` in main, else `'` and the number of its class
abbrev pub type_name : (main : Bool) → Ty → List ℕ
type_name main ty.Int = codes "int"
type_name main ty.Bool = codes "bool"
type_name main (ty.Open class) = if main then codes "int" else (codes "'" ++ decimal class)

-- `  NAME : TYPE`, and this behind it, for a place that has a name
abbrev pub name_line : (main : Bool) → Option Name → Ty → (rest : List ℕ) → List ℕ
name_line main name t rest = of_one (λ x. codes "  " ++ (x.text ++ (codes " : " ++ (type_name main t ++ (rest ++ codes "\n"))))) name

-- the lines of places from a number on, with what is said of each
abbrev pub name_lines : (main : Bool) → (said : ℕ → List ℕ) → ℕ → List PlaceEntry → List Ty → List ℕ
name_lines main said place (e ∷ es) (t ∷ ts) = name_line main e.name t (said place) ++ name_lines main said (place + 1) es ts
name_lines main said place es ts = []

-- the first place that a place reads, if it reads any
abbrev pub first_operand : PlacedNode → ℕ → Option ℕ
first_operand n place = option_and_then (λ entry. slice_get (operands_of entry.kind) 0) (at_one n.places place)

-- ` size S`, and ` at most B`, where a bound is written
abbrev pub size_part : ℕ → Option ℕ → List ℕ
size_part size bound = codes " size " ++ (decimal size ++ of_one (λ most. codes " at most " ++ decimal most) bound)

-- `  buffer N : WORD1 <: WORD2 size S`, with the words of its operand and of its place, and with its bound
abbrev pub buffer_line : PlacedNode → Assignment → (number place size : ℕ) → List ℕ
buffer_line n w number place size =
    codes "  buffer " ++ (decimal number ++ (codes " : " ++ (text_of (w (unwrap_or (first_operand n place) 0)) ++ (codes " <: " ++ (text_of (w place)
    ++ (size_part size (bound_of n number) ++ codes "\n"))))))

-- the lines of buffers from a number on
abbrev pub buffer_lines : PlacedNode → Assignment → ℕ → List ℕ → List ℕ → List ℕ
buffer_lines n w number (p ∷ ps) (s ∷ ss) = buffer_line n w number p s ++ buffer_lines n w (number + 1) ps ss
buffer_lines n w number ps ss = []

-- `  call N : NODE at WORD`, with the word of its base
abbrev pub call_line : List PlacedNode → (number : ℕ) → CallSite → Bits → List ℕ
call_line nodes number site w = codes "  call " ++ (decimal number ++ (codes " : " ++ (of_one (λ n. n.name.text) (slice_get nodes site.node) ++ (codes " at " ++ (text_of w ++ codes "\n")))))

-- the lines of calls from a number on
abbrev pub call_lines : List PlacedNode → PlacedNode → Assignment → ℕ → List CallSite → List ℕ
call_lines nodes n w number [] = []
call_lines nodes n w number (site ∷ sites) = call_line nodes number site (w (call_clock n number)) ++ call_lines nodes n w (number + 1) sites

-- the lines of a node, main or another, with these types and clocks
abbrev pub node_lines : List PlacedNode → (main : Bool) → PlacedNode → List Ty → NodeClock → List ℕ
node_lines nodes main n ts c =
    let w : Assignment = assigned c.words in
    node_line n ++ (name_lines main (λ place. codes " :: " ++ text_of (w place)) 1 n.places ts
    ++ (buffer_lines n w 1 n.buffers c.sizes ++ call_lines nodes n w 1 n.calls))

-- the lines of nodes, of all that there are; main has none behind it
abbrev pub node_reports : List PlacedNode → List PlacedNode → List (List Ty) → List NodeClock → List ℕ
node_reports nodes (n ∷ ns) (ts ∷ tables) (c ∷ clocks) = node_lines nodes (length ns == 0) n ts c ++ node_reports nodes ns tables clocks
node_reports nodes ns tables clocks = []

-- the report of a program
abbrev pub report : List PlacedNode → List (List Ty) → List NodeClock → List ℕ
report nodes tables clocks = node_reports nodes nodes tables clocks

-- what a report asks of a program: each node has types, and clocks with a size for each buffer
pub record IsReportable (nodes : List PlacedNode) (tables : List (List Ty)) (clocks : List NodeClock) : Type 0 where
  pub typed : IsTyped nodes tables
  pub all : length clocks ≡ length nodes
  pub sizes : (i : ℕ) (n : PlacedNode) (c : NodeClock) → slice_get nodes i ≡ Some n → slice_get clocks i ≡ Some c → length c.sizes ≡ length n.buffers

-- each buffer's size is at most its bound, where one is written
abbrev pub AreBounded : List PlacedNode → List NodeClock → Type 0
AreBounded nodes clocks =
    (i k most size : ℕ) (n : PlacedNode) (c : NodeClock) → slice_get nodes i ≡ Some n → slice_get clocks i ≡ Some c
    → bound_of n k ≡ Some most → at_one c.sizes k ≡ Some size → size ≤ most
