-- What the writing of output lines keeps: how far each output was walked along, and which lines wait.
use Rattle.std.specs.Prelude.{ℕ, ℤ, ◌+◌, ◌-◌, ◌<◌, ◌≤◌, ◌≡◌, List, [], ◌∷◌, ◌++◌, Option, Some, None, length, drop, slice_get, slice_index_or, if◌then◌else◌}
use Rattle.lucy_word.specs.Bits.{Bits, bit_at, ones_to, one_if}
use Rattle.lucy_lines.specs.Written.{LinesState}
use Rattle.lucy_lines.specs.declared.output.OutputSpec.{OutputSpec}
use Rattle.lucy_lines.specs.Outputs.{line_with_value}
use Rattle.lucy_text.specs.Outside.{SeenSink, Writes}

-- an output with what is left of its word, and how many items of its list are behind
pub record WalkState : Type 0 where
  pub output : OutputSpec
  pub bits : Bits
  pub place : ℕ

-- its value at the next instant, in its list
abbrev pub next_value : WalkState → (items : List ℤ) → Option ℤ
next_value w items = if bit_at w.bits 1 then slice_get items w.place else None

-- what is left one instant later, by its list
pub record IsStepped (items : List ℤ) (before after : WalkState) : Type 0 where
  pub output : after.output ≡ before.output
  pub bits : (i : ℕ) → 0 < i → bit_at after.bits i ≡ bit_at before.bits (i + 1)
  pub rest : drop after.place items ≡ drop (one_if (bit_at before.bits 1)) (drop before.place items)

-- the lines of the next instant, by the lists
unfoldable pub next_lines : List WalkState → (lists : List (List ℤ)) → List ℕ
next_lines [] lists = []
next_lines (w ∷ walks) [] = []
next_lines (w ∷ walks) (items ∷ lists) = line_with_value w.output (next_value w items) ++ next_lines walks lists

-- all are left one instant later
abbrev pub AreStepped : (lists : List (List ℤ)) → List WalkState → List WalkState → Type 0
AreStepped lists before after = (k : ℕ) (w v : WalkState) → slice_get before k ≡ Some w → slice_get after k ≡ Some v → IsStepped (slice_index_or lists k []) w v

-- the line of each value of an output fits the room
abbrev pub FitsRoom : OutputSpec → (room : ℕ) → Type 0
FitsRoom o room = length o.name + 22 ≤ room

-- those of all outputs that are walked along
abbrev pub FitRoom : List WalkState → (room : ℕ) → Type 0
FitRoom walks room = (k : ℕ) (w : WalkState) → slice_get walks k ≡ Some w → FitsRoom w.output room

-- an output is walked along so many instants
pub record IsWalkedTo (t : ℕ) (o : OutputSpec) (w : WalkState) : Type 0 where
  pub output : w.output ≡ o
  pub bits : (i : ℕ) → 0 < i → bit_at w.bits i ≡ bit_at o.word (t + i)

-- all outputs are
pub record AreAt (t : ℕ) (outputs : List OutputSpec) (walks : List WalkState) : Type 0 where
  pub count : length walks ≡ length outputs
  pub each : (k : ℕ) (o : OutputSpec) (w : WalkState) → slice_get outputs k ≡ Some o → slice_get walks k ≡ Some w → IsWalkedTo t o w

-- so is one whose list lacks the values of the first instants: what is left of the list
pub record IsWalked (before t : ℕ) (o : OutputSpec) (list : List ℤ) (w : WalkState) : Type 0 where
  pub at : IsWalkedTo t o w
  pub rest : drop w.place list ≡ drop (ones_to o.word t - ones_to o.word before) list

-- what is left of the lists of all outputs
pub record AreWalked (before t : ℕ) (outputs : List OutputSpec) (lists : List (List ℤ)) (walks : List WalkState) : Type 0 where
  pub count : length walks ≡ length outputs
  pub each : (k : ℕ) (o : OutputSpec) (w : WalkState) → slice_get outputs k ≡ Some o → slice_get walks k ≡ Some w → IsWalked before t o (slice_index_or lists k []) w

-- of a text, a front was written to a sink, which isn't called before a piece is full, and the rest waits in lines
pub record Gathers {K : Type 0} (before after : K) (seen now : SeenSink) (lines : LinesState) (text : List ℕ) : Type 0 where
  pub done : List ℕ
  pub written : Writes seen now done
  pub untouched : done ≡ [] → after ≡ before
  pub all : done ++ lines.bytes ≡ text

-- of outputs that are walked along, the first so many are left one instant later, and the others as they were
pub record AreSteppedTo (lists : List (List ℤ)) (before now : List WalkState) (count : ℕ) : Type 0 where
  pub stepped : (k : ℕ) (w v : WalkState) → k < count → slice_get before k ≡ Some w → slice_get now k ≡ Some v → IsStepped (slice_index_or lists k []) w v
  pub others : (k : ℕ) → count ≤ k → slice_get now k ≡ slice_get before k

-- what holds between the writing of one block and the next: the walks stand at the instant, each line fits, and none waits
pub record IsBetweenBlocks (instants : ℕ) (outputs : List OutputSpec) (walks : List WalkState) (lines : LinesState) : Type 0 where
  pub at : AreAt instants outputs walks
  pub fit : FitRoom walks lines.room
  pub none : lines.bytes ≡ []
