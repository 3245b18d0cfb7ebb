-- Laws of output lines.
use Rattle.std.specs.Prelude.{ℕ, ◌+◌, ◌≤◌, ◌≡◌, ℤ, List, [], ◌++◌, length, take, drop, Some, slice_get, slice_index_or}
use Rattle.lucy_word.specs.Bits.{ones_to}
use Rattle.lucy_lines.specs.declared.output.OutputSpec.{OutputSpec}
use Rattle.lucy_lines.specs.Outputs.{instant_text, output_text, lines_after}

-- up to instant 0 there is no line, and one more instant puts its lines behind
abbrev pub InstantByInstant : Type 0
InstantByInstant = (outputs : List OutputSpec) (lists : List (List ℤ)) →
    (output_text outputs lists 0 ≡ []) × ((t : ℕ) → output_text outputs lists (t + 1) ≡ output_text outputs lists t ++ instant_text outputs lists (t + 1))

-- the text of more instants begins with that of fewer
abbrev pub TextsGrow : Type 0
TextsGrow = (outputs : List OutputSpec) (lists : List (List ℤ)) (t u : ℕ) → t ≤ u → (more : List ℕ) × (output_text outputs lists u ≡ output_text outputs lists t ++ more)

-- the lists begin with the same items, for each output as many as its word has ones up to the instant
pub record BeginAlike (outputs : List OutputSpec) (lists others : List (List ℤ)) (t : ℕ) : Type 0 where
  pub lengths : length lists ≡ length others
  pub fronts : (i : ℕ) (o : OutputSpec) → slice_get outputs i ≡ Some o →
      take (ones_to o.word t) (slice_index_or lists i []) ≡ take (ones_to o.word t) (slice_index_or others i [])

-- lists that begin with the same items have the same text
abbrev pub FrontsSuffice : Type 0
FrontsSuffice = (outputs : List OutputSpec) (lists others : List (List ℤ)) (t : ℕ) → BeginAlike outputs lists others t →
    output_text outputs lists t ≡ output_text outputs others t

-- the lists lack the values of so many instants, which the whole ones have in front
pub record AreRests (outputs : List OutputSpec) (whole rests : List (List ℤ)) (before : ℕ) : Type 0 where
  pub lengths : length rests ≡ length whole
  pub each : (i : ℕ) (o : OutputSpec) → slice_get outputs i ≡ Some o → slice_index_or rests i [] ≡ drop (ones_to o.word before) (slice_index_or whole i [])

-- the text of a run is that of its first instants, and then the lines of the others by what is left of the lists
abbrev pub BlockByBlock : Type 0
BlockByBlock = (outputs : List OutputSpec) (whole rests : List (List ℤ)) (before instants : ℕ) → before ≤ instants → AreRests outputs whole rests before →
    output_text outputs whole instants ≡ output_text outputs whole before ++ lines_after outputs rests before instants
