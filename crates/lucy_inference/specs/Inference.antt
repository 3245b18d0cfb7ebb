-- The words and the sizes of buffers that are inferred within the limits.
use Rattle.std.specs.Prelude.{ℕ, ◌+◌, ◌-◌, ◌<◌, ◌≤◌, List, length}
use Rattle.lucy_word.specs.Bits.{Bits, most_bits}
use Rattle.lucy_word.specs.Limits.{limit_number}
use Rattle.lucy_word.specs.declared.limit.Limit.TheVariants as limit
use Rattle.lucy_need.specs.Meeting.{Assignment, assigned, word_bits}
use Rattle.lucy_need.specs.declared.need.Needs.{Needs}
use Rattle.lucy_check.specs.Passing.{PassesAll}
use Rattle.lucy_solve.specs.System.{most_inequalities}
use Rattle.lucy_shape.specs.declared.shape.Shape.{Shape}
use Rattle.lucy_shape.specs.Index.{index_of}
use Rattle.lucy_shape.specs.Fitting.{IsUsed, clock_at}
use Rattle.lucy_shape.specs.Inequalities.{inequalities}
use Rattle.lucy_rates.specs.Vectors.{IsShapeOf}
use Rattle.lucy_inference.specs.Earliest.{AreEarliestWords}

-- the needs have no more inequalities in the shape than a node may have
abbrev pub AreFewInequalities : Needs → Shape → Type 0
AreFewInequalities needs shape = length (inequalities needs shape) ≤ most_inequalities

-- so many bits a clock's word has before it is shortened: those before its first one past the lead, and one period
abbrev pub written_bits : Shape → Assignment → ℕ → ℕ
written_bits shape w clock = index_of (w clock) ((clock_at shape.clocks clock).lead + 1) - 1 + shape.period

-- some clock's word has too many
abbrev pub HasLongClock : Shape → Assignment → Type 0
HasLongClock shape w = (clock : ℕ) × IsUsed shape.clocks clock × (most_bits < written_bits shape w clock)

-- the earliest words in the shape, and no limit is passed on the way to them
pub record AreInferredWords (needs : Needs) (shape : Shape) (words : List Bits) : Type 0 where
  pub inequalities : AreFewInequalities needs shape
  pub earliest : AreEarliestWords needs shape words
  pub short : HasLongClock shape (assigned words) → ⊥
  pub few : word_bits words ≤ limit_number limit.Bits

-- these in the shape that the needs have with this scale and this lead, and the sizes of the buffers, one for each adaptability in
-- order, within the limits of the checker
pub record IsInference (needs : Needs) (scale lead : ℕ) (words : List Bits) (sizes : List ℕ) : Type 0 where
  pub shape : Shape
  pub of_needs : IsShapeOf needs scale lead shape
  pub are : AreInferredWords needs shape words
  pub passes : PassesAll (assigned words) needs.list sizes
