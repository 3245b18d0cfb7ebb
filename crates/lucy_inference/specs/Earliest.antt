-- The assignment that is inferred: of those that meet needs and fit a shape, the earliest. The choice of the shape, and of the
-- earliest, are this project's own profile of Lucy-n (Mandel, Plateau and Pouzet 2010).
use Rattle.std.specs.Prelude.{ℕ, ◌<◌, ◌≤◌, ◌≡◌, List, length}
use Rattle.std.specs.List.{AllByRecursion}
use Rattle.lucy_word.specs.Bits.{Bits}
use Rattle.lucy_word.specs.Shortest.{IsShortest}
use Rattle.lucy_need.specs.Meeting.{Assignment, MeetsAll, assigned}
use Rattle.lucy_need.specs.declared.need.Needs.{Needs}
use Rattle.lucy_shape.specs.declared.shape.Shape.{Shape}
use Rattle.lucy_shape.specs.Index.{index_of}
use Rattle.lucy_shape.specs.Fitting.{IsFitting}

-- an assignment that fits the shape, with (1) for the base, and meets the needs
pub record FitsAndMeets (needs : Needs) (shape : Shape) (w : Assignment) : Type 0 where
  pub fits : IsFitting shape w
  pub meets : MeetsAll w needs.list

-- the earliest: no other one has any one of any clock earlier
pub record IsEarliestAssignment (needs : Needs) (shape : Shape) (w : Assignment) : Type 0 where
  pub is : FitsAndMeets needs shape w
  pub earliest : (other : Assignment) → FitsAndMeets needs shape other → (clock number : ℕ) → clock < needs.clocks →
      index_of (w clock) number ≤ index_of (other clock) number

-- its words, one for each clock and in shortest form
pub record AreEarliestWords (needs : Needs) (shape : Shape) (words : List Bits) : Type 0 where
  pub count : length words ≡ needs.clocks
  pub shortest : AllByRecursion IsShortest words
  pub earliest : IsEarliestAssignment needs shape (assigned words)
