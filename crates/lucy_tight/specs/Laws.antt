-- There is one least size of a buffer.
use Rattle.std.specs.Prelude.{ℕ, ◌≡◌, List}
use Rattle.lucy_host.specs.Operators.{Operator}
use Rattle.lucy_need.specs.Meeting.{Assignment}
use Rattle.lucy_need.specs.declared.need.Needs.{Needs}
use Rattle.lucy_shape.specs.declared.shape.Shape.{Shape}
use Rattle.lucy_program.specs.declared.accepted.Accepted.{Accepted}
use Rattle.lucy_program.specs.declared.options.Options.{Options}
use Rattle.lucy_program.specs.Accepting.{IsAccepted}
use Rattle.lucy_tight.specs.declared.answer.Least.{Least}
use Rattle.lucy_tight.specs.declared.answer.TightError.{TightError}
use Rattle.lucy_tight.specs.Tightening.{IsTightestAssignment, IsTightened, RefusesTight, AreAlike}

-- a buffer has one least size, and what is told of it is one answer but for the cycle, or one reason why nothing is told
pub record OneTightest : Type 0 where
  pub least : (needs : Needs) (shape : Shape) (from to one two : ℕ) (v w : Assignment) → IsTightestAssignment needs shape from to one v →
      IsTightestAssignment needs shape from to two w → one ≡ two
  pub alike : (ops : List Operator) (text : List ℕ) (a : Accepted) (o : Options) (node buffer : ℕ) (one two : Least) →
      IsAccepted ops o text a → IsTightened a o node buffer one → IsTightened a o node buffer two → AreAlike one two
  pub kept : (a : Accepted) (o : Options) (node buffer : ℕ) (t : Least) (e : TightError) → IsTightened a o node buffer t →
      RefusesTight a o node buffer e → ⊥
  pub only : (a : Accepted) (o : Options) (node buffer : ℕ) (e f : TightError) → RefusesTight a o node buffer e →
      RefusesTight a o node buffer f → e ≡ f
