-- What the steps of the inference ask of a shape, and what they make of an error.
use Rattle.std.specs.Prelude.{ℕ, ◌<◌, List, length}
use Rattle.lucy_word.specs.Bits.{Bits}
use Rattle.lucy_need.specs.Meeting.{assigned}
use Rattle.lucy_need.specs.declared.need.Needs.{Needs}
use Rattle.lucy_check.specs.Passing.{PassesAll}
use Rattle.lucy_shape.specs.declared.shape.Shape.{Shape}
use Rattle.lucy_shape.specs.declared.shape.RateFault.{RateFault}
use Rattle.lucy_shape.specs.declared.shape.RateFault.TheVariants as fault
use Rattle.lucy_shape.specs.Fitting.{IsUsed}
use Rattle.lucy_inference.specs.declared.refusal.Uninferred.{Uninferred}
use Rattle.lucy_inference.specs.declared.refusal.Uninferred.TheVariants.{Rates, Limit as LimitPassed, OutOfMemory}
use Rattle.lucy_inference.specs.Inference.{AreInferredWords}

-- each clock but the base has positions
abbrev pub AreAllUsed : Shape → Type 0
AreAllUsed shape = (clock : ℕ) → 0 < clock → clock < length shape.clocks → IsUsed shape.clocks clock

-- words and sizes that are inferred in a shape
pub record IsInferenceIn (needs : Needs) (shape : Shape) (words : List Bits) (sizes : List ℕ) : Type 0 where
  pub are : AreInferredWords needs shape words
  pub passes : PassesAll (assigned words) needs.list sizes

-- the refusal where there is no shape, no inequalities or no words for this reason
abbrev pub of_rates : RateFault → Uninferred
of_rates (fault.Unequal walk) = Rates walk
of_rates (fault.Limit l) = LimitPassed l
of_rates fault.OutOfMemory = OutOfMemory
