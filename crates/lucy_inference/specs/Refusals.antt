-- Why no clocks are inferred. Limits are looked at in this order: Rate, Positions, Inequalities, Word, Bits, and then those of the
-- checker, Word and Compare, need by need. What else is wrong with the needs comes between them.
use Rattle.std.specs.Prelude.{ℕ, ◌<◌, ◌≡◌, ◌⊎◌, List, length}
use Rattle.lucy_word.specs.Bits.{Bits}
use Rattle.lucy_word.specs.Limits.{limit_number}
use Rattle.lucy_word.specs.declared.limit.Limit.{Limit}
use Rattle.lucy_word.specs.declared.limit.Limit.TheVariants as limit
use Rattle.lucy_need.specs.Meeting.{Assignment, assigned, word_bits}
use Rattle.lucy_need.specs.declared.need.Needs.{Needs}
use Rattle.lucy_check.specs.Passing.{IsFirstRefusal}
use Rattle.lucy_check.specs.declared.fault.CheckFault.TheVariants as check
use Rattle.lucy_solve.specs.System.{IsNegativeCycle, most_inequalities}
use Rattle.lucy_shape.specs.declared.shape.Shape.{Shape}
use Rattle.lucy_shape.specs.declared.shape.RateFault.TheVariants as fault
use Rattle.lucy_shape.specs.Inequalities.{inequalities, system_of}
use Rattle.lucy_rates.specs.Vectors.{IsShapeOf, HasNoShape}
use Rattle.lucy_inference.specs.declared.refusal.Uninferred.{Uninferred}
use Rattle.lucy_inference.specs.declared.refusal.Uninferred.TheVariants.{Rates, Clocks, Limit as LimitPassed, OutOfMemory}
use Rattle.lucy_inference.specs.Earliest.{FitsAndMeets, IsEarliestAssignment, AreEarliestWords}
use Rattle.lucy_inference.specs.Inference.{AreFewInequalities, HasLongClock, AreInferredWords}

-- memory ran out, or else
abbrev pub OrNoMemory : (Uninferred → Type 0) → Uninferred → Type 0
OrNoMemory P e = (e ≡ OutOfMemory) ⊎ P e

-- the earliest assignment has a clock whose word is too long
pub record IsWrittenTooLong (needs : Needs) (shape : Shape) : Type 0 where
  pub inequalities : AreFewInequalities needs shape
  pub words : Assignment
  pub earliest : IsEarliestAssignment needs shape words
  pub long : HasLongClock shape words

-- its words are short, but have too many bits together
pub record HasTooManyBits (needs : Needs) (shape : Shape) : Type 0 where
  pub inequalities : AreFewInequalities needs shape
  pub words : List Bits
  pub earliest : AreEarliestWords needs shape words
  pub short : HasLongClock shape (assigned words) → ⊥
  pub many : limit_number limit.Bits < word_bits words

-- its words pass those limits, but one of the checker is passed, at the first need that it refuses
pub record IsCheckedTooLong (needs : Needs) (shape : Shape) (l : Limit) : Type 0 where
  pub words : List Bits
  pub are : AreInferredWords needs shape words
  pub need : ℕ
  pub refused : IsFirstRefusal (assigned words) needs.list (check.Limit need l)

-- the limit that is passed in the shape
abbrev pub PassesLimitIn : Needs → Shape → Limit → Type 0
PassesLimitIn needs shape l =
    ((l ≡ limit.Inequalities) × (most_inequalities < length (inequalities needs shape)))
    ⊎ ((l ≡ limit.Word) × IsWrittenTooLong needs shape)
    ⊎ ((l ≡ limit.Bits) × HasTooManyBits needs shape)
    ⊎ IsCheckedTooLong needs shape l

-- the inequalities of the needs in the shape are few enough, and no assignment fits it and meets the needs; the cycle shows it
pub record HasNoClocks (needs : Needs) (shape : Shape) (cycle : List ℕ) : Type 0 where
  pub inequalities : AreFewInequalities needs shape
  pub shown : IsNegativeCycle (system_of needs shape).list cycle
  pub none : (w : Assignment) → FitsAndMeets needs shape w → ⊥

-- why there are no clocks in the shape
abbrev pub RefusesIn : Needs → Shape → Uninferred → Type 0
RefusesIn needs shape (Clocks told diffs cycle) = (told ≡ shape) × (diffs ≡ system_of needs shape) × HasNoClocks needs shape cycle.items
RefusesIn needs shape (LimitPassed l) = PassesLimitIn needs shape l
RefusesIn needs shape e = ⊥

-- why there is no shape
abbrev pub RefusesShape : Needs → ℕ → ℕ → Uninferred → Type 0
RefusesShape needs scale lead (Rates walk) = HasNoShape needs scale lead (fault.Unequal walk)
RefusesShape needs scale lead (LimitPassed l) = HasNoShape needs scale lead (fault.Limit l)
RefusesShape needs scale lead e = ⊥

-- why no clocks are inferred with this scale and this lead: there is no shape, or no clocks in it
abbrev pub RefusesInference : Needs → ℕ → ℕ → Uninferred → Type 0
RefusesInference needs scale lead e =
    RefusesShape needs scale lead e ⊎ ((shape : Shape) × IsShapeOf needs scale lead shape × RefusesIn needs shape e)

-- the refusals tell the same: the same walk, or the same shape and inequalities, whatever the cycle, or the same limit
abbrev pub AreAlike : Uninferred → Uninferred → Type 0
AreAlike (Rates one) (Rates two) = one.items ≡ two.items
AreAlike (Clocks shape diffs cycle) (Clocks other others round) = (shape ≡ other) × (diffs ≡ others)
AreAlike (LimitPassed one) (LimitPassed two) = one ≡ two
AreAlike one two = ⊥
