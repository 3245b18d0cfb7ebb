-- What the laws of inferred clocks say.
use Rattle.std.specs.Prelude.{ℕ, ◌≡◌, List}
use Rattle.lucy_word.specs.Bits.{Bits}
use Rattle.lucy_word.specs.Always.{always}
use Rattle.lucy_need.specs.Meeting.{assigned, MeetsAll}
use Rattle.lucy_need.specs.declared.need.Needs.{Needs}
use Rattle.lucy_check.specs.Passing.{AllWithinLimits}
use Rattle.lucy_inference.specs.Inference.{IsInference}
use Rattle.lucy_inference.specs.Refusals.{RefusesInference, AreAlike}
use Rattle.lucy_inference.specs.declared.refusal.Uninferred.{Uninferred}

-- the words and the sizes that are inferred are one
abbrev pub OneInferenceLaw : Type 0
OneInferenceLaw = (needs : Needs) (scale lead : ℕ) (xs ys : List Bits) (ss ts : List ℕ) → IsInference needs scale lead xs ss → IsInference needs scale lead ys ts → (xs ≡ ys) × (ss ≡ ts)

-- what is inferred isn't refused
abbrev pub OneOutcomeLaw : Type 0
OneOutcomeLaw = (needs : Needs) (scale lead : ℕ) (xs : List Bits) (ss : List ℕ) (e : Uninferred) → IsInference needs scale lead xs ss → RefusesInference needs scale lead e → ⊥

-- refusals are of one kind
abbrev pub OneRefusalLaw : Type 0
OneRefusalLaw = (needs : Needs) (scale lead : ℕ) (e f : Uninferred) → RefusesInference needs scale lead e → RefusesInference needs scale lead f → AreAlike e f

-- words that are inferred meet the needs
abbrev pub MetLaw : Type 0
MetLaw = (needs : Needs) (scale lead : ℕ) (words : List Bits) (sizes : List ℕ) → IsInference needs scale lead words sizes → MeetsAll (assigned words) needs.list

-- within the limits of the checker
abbrev pub WithinLaw : Type 0
WithinLaw = (needs : Needs) (scale lead : ℕ) (words : List Bits) (sizes : List ℕ) → IsInference needs scale lead words sizes → AllWithinLimits (assigned words) needs.list

-- with (1) for the base
abbrev pub BaseLaw : Type 0
BaseLaw = (needs : Needs) (scale lead : ℕ) (words : List Bits) (sizes : List ℕ) → IsInference needs scale lead words sizes → assigned words 0 ≡ always
