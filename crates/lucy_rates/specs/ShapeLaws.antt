-- What holds of the shapes of needs, and of what stands in their place.
use Rattle.std.specs.Prelude.{ℕ, ◌<◌, ◌≤◌, ◌≡◌, Vec}
use Rattle.std.specs.Global.{Global}
use Rattle.std.specs.List.{AllByRecursion}
use Rattle.lucy_word.specs.declared.limit.Limit.{Limit}
use Rattle.lucy_need.specs.Meeting.{AreProperNeeds}
use Rattle.lucy_need.specs.Stored.{HasWords}
use Rattle.lucy_need.specs.declared.need.Needs.{Needs}
use Rattle.lucy_shape.specs.declared.shape.Shape.{Shape}
use Rattle.lucy_shape.specs.declared.shape.RateFault.{RateFault}
use Rattle.lucy_shape.specs.declared.shape.RateFault.TheVariants as fault
use Rattle.lucy_shape.specs.Fitting.{IsShapeFor}
use Rattle.lucy_rates.specs.Vectors.{IsWideShape, IsShapeOf, HasNoShape}

-- needs have one shape at most, however wide
abbrev pub OneWideShapeLaw : Type 0
OneWideShapeLaw = (needs : Needs) (scale lead : ℕ) (first second : Shape) → IsWideShape needs scale lead first → IsWideShape needs scale lead second → first ≡ second

-- so they have one shape
abbrev pub OneShapeLaw : Type 0
OneShapeLaw = (needs : Needs) (scale lead : ℕ) (first second : Shape) → IsShapeOf needs scale lead first → IsShapeOf needs scale lead second → first ≡ second

-- the shape of needs carries them
abbrev pub CarriesLaw : Type 0
CarriesLaw = (needs : Needs) (scale lead : ℕ) (shape : Shape) → AreProperNeeds needs → AllByRecursion HasWords needs.list → 0 < scale → scale ≤ 64 → IsShapeOf needs scale lead shape → IsShapeFor needs shape

-- where needs have a shape nothing but want of memory stands in its place
abbrev pub ShapeOrNoneLaw : Type 0
ShapeOrNoneLaw = (needs : Needs) (scale lead : ℕ) (shape : Shape) (e : RateFault) → IsShapeOf needs scale lead shape → HasNoShape needs scale lead e → e ≡ fault.OutOfMemory

-- needs pass one limit at most
abbrev pub OneLimitLaw : Type 0
OneLimitLaw = (needs : Needs) (scale lead : ℕ) (first second : Limit) → HasNoShape needs scale lead (fault.Limit first) → HasNoShape needs scale lead (fault.Limit second) → first ≡ second

-- and none where a walk shows that they aren't balanced
abbrev pub LimitOrWalkLaw : Type 0
LimitOrWalkLaw = (needs : Needs) (scale lead : ℕ) (l : Limit) (walk : Vec ℕ Global) → HasNoShape needs scale lead (fault.Limit l) → HasNoShape needs scale lead (fault.Unequal walk) → ⊥
