-- The least size of one buffer that clocks of a shape reach: the buffer is written on clock `from` and read on clock `to`, both alone
-- in its need. The search for it is this project's own; sizes of buffers are those of Mandel, Plateau and Pouzet 2010.
use Rattle.std.specs.Prelude.{ℕ, ◌-◌, ◌<◌, ◌≡◌, ◌⊎◌, List, [], length, ℤ}
use Rattle.lucy_word.specs.declared.limit.Limit.TheVariants as limit
use Rattle.lucy_word.specs.Bits.{Bits}
use Rattle.lucy_need.specs.declared.need.Needs.{Needs}
use Rattle.lucy_solve.specs.System.{DifferenceSystem, Solves, HasNoSolution, IsEarliest, IsNegativeCycle, most_inequalities}
use Rattle.lucy_shape.specs.declared.shape.Shape.{Shape}
use Rattle.lucy_shape.specs.declared.shape.RateFault.TheVariants as fault
use Rattle.lucy_shape.specs.Writing.{AreAnswered, AreRefused}
use Rattle.lucy_shape.specs.Sized.{sized_inequalities, sized_system}
use Rattle.lucy_tight.specs.declared.answer.TightError.{TightError}
use Rattle.lucy_tight.specs.declared.answer.TightError.TheVariants.{Limit as LimitPassed}

-- the least size for which the inequalities have a solution
pub record IsLeast (needs : Needs) (shape : Shape) (from to least : ℕ) : Type 0 where
  pub solved : (xs : List ℤ) × Solves (sized_system needs shape from to least) xs
  pub none : (size : ℕ) → size < least → HasNoSolution (sized_system needs shape from to size)

-- the inequalities, as many for every size, are more than a list may have
abbrev pub HasTooManyInequalities : Needs → Shape → (from to : ℕ) → Type 0
HasTooManyInequalities needs shape from to = most_inequalities < length (sized_inequalities needs shape from to 0)

-- the earliest solution for the least size, where the inequalities are few enough
pub record IsEarliestAtLeast (needs : Needs) (shape : Shape) (from to least : ℕ) (xs : List ℤ) : Type 0 where
  pub few : HasTooManyInequalities needs shape from to → ⊥
  pub is : IsLeast needs shape from to least
  pub earliest : IsEarliest (sized_system needs shape from to least) xs

-- the least size, the words of the earliest solution for it, and a negative cycle of the inequalities for one less: for size 0 those
-- for 0, and no cycle
pub record IsTightest (needs : Needs) (shape : Shape) (from to least : ℕ) (words : List Bits) (diffs : DifferenceSystem) (cycle : List ℕ) : Type 0 where
  pub positions : List ℤ
  pub at : IsEarliestAtLeast needs shape from to least positions
  pub answered : AreAnswered shape positions words
  pub less : diffs ≡ sized_system needs shape from to (least - 1)
  pub shown : 0 < least → IsNegativeCycle diffs.list cycle
  pub none : least ≡ 0 → cycle ≡ []

-- why nothing is told: the inequalities are too many, else the words of the earliest solution for the least size pass a limit, Word
-- before Bits
abbrev pub RefusesTightest : Needs → Shape → (from to : ℕ) → TightError → Type 0
RefusesTightest needs shape from to (LimitPassed l) =
    ((l ≡ limit.Inequalities) × HasTooManyInequalities needs shape from to)
    ⊎ ((least : ℕ) × (xs : List ℤ) × IsEarliestAtLeast needs shape from to least xs × AreRefused shape xs (fault.Limit l))
RefusesTightest needs shape from to e = ⊥
