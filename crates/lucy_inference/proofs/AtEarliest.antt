-- What the earliest solution of the inequalities, or that there is none, says of the assignments.
use Rattle.std.proofs.Common.{◌≡◌, ℕ, ◌<◌, ◌≤◌, length, List, ℤ, inl, inr, sym, subst, arith}
use Rattle.std.specs.List.{AllByRecursion}
use Rattle.std.proofs.lemmas.Bool.{cases_lt}
use Rattle.lucy_word.specs.Bits.{Bits, IsWord, most_bits}
use Rattle.lucy_word.specs.Always.{always}
use Rattle.lucy_word.specs.Shortest.{Same}
use Rattle.lucy_word.proofs.IndexLaws.{IsIndex-one, IsIndex-same}
use Rattle.lucy_word.proofs.ShortLaws.{same_sym, same_trans}
use Rattle.lucy_need.specs.Meeting.{Assignment}
use Rattle.lucy_need.specs.Stored.{HasWords}
use Rattle.lucy_need.specs.declared.need.Needs.{Needs}
use Rattle.lucy_solve.specs.System.{IsEarliest, HasNoSolution}
use Rattle.lucy_shape.specs.declared.shape.Shape.{Shape}
use Rattle.lucy_shape.specs.Index.{index_of}
use Rattle.lucy_shape.specs.Fitting.{IsLaidOut, IsShapeFor, IsFitting, ArePositions}
use Rattle.lucy_shape.specs.Inequalities.{system_of, SolvesShape}
use Rattle.lucy_shape.specs.Writing.{HasLongWord}
use Rattle.lucy_shape.proofs.WordIndex.{place_law}
use Rattle.lucy_shape.proofs.Meeting.{meeting_law}
use Rattle.lucy_shape.proofs.Fitting.{positions_law, fitting_law}
use Rattle.lucy_shape.proofs.Earlier.{earlier_law}
use Rattle.lucy_shape.proofs.Writings.{written_law}
use Rattle.lucy_inference.specs.Earliest.{FitsAndMeets, IsEarliestAssignment}
use Rattle.lucy_inference.specs.Inference.{HasLongClock}
use Rattle.lucy_inference.specs.Stages.{AreAllUsed}

-- words that are the same have their ones at the same places
places_same : (v w : Bits) (number : ℕ) → IsWord v → IsWord w → Same v w → index_of v number ≡ index_of w number
places_same v w number is_v is_w same =
    IsIndex-one w number (index_of v number) (index_of w number) (IsIndex-same v w number (index_of v number) same (place_law v number is_v)) (place_law w number is_w)

-- so has the base, in all assignments that fit
pub base_at : (shape : Shape) (v w : Assignment) (number : ℕ) → IsFitting shape v → IsFitting shape w → 0 < length shape.clocks → index_of (v 0) number ≡ index_of (w 0) number
base_at shape v w number first second some =
    places_same (v 0) (w 0) number (first.words 0 some) (second.words 0 some) (same_trans (v 0) always (w 0) first.base (same_sym (w 0) always second.base))

module _ (needs : Needs) (shape : Shape) (words : AllByRecursion HasWords needs.list) (carries : IsShapeFor needs shape) where
  -- where the inequalities have no solution no assignment fits and meets the needs
  pub no_assignment : HasNoSolution (system_of needs shape) → (w : Assignment) → FitsAndMeets needs shape w → ⊥
  no_assignment none w is =
      let at = positions_law shape w carries.laid in
      none at.0 ((meeting_law needs shape w at.0 words carries is.fits at.1).0 is.meets)

  -- an assignment that has its ones at the earliest solution is the earliest
  pub earliest_at : (w : Assignment) (xs : List ℤ) → AreAllUsed shape → IsEarliest (system_of needs shape) xs → IsFitting shape w → ArePositions shape w xs →
      IsEarliestAssignment needs shape w
  earliest_at w xs used best fits at = record {
    is = record { fits = fits; meets = (meeting_law needs shape w xs words carries fits at).1 best.solves };
    earliest = λ other is clock number within.
        let inside : clock < length shape.clocks = subst (λ n. clock < n) (sym carries.clocks) within in
        elim (cases_lt 0 clock) [
          | inl some ↦
              let there = positions_law shape other carries.laid in
              let solves = (meeting_law needs shape other there.0 words carries is.fits there.1).0 is.meets in
              earlier_law shape w other xs there.0 carries.laid fits is.fits at there.1 (λ i. best.least there.0 solves i) clock (used clock some inside) number
          | inr none ↦
              let base : clock ≡ 0 = omega arith in
              let e : index_of (w 0) number ≡ index_of (other 0) number = base_at shape w other number fits is.fits (omega arith) in
              subst (λ c. index_of (w c) number ≤ index_of (other c) number) (sym base) (omega arith)
        ];
  }

  -- and there is one at each solution
  pub found_at : (xs : List ℤ) → SolvesShape shape xs → (w : Assignment) × IsFitting shape w × ArePositions shape w xs
  found_at xs solves = fitting_law shape xs carries.laid solves

-- a word is written too long exactly where it is too long
module _ (shape : Shape) (w : Assignment) (xs : List ℤ) (laid : IsLaidOut shape) (at : ArePositions shape w xs) where
  pub long_from : HasLongWord shape xs → HasLongClock shape w
  long_from long = (long.0, long.1, subst (λ n. most_bits < n) (written_law shape w xs long.0 laid at long.1) long.2)

  pub long_to : HasLongClock shape w → HasLongWord shape xs
  long_to long = (long.0, long.1, subst (λ n. most_bits < n) (sym (written_law shape w xs long.0 laid at long.1)) long.2)
