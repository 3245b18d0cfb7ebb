-- What the earliest solution for the least size says of the assignments.
use Rattle.std.proofs.Common.{◌≡◌, ℕ, ◌<◌, ◌≤◌, length, List, ℤ, inl, inr, sym, subst, ◌∙◌, arith}
use Rattle.std.specs.List.{AllByRecursion, Contains}
use Rattle.std.proofs.lemmas.Bool.{cases_lt}
use Rattle.std.proofs.lemmas.List.Elements.{recursion_from_All, All-from_get_or}
use Rattle.lucy_word.specs.Bits.{Bits}
use Rattle.lucy_word.specs.Always.{always}
use Rattle.lucy_word.specs.Shortest.{IsShortest}
use Rattle.lucy_need.specs.Meeting.{Assignment, alone, assigned}
use Rattle.lucy_need.specs.Stored.{HasWords}
use Rattle.lucy_need.specs.declared.need.Need.TheVariants.{Adapt}
use Rattle.lucy_need.specs.declared.need.Needs.{Needs}
use Rattle.lucy_solve.specs.System.{DifferenceSystem, IsEarliest}
use Rattle.lucy_shape.specs.declared.shape.Shape.{Shape}
use Rattle.lucy_shape.specs.Index.{index_of}
use Rattle.lucy_shape.specs.Fitting.{IsShapeFor, IsFitting, ArePositions}
use Rattle.lucy_shape.specs.Inequalities.{SolvesShape}
use Rattle.lucy_shape.specs.Sized.{sized_system}
use Rattle.lucy_shape.specs.Writing.{AreWordsOf, HasLongWord}
use Rattle.lucy_shape.proofs.Earlier.{earlier_law}
use Rattle.lucy_shape.proofs.Fitting.{positions_law}
use Rattle.lucy_shape.proofs.SizeLaws.{sized_law, fits_within, solves_table}
use Rattle.lucy_shape.proofs.Systems.{solves_front}
use Rattle.lucy_shape.proofs.Writings.{words_law}
use Rattle.lucy_rates.specs.Vectors.{IsShapeOf}
use Rattle.lucy_inference.specs.Inference.{HasLongClock}
use Rattle.lucy_inference.specs.Stages.{AreAllUsed}
use Rattle.lucy_inference.proofs.AtEarliest.{long_from, long_to, base_at}
use Rattle.lucy_tight.specs.declared.answer.TightError.{TightError}
use Rattle.lucy_tight.specs.declared.answer.TightError.TheVariants.{Fixed, Limit as LimitPassed, OutOfMemory}
use Rattle.lucy_tight.specs.Least.{IsLeast, IsEarliestAtLeast, IsTightest, RefusesTightest}
use Rattle.lucy_tight.specs.Tightening.{IsTightestAssignment, AreTightestWords, AreTight, PassesLimit}
use Rattle.lucy_tight.proofs.SizeLaws.{no_less}

-- each clock but the base has positions in the shape of needs
pub all_used : (needs : Needs) (scale lead : ℕ) (shape : Shape) → IsShapeOf needs scale lead shape → AreAllUsed shape
all_used needs scale lead shape is clock some inside =
    let within : clock < needs.clocks = subst (λ n. clock < n) is.wide.clocks inside in
    (inside, (is.wide.used clock within).1 (within, inl some))

module _ (needs : Needs) (shape : Shape) (from to : ℕ) (words : AllByRecursion HasWords needs.list) (carries : IsShapeFor needs shape)
    (has : Contains needs.list (Adapt (alone from) (alone to))) (used : AreAllUsed shape) where
  -- an assignment that has its ones at the earliest solution for the least size is the earliest for it
  tightest_at : (least : ℕ) (xs : List ℤ) (w : Assignment) → IsLeast needs shape from to least → IsEarliest (sized_system needs shape from to least) xs →
      IsFitting shape w → ArePositions shape w xs → IsTightestAssignment needs shape from to least w
  tightest_at least xs w smallest best fits at =
      let met = (sized_law needs shape w xs from to least words carries fits at has).1 best.solves in
      record {
        is = record { is = record { fits = fits; meets = met.0 }; within = met.1 };
        smallest = λ size other is. no_less needs shape from to words carries has least size other smallest is.is.fits (is.is.meets, is.within);
        earliest = λ other is clock number within.
            let inside : clock < length shape.clocks = subst (λ n. clock < n) (sym carries.clocks) within in
            elim (cases_lt 0 clock) [
              | inl some ↦
                  let there = positions_law shape other carries.laid in
                  let solves = (sized_law needs shape other there.0 from to least words carries is.is.fits there.1 has).0 (is.is.meets, is.within) in
                  earlier_law shape w other xs there.0 carries.laid fits is.is.fits at there.1 (λ i. best.least there.0 solves i) clock (used clock some inside) number
              | inr none ↦
                  let base : clock ≡ 0 = omega arith in
                  let e : index_of (w 0) number ≡ index_of (other 0) number = base_at shape w other number fits is.is.fits (omega arith) in
                  subst (λ c. index_of (w c) number ≤ index_of (other c) number) (sym base) (omega arith)
            ];
      }

  solved : (least : ℕ) (xs : List ℤ) → IsEarliestAtLeast needs shape from to least xs → SolvesShape shape xs
  solved least xs at = solves_front needs shape xs (solves_table needs shape xs from to least at.earliest.solves)

  -- so are the words that are written from it
  words_at : (least : ℕ) (xs : List ℤ) (ws : List Bits) → IsEarliestAtLeast needs shape from to least xs → AreWordsOf shape xs ws → AreTightestWords needs shape from to least ws
  words_at least xs ws at are =
      let law = words_law shape xs ws carries.laid (solved least xs at) are in
      record {
        count = are.size ∙ carries.clocks;
        shortest = recursion_from_All IsShortest ws (All-from_get_or IsShortest ws always law.2);
        tightest = tightest_at least xs (assigned ws) at.is at.earliest law.0 law.1;
      }

  short_at : (least : ℕ) (xs : List ℤ) (ws : List Bits) → IsEarliestAtLeast needs shape from to least xs → AreWordsOf shape xs ws → (HasLongWord shape xs → ⊥) →
      HasLongClock shape (assigned ws) → ⊥
  short_at least xs ws at are short long =
      short (long_to shape (assigned ws) xs carries.laid (words_law shape xs ws carries.laid (solved least xs at) are).1 long)

  pub tightest_from : (least : ℕ) (ws : List Bits) (d : DifferenceSystem) (cycle : List ℕ) → IsTightest needs shape from to least ws d cycle → AreTight needs shape from to least ws d cycle
  tightest_from least ws d cycle is = record {
    few = is.at.few;
    are = words_at least is.positions ws is.at is.answered.each;
    short = short_at least is.positions ws is.at is.answered.each is.answered.short;
    bits = is.answered.few;
    less = is.less;
    shown = is.shown;
    none = is.none;
  }

  -- and the limits that they pass
  pub limit_from : (e : TightError) → RefusesTightest needs shape from to e → PassesLimit needs shape from to e
  limit_from OutOfMemory refused = refused
  limit_from (Fixed size) refused = refused
  limit_from (LimitPassed l) (inl many) = inl many
  limit_from (LimitPassed l) (inr (least, xs, at, inl none)) = absurd (cc none)
  limit_from (LimitPassed l) (inr (least, xs, at, inr (inl long))) =
      let found = fits_within needs shape xs from to least words carries has at.earliest.solves in
      inr (at.few, least, inl (cc long.0, found.0, tightest_at least xs found.0 at.is at.earliest found.1 found.2, long_from shape found.0 xs carries.laid found.2 long.1))
  limit_from (LimitPassed l) (inr (least, xs, at, inr (inr many))) =
      inr (at.few, least, inr (cc many.0, many.2.0, words_at least xs many.2.0 at many.2.1, short_at least xs many.2.0 at many.2.1 many.1, many.2.2))
