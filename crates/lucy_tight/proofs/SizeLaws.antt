-- What a solution for one size says of other sizes, and of the assignments at it.
use Rattle.std.proofs.Common.{◌≡◌, ℕ, ◌-◌, ◌≤◌, List, ℤ, inl, inr, arith}
use Rattle.std.specs.List.{AllByRecursion, Contains}
use Rattle.std.proofs.lemmas.Bool.{cases_lt, cases_order}
use Rattle.lucy_word.specs.Bits.{Bits}
use Rattle.lucy_word.specs.Adaptable.{IsSize}
use Rattle.lucy_word.proofs.BitsLaws.{ones_to-none}
use Rattle.lucy_need.specs.Meeting.{Assignment, MeetsAll, alone, assigned}
use Rattle.lucy_need.specs.declared.need.Need.TheVariants.{Adapt}
use Rattle.lucy_need.specs.declared.need.Needs.{Needs}
use Rattle.lucy_solve.specs.System.{Solves, HasNoSolution}
use Rattle.lucy_shape.specs.declared.shape.Shape.{Shape}
use Rattle.lucy_need.specs.Stored.{HasWords}
use Rattle.lucy_shape.specs.Fitting.{IsShapeFor, IsFitting, ArePositions}
use Rattle.lucy_shape.specs.Sized.{sized_system, HasSizeWithin, MeetsWithin}
use Rattle.lucy_shape.specs.Writing.{AreWordsOf}
use Rattle.lucy_shape.proofs.Fitting.{positions_law}
use Rattle.lucy_shape.proofs.SizeLaws.{sized_law, fits_within, solves_table, within_or_more}
use Rattle.lucy_shape.proofs.Systems.{solves_front}
use Rattle.lucy_shape.proofs.Writings.{words_law}
use Rattle.lucy_tight.specs.Least.{IsLeast}

-- what keeps within a size keeps within a greater one
wider : (a b : Bits) (size more : ℕ) → size ≤ more → HasSizeWithin a b size → HasSizeWithin a b more
wider a b size more l h i = let x = h i in omega arith

module _ (needs : Needs) (shape : Shape) (from to : ℕ) (words : AllByRecursion HasWords needs.list) (is : IsShapeFor needs shape) (has : Contains needs.list (Adapt (alone from) (alone to))) where
  -- a solution for a size is one for each greater size
  pub solves_more : (size more : ℕ) (xs : List ℤ) → size ≤ more → Solves (sized_system needs shape from to size) xs → Solves (sized_system needs shape from to more) xs
  solves_more size more xs l solves =
      let f = fits_within needs shape xs from to size words is has solves in
      (sized_law needs shape f.0 xs from to more words is f.1 f.2 has).0 (f.3.0, wider (f.0 from) (f.0 to) size more l f.3.1)

  -- so where there is none for a size there is none for a lesser one
  pub none_less : (size less : ℕ) → less ≤ size → HasNoSolution (sized_system needs shape from to size) → HasNoSolution (sized_system needs shape from to less)
  none_less size less l none xs solves = none xs (solves_more less size xs l solves)

  -- an assignment that keeps within a size gives a solution
  pub solved_by : (size : ℕ) (w : Assignment) → IsFitting shape w → MeetsWithin needs from to size w → (xs : List ℤ) × Solves (sized_system needs shape from to size) xs
  solved_by size w fitting met =
      let at = positions_law shape w is.laid in
      (at.0, (sized_law needs shape w at.0 from to size words is fitting at.1 has).0 met)

  -- and is no less than the least
  pub no_less : (least size : ℕ) (w : Assignment) → IsLeast needs shape from to least → IsFitting shape w → MeetsWithin needs from to size w → least ≤ size
  no_less least size w best fitting met = elim (cases_lt size least) [
    | inr l ↦ l
    | inl l ↦ absurd (let s = solved_by size w fitting met in best.none size l s.0 s.1)
  ]

  -- the assignment at a solution for the least size has just this size
  pub just_size : (least : ℕ) (w : Assignment) (xs : List ℤ) → IsLeast needs shape from to least → IsFitting shape w → ArePositions shape w xs → Solves (sized_system needs shape from to least) xs →
      IsSize (w from) (w to) least
  just_size least w xs best fitting are solves =
      let met = (sized_law needs shape w xs from to least words is fitting are has).1 solves in
      record {
        passed = met.1;
        reached = elim (cases_lt 0 least) [
          | inr none ↦ (0, omega (arith, ones_to-none (w from), ones_to-none (w to)))
          | inl some ↦ elim (within_or_more needs shape w xs from to (least - 1) is fitting are has) [
            | inl within ↦ absurd (best.none (least - 1) (omega arith) xs ((sized_law needs shape w xs from to (least - 1) words is fitting are has).0 (met.0, within)))
            | inr more ↦ (more.0, (let a = more.1 in let b = met.1 more.0 in omega arith))
          ]
        ];
      }

  -- the words of a solution for the least size fit the shape, meet the needs and have this size
  pub reached : (least : ℕ) (xs : List ℤ) (written : List Bits) → IsLeast needs shape from to least → Solves (sized_system needs shape from to least) xs → AreWordsOf shape xs written →
      IsFitting shape (assigned written) × MeetsAll (assigned written) needs.list × IsSize (assigned written from) (assigned written to) least
  reached least xs written best solves are =
      let law = words_law shape xs written is.laid (solves_front needs shape xs (solves_table needs shape xs from to least solves)) are in
      let met = (sized_law needs shape (assigned written) xs from to least words is law.0 law.1 has).1 solves in
      (law.0, met.0, just_size least (assigned written) xs best law.0 law.1 solves)

-- there is one least size
pub least_one : (needs : Needs) (shape : Shape) (from to one two : ℕ) → IsLeast needs shape from to one → IsLeast needs shape from to two → one ≡ two
least_one needs shape from to one two first second = elim (cases_order one two) [
  | inl same ↦ same
  | inr (inl less) ↦ absurd (second.none one less first.solved.0 first.solved.1)
  | inr (inr more) ↦ absurd (first.none two more second.solved.0 second.solved.1)
]
