use Rattle.std.proofs.Common.{◌≡◌, ℕ, ◌+◌, ◌-◌, ◌<◌, IsTrue, nat_lt, List, ℤ, pos, ◌≤ℤ◌, ap, ◌∙◌, arith}
use Rattle.std.proofs.lemmas.Int.{ints}
use Rattle.std.proofs.lemmas.Bool.Decides.{nat_tests}
use Rattle.lucy_solve.specs.System.{value}
use Rattle.lucy_shape.specs.declared.shape.ClockShape.{ClockShape}
use Rattle.lucy_shape.specs.Marking.{IsSolved}
use Rattle.lucy_shape.specs.WordOf.{positions_of}
use Rattle.lucy_shape.proofs.RowLaws.{AreRising, rising_positions}
use Rattle.lucy_shape.proofs.PositionWord.{climbs}
use Rattle.lucy_shape.proofs.WordOf.{written_bits}
use Rattle.lucy_shape.proofs.words.is_long.Goals as goal

rising : (P : ℕ) (s : ClockShape) (xs : List ℤ) → IsSolved P s xs → AreRising P s xs
rising P s xs is = rising_positions P s xs is.some is.first is.solves

-- the first position past the lead, as it is read
turn_at : (P : ℕ) (s : ClockShape) (xs own : List ℤ) → IsSolved P s xs → value own 0 ≡ value xs (s.first + s.lead + 0) → value own 0 ≡ pos (positions_of P s xs (s.lead + 1))
turn_at P s xs own is at =
    at ∙ ap (value xs) (let e : s.first + s.lead + 0 ≡ s.first + (s.lead + 1) - 1 = omega arith in e)
    ∙ (rising P s xs is).at (s.lead + 1) (omega arith) (let some = is.some in omega arith)

turn_some : (P : ℕ) (s : ClockShape) (xs own : List ℤ) → IsSolved P s xs → value own 0 ≡ value xs (s.first + s.lead + 0) → pos 1 ≤ℤ value own 0
turn_some P s xs own is at =
    let a = turn_at P s xs own is at in
    let b = climbs (positions_of P s xs) (rising P s xs is).up 0 (s.lead + 1) in
    let e : positions_of P s xs (0 + (s.lead + 1)) ≡ positions_of P s xs (s.lead + 1) = ap (positions_of P s xs) (omega arith) in
    omega (arith, ints)

turn_is : (P : ℕ) (s : ClockShape) (xs own : List ℤ) (start : ℕ) → IsSolved P s xs → value own 0 ≡ value xs (s.first + s.lead + 0) → pos start ≡ value own 0 → start ≡ positions_of P s xs (s.lead + 1)
turn_is P s xs own start is at h = let a = turn_at P s xs own is at in omega (arith, ints)

less_so : (a b : ℕ) → IsTrue (nat_lt a b) → a < b
less_so a b h = grind (arith, nat_tests)

so_less : (a b : ℕ) → a < b → IsTrue (nat_lt a b)
so_less a b h = grind (arith, nat_tests)

pub start_of-before-requires-clause-at : goal.start_of-before-requires-clause-at
start_of-before-requires-clause-at c = turn_some c.args.period c.args.clock.now c.args.positions.now c.part-turn.result.now c.requires (c.part-turn.ensures.at 0 (omega arith))

pub returns-then-before-most : goal.returns-then-before-most
returns-then-before-most c =
    let s = turn_is c.args.period c.args.clock.now c.args.positions.now c.part-turn.result.now c.start_of-before.result c.requires (c.part-turn.ensures.at 0 (omega arith)) c.start_of-before.ensures in
    let b = written_bits c.args.period c.args.clock.now c.args.positions.now in
    let more = c.if-before-most.true in
    (λ _. omega arith, λ _. so_less _ _ more)

pub returns-else-before-most : goal.returns-else-before-most
returns-else-before-most c =
    let s = turn_is c.args.period c.args.clock.now c.args.positions.now c.part-turn.result.now c.start_of-before.result c.requires (c.part-turn.ensures.at 0 (omega arith)) c.start_of-before.ensures in
    let b = written_bits c.args.period c.args.clock.now c.args.positions.now in
    let few = c.if-before-most.false in (
      λ h. (let more = less_so _ _ h in omega arith),
      λ h. so_less _ _ (omega arith),
    )
