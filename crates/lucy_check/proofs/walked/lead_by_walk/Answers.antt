use Rattle.std.proofs.Common.{◌≡◌, ◌+◌, ◌-◌, ◌≤◌, ℕ, max, subst, arith}
use Rattle.lucy_word.specs.Bits.{Bits, ones_to}
use Rattle.lucy_word.proofs.BitsLaws.{ones_to-none, ones_to-le}
use Rattle.lucy_check.specs.Horizon.{AreDecidedBy}
use Rattle.lucy_check.proofs.Periods.{Walked, walked_none, walked_more, Precedes-from_walked, IsSize-from_walked}
use Rattle.lucy_check.proofs.Walks.{ahead_none, ahead_more, counted}
use Rattle.lucy_check.proofs.walked.lead_by_walk.Goals as goal

pub loop-i-init : goal.loop-i-init
loop-i-init c = (
  ahead_none _ _ c.walk-walk_a.ensures,
  ahead_none _ _ c.walk-walk_b.ensures,
  omega (arith, ones_to-none c.args.a.now, ones_to-none c.args.b.now),
  walked_none c.args.a.now c.args.b.now,
)

pub overflow_add-given : goal.overflow_add-given
overflow_add-given c =
    let more = counted c.args.a.now c.loop-i.walk_a c.loop-i.i _ _ c.loop-i.invariant.0 c.step.ensures.bit c.from.ensures in
    omega (arith, ones_to-le c.args.a.now (c.loop-i.i + 1), c.horizon_of-i-end.ensures.fits)

at_size : (a b : Bits) (n most now size : ℕ) → Walked a b n most → ones_to b (n + 1) ≤ ones_to a (n + 1) →
    now ≡ ones_to a (n + 1) - ones_to b (n + 1) → size ≡ max most now → Walked a b (n + 1) size
at_size a b n most now size w h e f =
    let P : ℕ → Type 0 = λ s. Walked a b (n + 1) s in
    let g : max most (ones_to a (n + 1) - ones_to b (n + 1)) ≡ size = omega arith in
    subst P g (walked_more a b n most w h)

pub returns-then-given-taken-clause-late : goal.returns-then-given-taken-clause-late
returns-then-given-taken-clause-late c =
    let a = counted c.args.a.now c.loop-i.walk_a c.loop-i.i _ _ c.loop-i.invariant.0 c.step.ensures.bit c.from.ensures in
    let b = counted c.args.b.now c.loop-i.walk_b c.loop-i.i _ _ c.loop-i.invariant.1 c.step-in-loop-i.ensures.bit c.from-taken.ensures in
    record { late = omega (arith, c.loop-i.invariant.2); first = c.loop-i.invariant.3.before }

pub loop-i-preserved : goal.loop-i-preserved
loop-i-preserved c =
    let a = counted c.args.a.now c.loop-i.walk_a c.loop-i.i _ _ c.loop-i.invariant.0 c.step.ensures.bit c.from.ensures in
    let b = counted c.args.b.now c.loop-i.walk_b c.loop-i.i _ _ c.loop-i.invariant.1 c.step-in-loop-i.ensures.bit c.from-taken.ensures in
    let lead : ones_to c.args.a.now (c.loop-i.i + 1) ≡ ones_to c.args.b.now (c.loop-i.i + 1) + (c.loop-i.lead + c.from.result - c.from-taken.result) = omega (arith, c.loop-i.invariant.2) in (
      ahead_more _ _ _ _ c.loop-i.invariant.0 c.step.ensures.rest,
      ahead_more _ _ _ _ c.loop-i.invariant.1 c.step-in-loop-i.ensures.rest,
      lead,
      at_size c.args.a.now c.args.b.now c.loop-i.i c.loop-i.most (c.loop-i.lead + c.from.result - c.from-taken.result) _ c.loop-i.invariant.3 (omega arith) (omega arith) c.max-most.ensures,
    )

horizon : (c : goal.After-loop-i) → AreDecidedBy c.args.a.now c.args.b.now c.loop-i.i
horizon c =
    let P : ℕ → Type 0 = λ n. AreDecidedBy c.args.a.now c.args.b.now n in
    subst P (let e : c.horizon_of-i-end.result ≡ c.loop-i.i = omega arith in e) c.horizon_of-i-end.ensures.is

pub returns-clause-size : goal.returns-clause-size
returns-clause-size c = IsSize-from_walked c.args.a.now c.args.b.now _ _ (horizon c) c.loop-i.invariant.3

pub returns-clause-precedes : goal.returns-clause-precedes
returns-clause-precedes c = Precedes-from_walked c.args.a.now c.args.b.now _ _ (horizon c) c.loop-i.invariant.3
