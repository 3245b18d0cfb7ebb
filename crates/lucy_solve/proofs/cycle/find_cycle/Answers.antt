use Rattle.std.proofs.Common.{ℕ, ◌-◌, length, get_or, drop, reverse, List, ap, ◌∙◌, arith}
use Rattle.lucy_solve.proofs.Climbs.{climb_first, climb_few}
use Rattle.lucy_solve.proofs.Forests.{climb_next, climb_over}
use Rattle.lucy_solve.proofs.Rounds.{climb_closed}
use Rattle.lucy_solve.proofs.cycle.find_cycle.Goals as goal

pub loop-start-init : goal.loop-start-init
loop-start-init c = climb_first _ _ _ _ c.requires.zeros c.new-path.ensures.items

pub returns-then-before-mark : goal.returns-then-before-mark
returns-then-before-mark c =
    climb_closed _ _ _ _ _ _ _ _ c.in_ok-at.ensures.climbed c.requires.targets (omega arith)
    (c.in_ok-reversed_from.ensures ∙ ap (λ (p : List ℕ). reverse (drop (get_or c.climb.new.marks c.in_ok-at.at 0 - c.loop-start.before - 1) p)) c.deref.ensures.value)

pub loop-start-preserved : goal.loop-start-preserved
loop-start-preserved c =
    climb_next _ _ _ _ _ _ _ _ _ c.in_ok-at.ensures.climbed c.requires.targets (let a = c.count-start-end.ensures.count in let b = c.loop-start-test.true in omega arith) c.in_ok-at.ensures.ended (omega arith) c.clear.ensures.items (omega arith)

pub returns : goal.returns
returns c = climb_over _ _ _ _ _ _ _ c.loop-start.invariant.0 c.loop-start.invariant.1 c.requires.targets (let a = c.count-start-end.ensures.count in omega arith)

pub reversed_from-requires : goal.reversed_from-requires
reversed_from-requires c =
    let top = c.in_ok-at.ensures.climbed.top c.in_ok-at.at in
    let path = ap (λ (p : List ℕ). length p) c.deref.ensures.value in
    omega arith

pub overflow_cast-before : goal.overflow_cast-before
overflow_cast-before c =
    let path = climb_few _ _ _ _ _ _ _ c.in_ok-at.ensures.climbed c.requires.targets in
    let few = c.requires.few in
    omega arith

pub overflow_add-before : goal.overflow_add-before
overflow_add-before c =
    let path = climb_few _ _ _ _ _ _ _ c.in_ok-at.ensures.climbed c.requires.targets in
    let few = c.requires.few in
    omega arith
