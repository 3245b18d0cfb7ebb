use Rattle.std.proofs.Common.{◌≡◌, ℕ, ◌+◌, length, List, [], ◌∷◌, ◌++◌, ap, ◌∙◌, refl, arith}
use Rattle.std.proofs.lemmas.List.{length_push}
use Rattle.lucy_solve.specs.System.{no_diff}
use Rattle.lucy_solve.proofs.Climbs.{climb_step, climb_bound}
use Rattle.lucy_solve.proofs.climb.climb.Goals as goal

longer : (xs ys : List ℕ) (i : ℕ) → ys ≡ xs ++ i ∷ [] → length ys ≡ length xs + 1
longer xs ys i e = ap length e ∙ length_push xs i

pub overflow_cast-marks : goal.overflow_cast-marks
overflow_cast-marks c =
    let a = climb_bound _ _ _ _ _ _ _ _ _ _ _ c.list-list.ensures.list c.loop-marks.invariant.0 c.requires.targets c.list-list.ensures.proper c.loop-marks.invariant.1 c.loop-marks-test.true refl c.in-Some.ensures.lookup.3.0 (c.in-Some.ensures.lookup.3.1 no_diff) c.in_ok-push.ensures.items in
    let few = c.requires.few in
    let n = c.len.ensures in
    omega arith

pub overflow_add-marks : goal.overflow_add-marks
overflow_add-marks c =
    let a = climb_bound _ _ _ _ _ _ _ _ _ _ _ c.list-list.ensures.list c.loop-marks.invariant.0 c.requires.targets c.list-list.ensures.proper c.loop-marks.invariant.1 c.loop-marks-test.true refl c.in-Some.ensures.lookup.3.0 (c.in-Some.ensures.lookup.3.1 no_diff) c.in_ok-push.ensures.items in
    let few = c.requires.few in
    let n = c.len.ensures in
    omega arith

pub loop-marks-smaller : goal.loop-marks-smaller
loop-marks-smaller c =
    let a = climb_bound _ _ _ _ _ _ _ _ _ _ _ c.list-list.ensures.list c.loop-marks.invariant.0 c.requires.targets c.list-list.ensures.proper c.loop-marks.invariant.1 c.loop-marks-test.true refl c.in-Some.ensures.lookup.3.0 (c.in-Some.ensures.lookup.3.1 no_diff) c.in_ok-push.ensures.items in
    let b = longer _ _ _ c.in_ok-push.ensures.items in
    omega arith

pub loop-marks-preserved : goal.loop-marks-preserved
loop-marks-preserved c =
    climb_step _ _ _ _ _ _ _ _ _ _ _ c.list-list.ensures.list c.loop-marks.invariant.0 c.requires.targets c.list-list.ensures.proper c.loop-marks.invariant.1 c.loop-marks-test.true refl c.in-Some.ensures.lookup.3.0 (c.in-Some.ensures.lookup.3.1 no_diff) c.in_ok-push.ensures.items _ (let n = c.len.ensures in omega arith)
