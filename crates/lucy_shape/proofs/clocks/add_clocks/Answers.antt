use Rattle.std.proofs.Common.{◌≡◌, ◌+◌, ℕ, List, eqb, ap, ◌∙◌, arith}
use Rattle.lucy_solve.specs.declared.diffs.Diff.{Diff}
use Rattle.lucy_shape.specs.declared.shape.ClockShape.{ClockShape}
use Rattle.lucy_shape.specs.declared.shape.Shape.{Shape}
use Rattle.lucy_shape.specs.Fitting.{clock_at}
use Rattle.lucy_shape.specs.Inequalities.{clock_rows}
use Rattle.lucy_shape.proofs.Adding.{step_flat}
use Rattle.lucy_shape.proofs.clocks.add_clocks.Goals as goal

abbrev rows : Shape → ℕ → List Diff
rows shape c = clock_rows shape.period (eqb c 0) (clock_at shape.clocks c)

same : (shape : Shape) (list : List ClockShape) (i : ℕ) → list ≡ shape.clocks → clock_rows shape.period (eqb i 0) (clock_at list i) ≡ rows shape (0 + i)
same shape list i e = ap (λ l. clock_rows shape.period (eqb i 0) (clock_at l i)) e ∙ ap (rows shape) (let z : i ≡ 0 + i = omega arith in z)

pub loop-c-preserved : goal.loop-c-preserved
loop-c-preserved c =
    let shape = c.args.shape.now in
    let i = c.loop-c.c in
    let list = c.list-clocks.result.now in
    step_flat c.args.diffs.now c.loop-c.diffs c.add_clock.new.diffs (rows shape) 0 i (clock_rows shape.period (eqb i 0) (clock_at list i)) c.loop-c.invariant c.in_ok-add_clock.ensures.ok
    (same shape list i c.list-clocks.ensures)
