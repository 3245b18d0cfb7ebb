use Rattle.std.proofs.Common.{◌≡◌, ◌+◌, ℕ, negsuc, ap, ◌∙◌, arith}
use Rattle.lucy_solve.specs.declared.diffs.Diff.{Diff}
use Rattle.lucy_shape.specs.declared.shape.ClockShape.{ClockShape}
use Rattle.lucy_shape.specs.Fitting.{variable_of}
use Rattle.lucy_shape.proofs.Adding.{step_map}
use Rattle.lucy_shape.proofs.clocks.add_neighbours.Goals as goal

abbrev next_row : ℕ → ℕ → Diff
next_row v w = record { left = v; right = w; most = negsuc 0 }

same : (s : ClockShape) (p : ℕ) → next_row (s.first + p) (s.first + p + 1) ≡ next_row (variable_of s (1 + p)) (variable_of s (1 + p + 1))
same s p = ap (λ k. next_row k (s.first + p + 1)) (let e : s.first + p ≡ variable_of s (1 + p) = omega arith in e)
    ∙ ap (λ k. next_row (variable_of s (1 + p)) k) (let e : s.first + p + 1 ≡ variable_of s (1 + p + 1) = omega arith in e)

pub loop-place-preserved : goal.loop-place-preserved
loop-place-preserved c =
    let s = c.args.clock.now in
    let p = c.loop-place.place in
    step_map c.args.diffs.now c.loop-place.diffs c.add.new.diffs (λ m. next_row (variable_of s m) (variable_of s (m + 1))) 1 p (next_row (s.first + p) (s.first + p + 1))
    c.loop-place.invariant c.in_ok-add.ensures.ok (same s p)
