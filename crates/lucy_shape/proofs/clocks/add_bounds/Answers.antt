use Rattle.std.proofs.Common.{◌≡◌, ◌+◌, ℕ, negsuc, ap, arith}
use Rattle.lucy_solve.specs.declared.diffs.Diff.{Diff}
use Rattle.lucy_shape.specs.Fitting.{variable_of}
use Rattle.lucy_shape.proofs.Adding.{step_map}
use Rattle.lucy_shape.proofs.clocks.add_bounds.Goals as goal

abbrev bound_row : ℕ → Diff
bound_row v = record { left = 0; right = v; most = negsuc 0 }

pub loop-place-preserved : goal.loop-place-preserved
loop-place-preserved c =
    let s = c.args.clock.now in
    let p = c.loop-place.place in
    step_map c.args.diffs.now c.loop-place.diffs c.add.new.diffs (λ m. bound_row (variable_of s m)) 1 p (bound_row (s.first + p)) c.loop-place.invariant c.in_ok-add.ensures.ok
    (ap bound_row (let e : s.first + p ≡ variable_of s (1 + p) = omega arith in e))
