use Rattle.std.proofs.Common.{◌≡◌, ◌+◌, ◌∷◌, [], ℕ, List, pos, neg_ℤ, ap, ◌∙◌, arith}
use Rattle.lucy_solve.specs.declared.diffs.Diff.{Diff}
use Rattle.lucy_shape.specs.declared.shape.ClockShape.{ClockShape}
use Rattle.lucy_shape.specs.Fitting.{variable_of}
use Rattle.lucy_shape.specs.Added.{with_rows}
use Rattle.lucy_shape.proofs.Adding.{step_flat, pair_is}
use Rattle.lucy_shape.proofs.clocks.add_base.Goals as goal

abbrev pair_at : ℕ → ℕ → List Diff
pair_at v m = record { left = 0; right = v; most = neg_ℤ (pos m) } ∷ record { left = v; right = 0; most = pos m } ∷ []

same : (s : ClockShape) (p : ℕ) → pair_at (s.first + p) (p + 1) ≡ pair_at (variable_of s (1 + p)) (1 + p)
same s p = ap (λ k. pair_at k (p + 1)) (let e : s.first + p ≡ variable_of s (1 + p) = omega arith in e)
    ∙ ap (λ k. pair_at (variable_of s (1 + p)) k) (let e : p + 1 ≡ 1 + p = omega arith in e)

pub loop-place-preserved : goal.loop-place-preserved
loop-place-preserved c =
    let s = c.args.clock.now in
    let p = c.loop-place.place in
    step_flat c.args.diffs.now c.loop-place.diffs c.add_pair.new.diffs (λ m. pair_at (variable_of s m) m) 1 p (pair_at (s.first + p) (p + 1)) c.loop-place.invariant
    (c.in_ok-add_pair.ensures.ok ∙ ap (λ l. with_rows c.loop-place.diffs l) (pair_is _ _ _ _ c.stands_at.ensures.low c.stands_at.ensures.high)) (same s p)
