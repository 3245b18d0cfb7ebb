use Rattle.std.proofs.Common.{ℕ, ◌<◌, ◌≤◌, ◌≡◌, ◌-◌, length, cond}
use Rattle.std.specs.Prelude.{vec_capacity}
use Rattle.lucy_core.specs.Seen.{CanStep, done_of}
use Rattle.lucy_trace.specs.Steps.{HasBeenLed}
use Rattle.lucy_trace.proofs.catching.pass.Given as goal

-- where nothing was done so far, none of the actors so far could go on
abbrev pub invariant-loop-k : goal.invariant-loop-k
invariant-loop-k g l = record {
  on : HasBeenLed l.counts l.fn.core l.core l.fn.picks.items l.picks.items;
  room : vec_capacity l.fn.picks ≤ vec_capacity l.picks;
  stopped : length l.picks.items ≡ length l.fn.picks.items → (j a : ℕ) → j < l.k → a ≡ cond l.back (l.count - 1 - j) j →
      done_of l.fn.core.done a < done_of l.counts a → CanStep l.fn.core a → ⊥;
}
