use Rattle.std.proofs.Common.{ℕ, List, length, ◌-◌, ◌≤◌, take, drop}
use Rattle.lucy_fields.specs.Steps.{IsFull}
use Rattle.lucy_fields.proofs.fields.past_field.Given as goal

-- the bytes so far are no blanks
pub record Passed (text : List ℕ) (from at : ℕ) : Type 0 where
  pub from_there : from ≤ at
  pub within : at ≤ length text
  pub full : IsFull (take (at - from) (drop from text))

abbrev pub invariant-field : goal.invariant-field
invariant-field l = Passed l.text l.from l.at

abbrev pub decreases-field : goal.decreases-field
decreases-field l = length l.text - l.at
