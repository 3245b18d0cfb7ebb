use Rattle.std.proofs.Common.{ℕ, List, length, ◌-◌, ◌≡◌, ◌≤◌, drop}
use Rattle.lucy_fields.specs.Fields.{fields_from}
use Rattle.lucy_fields.proofs.fields.past_blanks.Given as goal

-- the blanks so far are passed
pub record Passed (text : List ℕ) (from at : ℕ) : Type 0 where
  pub within : at ≤ length text
  pub same : fields_from at (drop at text) ≡ fields_from from (drop from text)

abbrev pub invariant-blanks : goal.invariant-blanks
invariant-blanks l = Passed l.text l.from l.at

abbrev pub decreases-blanks : goal.decreases-blanks
decreases-blanks l = length l.text - l.at
