use Rattle.std.proofs.Common.{ℕ, ◌≡◌, length, []}
use Rattle.std.specs.Prelude.{slice_index_or}
use Rattle.lucy_net.specs.Faults.{rows_of}
use Rattle.lucy_net.proofs.agenda.agenda_of.Given as goal

abbrev pub invariant-loop-row : goal.invariant-loop-row
invariant-loop-row l = record {
  empty : (t : ℕ) → slice_index_or (rows_of l.agenda.items) t [] ≡ [];
  count : length l.agenda.items ≡ l.row;
}
