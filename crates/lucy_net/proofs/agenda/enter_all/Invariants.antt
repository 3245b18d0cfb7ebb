use Rattle.std.proofs.Common.{ℕ, ◌≡◌, ◌<◌, length, []}
use Rattle.std.specs.Prelude.{slice_index_or}
use Rattle.lucy_net.specs.Proper.{numbers_where}
use Rattle.lucy_net.specs.Instants.{is_busy}
use Rattle.lucy_net.specs.Faults.{rows_of}
use Rattle.lucy_net.proofs.agenda.enter_all.Given as goal

abbrev pub invariant-loop-number : goal.invariant-loop-number
invariant-loop-number l = record {
  rows : (t : ℕ) → t < length l.rows → slice_index_or (rows_of l.rows) t [] ≡ numbers_where (is_busy l.net t) l.number;
}
