use Rattle.std.proofs.Common.{ℕ, ◌≤◌, ◌≡◌, List, length}
use Rattle.std.specs.Prelude.{ℤ, slice_index}
use Rattle.lucy_stream.specs.Items.{list_at}
use Rattle.lucy_results.proofs.HorizonLaws.{SufficeTo}
use Rattle.lucy_results.proofs.instants.horizon.Given as goal

-- the horizon of the inputs so far
abbrev pub invariant-each : goal.invariant-each
invariant-each l = record {
  within : l.last ≤ l.most;
  suffice : (inputs : List (List ℤ)) → ((i : ℕ) → slice_index l.counts i ≡ length (list_at inputs i)) → SufficeTo l.words inputs l.i l.last;
  greatest : (inputs : List (List ℤ)) → ((i : ℕ) → slice_index l.counts i ≡ length (list_at inputs i)) → (u : ℕ) → u ≤ l.most → SufficeTo l.words inputs l.i u → u ≤ l.last;
}
