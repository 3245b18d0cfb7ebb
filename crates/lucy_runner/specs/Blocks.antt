-- A block more: longer inputs and a later horizon, from a finished state on.
use Rattle.std.specs.Prelude.{ℕ, ◌++◌, List, [], ℤ, map, if◌then◌else◌}
use Rattle.std.specs.List.{range_with_len}
use Rattle.lucy_stream.specs.Items.{list_at}
use Rattle.lucy_net.specs.declared.net.Actor.{Actor}
use Rattle.lucy_net.specs.declared.net.Net.{Net}
use Rattle.lucy_core.specs.Seen.{Seen}
use Rattle.lucy_runner.specs.Views.{is_read, input_count}

-- the list of an input with the items that follow, an empty one where no actor reads it
abbrev pub longer_for : List Actor → List (List ℤ) → List (List ℤ) → ℕ → List ℤ
longer_for actors held added i = if is_read i actors then list_at held i ++ list_at added i else []

-- the lists of a net's inputs with the items that follow, in order of their numbers
abbrev pub longer_inputs : Net → List (List ℤ) → List (List ℤ) → List (List ℤ)
longer_inputs net held added = map (longer_for net.actors held added) (range_with_len 0 (input_count net.actors))

-- the same state, with more to do
abbrev pub grown_seen : Seen → List (List ℤ) → ℕ → Seen
grown_seen seen added instants = record seen { inputs = longer_inputs seen.net seen.inputs added; instants = instants }
