-- What contracts see of a program that is run from horizon to horizon.
use Rattle.std.specs.Prelude.{ℕ, ℤ, ◌≡◌, ◌%◌, List, [], ◌∷◌, ◌++◌, length, map}
use Rattle.std.specs.List.{range_with_len}
use Rattle.lucy_host.specs.declared.kind.HostKind.{HostKind}
use Rattle.lucy_host.specs.Operators.{kinds_of}
use Rattle.lucy_place.specs.declared.placed.PlacedNode.{PlacedNode}
use Rattle.lucy_clock.specs.declared.node_clock.NodeClock.{NodeClock}
use Rattle.lucy_net.specs.declared.net.Net.{Net}
use Rattle.lucy_core.specs.Seen.{IsOver}
use Rattle.lucy_kahn.specs.Spots.{main_of}
use Rattle.lucy_kahn.specs.Turns.{params_in}
use Rattle.lucy_flat.specs.Flat.{IsFlat}
use Rattle.lucy_runner.specs.Views.{RunnerView}
use Rattle.lucy_runner.specs.Homes.{crew_by}

-- a program that was run to a horizon: its nodes with their clocks, the kinds of the host's operators, the items of its inputs so
-- far, the horizon, and the one before it, from which on the items of its outputs are kept; and for each worker that has actors of its
-- net, in order of the workers, those that it has
pub record PlayerView : Type 0 where
  pub nodes : List PlacedNode
  pub clocks : List NodeClock
  pub kinds : List HostKind
  pub inputs : List (List ℤ)
  pub instants : ℕ
  pub before : ℕ
  pub crew : List (List ℕ)

-- each list with the items that follow
abbrev pub joined : (lists added : List (List ℤ)) → List (List ℤ)
joined [] added = []
joined (items ∷ lists) [] = items ∷ lists
joined (items ∷ lists) (more ∷ added) = (items ++ more) ∷ joined lists added

-- the homes of so many actors: that of actor a is worker a mod workers
abbrev pub homes_for : (actors workers : ℕ) → List ℕ
homes_for actors workers = map (λ actor. actor % workers) (range_with_len 0 actors)

-- the actors of a net in the workers, so many, that are their homes
abbrev pub crew_for : Net → (workers : ℕ) → List (List ℕ)
crew_for net workers = crew_by workers (homes_for (length net.actors) workers)

-- Below this line stands what only serves proofs.
-- what is seen of a program whose flat net a runner has run
abbrev pub played : List PlacedNode → List NodeClock → RunnerView → PlayerView
played nodes clocks runner =
    record { nodes = nodes; clocks = clocks; kinds = kinds_of runner.seen.operators; inputs = runner.seen.inputs; instants = runner.seen.instants; before = runner.before; crew = runner.crew }

-- the runner has finished the flat net of the program, with an input for each parameter of main
pub record IsPlayed (nodes : List PlacedNode) (clocks : List NodeClock) (runner : RunnerView) : Type 0 where
  pub flat : IsFlat nodes clocks runner.seen.net
  pub over : IsOver runner.seen
  pub inputs : params_in (main_of nodes) ≡ length runner.seen.inputs
