-- What holds of a runner of an accepted program's net between its calls, and what its rings hold, by their two ends. Rings count from 0, places and buffers from 1.
use Rattle.std.specs.Prelude.{ℕ, ◌+◌, ◌≤◌, ◌≡◌, List, [], ◌∷◌, ◌++◌, length, ℤ, Some, slice_get}
use Rattle.lucy_host.specs.declared.kind.HostKind.{HostKind}
use Rattle.lucy_host.specs.Operators.{Operator, kinds_of}
use Rattle.lucy_net.specs.Schedules.{Timetable}
use Rattle.lucy_net.specs.Plans.{taker}
use Rattle.lucy_core.specs.Seen.{Seen, state_of, first_seen, after_picks}
use Rattle.lucy_runner.specs.Views.{RingView, RunnerView, inputs_for}
use Rattle.lucy_kahn.specs.Spots.{Spot, main_of}
use Rattle.lucy_kahn.specs.Numbers.{number}
use Rattle.lucy_kahn.specs.Turns.{params_in}
use Rattle.lucy_program.specs.declared.accepted.Accepted.{Accepted}
use Rattle.lucy_program.specs.declared.options.Options.{Options}
use Rattle.lucy_interleaving.specs.Interleavings.{IsBuffer, reported_size, IsSafe, IsFedText}

-- the ring from which a buffer takes has the buffer's printed size and one slot more, every other ring one slot; none holds more
-- items than it has slots, and each holds exactly those that were given to it and not taken
pub record HasSafeRings (a : Accepted) (runner : RunnerView) : Type 0 where
  pub count : length runner.rings ≡ length a.net.rings
  pub buffers : (spot : Spot) (buffer r : ℕ) (ring : RingView) → IsBuffer a spot buffer → taker a.net r ≡ number a.placed.nodes spot →
      slice_get runner.rings r ≡ Some ring → ring.slots ≡ reported_size a spot buffer + 1
  pub others : (r : ℕ) (ring : RingView) → ((spot : Spot) (buffer : ℕ) → IsBuffer a spot buffer → taker a.net r ≡ number a.placed.nodes spot → ⊥) →
      slice_get runner.rings r ≡ Some ring → ring.slots ≡ 1
  pub within : (r : ℕ) (ring : RingView) → slice_get runner.rings r ≡ Some ring → length ring.items ≤ ring.slots
  pub holds : (r : ℕ) (ring : RingView) → slice_get runner.rings r ≡ Some ring →
      (state_of runner.seen).gave r ≡ (state_of runner.seen).took r ++ ring.items

-- so its rings are, and the state in which it stands between its calls is safe: all values are fronts of the program's Kahn streams, and nothing
-- unfinished is stuck
pub record IsSafeRunner (kinds : List HostKind) (a : Accepted) (inputs : List (List ℤ)) (horizon : ℕ) (runner : RunnerView) : Type 0 where
  pub rings : HasSafeRings a runner
  pub state : IsSafe kinds a inputs horizon (state_of runner.seen)

-- what is seen after rounds of these events
abbrev pub after_rounds : Seen → List (List ℕ) → Seen
after_rounds seen [] = seen
after_rounds seen (picks ∷ rounds) = after_rounds (after_picks seen picks) rounds

-- a runner with the counts of one that was made of a core of the program's net, by some schedule and with a list for each parameter
-- of main, and was moved by rounds of these events
pub record IsMadeFor (ops : List Operator) (a : Accepted) (inputs : List (List ℤ)) (horizon : ℕ) (runner : RunnerView) : Type 0 where
  pub schedule : Timetable
  pub params : params_in (main_of a.placed.nodes) ≡ length inputs
  pub rounds : List (List ℕ)
  pub moved : runner.seen ≡ after_rounds (first_seen a.net schedule (inputs_for a.net inputs) ops horizon) rounds

-- the runner is safe where it was made so for a text that is accepted as a program, on inputs that suffice
abbrev pub IsSafeIfMade : RunnerView → Type 0
IsSafeIfMade runner = (ops : List Operator) (o : Options) (text : List ℕ) (a : Accepted) (inputs : List (List ℤ)) (horizon : ℕ) →
    IsFedText ops o text a inputs horizon → IsMadeFor ops a inputs horizon runner → IsSafeRunner (kinds_of ops) a inputs horizon runner

-- and where it is one of an accepted program's net, whatever was done with it, such as blocks more, by the inputs and up to the
-- horizon that it has now
abbrev pub IsSafeOnItsInputs : RunnerView → Type 0
IsSafeOnItsInputs runner = (ops : List Operator) (o : Options) (text : List ℕ) (a : Accepted) →
    IsFedText ops o text a runner.seen.inputs runner.seen.instants → runner.seen.net ≡ a.net → kinds_of runner.seen.operators ≡ kinds_of ops →
    IsSafeRunner (kinds_of ops) a runner.seen.inputs runner.seen.instants runner
