-- The laws of frozen programs, of what they are accepted as.
use Rattle.std.proofs.Common.{ℕ, suc, zero, ◌≡◌, true, false, inl, inr, List, [], ◌∷◌, Some, length, refl, arith}
use Rattle.std.specs.Prelude.{ℤ, slice_get}
use Rattle.lucy_host.specs.declared.kind.HostKind.{HostKind}
use Rattle.lucy_host.specs.Operators.{Operator}
use Rattle.lucy_place.specs.declared.placed.PlacedNode.{PlacedNode}
use Rattle.lucy_place.specs.Proper.{AreProper}
use Rattle.lucy_clock.specs.declared.node_clock.NodeClock.{NodeClock}
use Rattle.lucy_net.specs.Schedules.{events_at}
use Rattle.lucy_program.specs.declared.accepted.Accepted.{Accepted}
use Rattle.lucy_program.specs.declared.options.Options.{Options}
use Rattle.lucy_program.specs.Accepting.{IsAccepted}
use Rattle.lucy_program.proofs.AcceptedLaws.{text_proper}
use Rattle.lucy_kahn.specs.Horizons.{Suffice}
use Rattle.lucy_results.specs.Streams.{param_words, main_streams}
use Rattle.lucy_results.specs.Running.{HasSchedule}
use Rattle.lucy_freeze.specs.Frozen.{AreFrozen}
use Rattle.lucy_freeze.specs.Freezing.{all_written}
use Rattle.lucy_freeze.specs.Meaning.{FrozenProgramsMeanTheSame, FrozenProgramsAreWritten}
use Rattle.lucy_freeze.proofs.StreamLaws.{streams_same}

-- an accepted program's net has a sound schedule
scheduled : (operators : List Operator) (o : Options) (text : List ℕ) (a : Accepted) → IsAccepted operators o text a → HasSchedule a.placed.nodes a.clocks.items
scheduled operators o text a is = record { net = a.net; events = events_at a.schedule; flat = is.net.flat.flat; sound = is.schedule.sound }

-- where there are no nodes, there are no streams
same_of : (nodes : List PlacedNode) (clocks : List NodeClock) (frozen : List PlacedNode) (frozen_clocks : List NodeClock) → AreProper nodes → AreProper frozen → HasSchedule nodes clocks → HasSchedule frozen frozen_clocks →
    AreFrozen nodes clocks frozen frozen_clocks → (kinds : List HostKind) (inputs : List (List ℤ)) (t : ℕ) → Suffice (param_words nodes clocks) inputs t →
    main_streams kinds inputs frozen frozen_clocks t ≡ main_streams kinds inputs nodes clocks t
same_of [] clocks [] frozen_clocks proper twin_proper schedule twin_schedule same kinds inputs t suffice = refl
same_of [] clocks (m ∷ frozen) frozen_clocks proper twin_proper schedule twin_schedule same kinds inputs t suffice = absurd (let e = same.count in omega (arith, e))
same_of (n ∷ nodes) clocks frozen frozen_clocks proper twin_proper schedule twin_schedule same kinds inputs t suffice =
    streams_same (n ∷ nodes) clocks frozen frozen_clocks proper twin_proper schedule twin_schedule same (omega arith) kinds inputs t suffice

pub means_same : FrozenProgramsMeanTheSame
means_same operators o text frozen twin is kinds inputs instants suffice =
    let a = is.program in
    same_of a.placed.nodes a.clocks.items twin.placed.nodes twin.clocks.items (text_proper operators o text a.placed is.accepted.clocked.program.program)
    (text_proper operators (all_written o) frozen twin.placed is.checked.clocked.program.program) (scheduled operators o text a is.accepted) (scheduled operators (all_written o) frozen twin is.checked) is.same kinds inputs
    instants suffice

-- a node has clocks
clock_there : (nodes : List PlacedNode) (clocks : List NodeClock) (i : ℕ) (n : PlacedNode) → length clocks ≡ length nodes → slice_get nodes i ≡ Some n → (c : NodeClock) × (slice_get clocks i ≡ Some c)
clock_there [] clocks i n e f = absurd (cc f)
clock_there (m ∷ nodes) [] i n e f = absurd (omega (arith, e))
clock_there (m ∷ nodes) (c ∷ clocks) zero n e f = (c, refl)
clock_there (m ∷ nodes) (c ∷ clocks) (suc i) n e f = clock_there nodes clocks i n (omega (arith, e)) f

-- where each node has to be written, none has clocks that are inferred
pub written_all : FrozenProgramsAreWritten
written_all operators o text frozen twin is i n e =
    let clocks = is.checked.clocked.clocks in
    let c = clock_there twin.placed.nodes twin.clocks.items i n clocks.all e in
    elim (clocks.each i n c.0 e c.1).its [
      | inl own ↦ own.0
      | inr found ↦ absurd (let shut : true ≡ false = found.is_open.0 in cc shut)
    ]
