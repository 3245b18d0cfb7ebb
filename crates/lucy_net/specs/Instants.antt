-- What the actors of a net do in one instant. `before` instants are before it.
use Rattle.std.specs.Prelude.{ℕ, ◌+◌, Bool, List, [], length, nat_lt, slice_get, if◌then◌else◌, Option, Some, None}
use Rattle.lucy_word.specs.Bits.{bit_at, ones_to}
use Rattle.lucy_stream.specs.Systems.{RingOp}
use Rattle.lucy_stream.specs.Operations.{firing_ops}
use Rattle.lucy_net.specs.declared.net.Actor.{Actor}
use Rattle.lucy_net.specs.declared.net.Net.{Net}
use Rattle.lucy_net.specs.Plans.{form_of}

-- the operations of the firing of an actor after `fired` others
abbrev pub firing_of : Actor → ℕ → List RingOp
firing_of actor fired = firing_ops (form_of actor.kind) actor.takes actor.gives fired

-- its operations in the instant, none where it doesn't fire in it
abbrev pub slot_of : ℕ → Option Actor → List RingOp
slot_of before None = []
slot_of before (Some actor) = if bit_at actor.firing (before + 1) then firing_of actor (ones_to actor.firing before) else []

-- those of the actor of this number
unfoldable pub slot : Net → ℕ → ℕ → List RingOp
slot net before a = slot_of before (slice_get net.actors a)

-- the actor has an operation in the instant
abbrev pub is_busy : Net → ℕ → ℕ → Bool
is_busy net before a = nat_lt 0 (length (slot net before a))
