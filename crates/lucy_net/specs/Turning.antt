-- When the instants of a net come again.
use Rattle.std.specs.Prelude.{ℕ, ◌+◌, ◌*◌, ◌<◌, ◌≤◌, ◌≡◌, length, slice_get, Some}
use Rattle.lucy_word.specs.Bits.{Bits, bit_at, ones_to}
use Rattle.lucy_net.specs.declared.net.Actor.{Actor}
use Rattle.lucy_net.specs.declared.net.RingSpec.{RingSpec}
use Rattle.lucy_net.specs.declared.net.Net.{Net}

-- the words have the same bits at the next instant, and each ring holds as many items
pub record IsSteady (net : Net) (t u : ℕ) : Type 0 where
  pub firing : (a : ℕ) (actor : Actor) → slice_get net.actors a ≡ Some actor → bit_at actor.firing (t + 1) ≡ bit_at actor.firing (u + 1)
  pub write : (r : ℕ) (ring : RingSpec) → slice_get net.rings r ≡ Some ring → bit_at ring.write (t + 1) ≡ bit_at ring.write (u + 1)
  pub read : (r : ℕ) (ring : RingSpec) → slice_get net.rings r ≡ Some ring → bit_at ring.read (t + 1) ≡ bit_at ring.read (u + 1)
  pub held : (r : ℕ) (ring : RingSpec) → slice_get net.rings r ≡ Some ring → ones_to ring.write t + ones_to ring.read u ≡ ones_to ring.write u + ones_to ring.read t

-- P is a whole number of the word's periods, and t is past its prefix
pub record Turns (w : Bits) (t P : ℕ) : Type 0 where
  pub times : ℕ
  pub whole : P ≡ times * length w.period
  pub past : length w.prefix ≤ t
  pub some : 0 < length w.period

-- t is past the prefixes of all words of the net, and P a whole number of each one's periods
pub record IsTurning (net : Net) (t P : ℕ) : Type 0 where
  pub firing : (a : ℕ) (actor : Actor) → slice_get net.actors a ≡ Some actor → Turns actor.firing t P
  pub write : (r : ℕ) (ring : RingSpec) → slice_get net.rings r ≡ Some ring → Turns ring.write t P
  pub read : (r : ℕ) (ring : RingSpec) → slice_get net.rings r ≡ Some ring → Turns ring.read t P
