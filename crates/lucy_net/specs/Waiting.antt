-- Actors that wait for each other within an instant.
use Rattle.std.specs.Prelude.{ℕ, ◌+◌, ◌-◌, ◌<◌, ◌≤◌, ◌≡◌, ◌++◌, ◌∷◌, [], List, map, length, nat_eq, count_by, slice_get, slice_set, slice_index, slice_index_or, take, drop, Some}
use Rattle.lucy_stream.specs.Systems.{Takes}
use Rattle.lucy_stream.specs.Needs.{StreamItem}
use Rattle.lucy_net.specs.declared.net.Net.{Net}
use Rattle.lucy_net.specs.Plans.{giver}
use Rattle.lucy_net.specs.declared.settle.Wait.{Wait}
use Rattle.lucy_net.specs.Faults.{item_now}
use Rattle.lucy_net.specs.Instants.{slot}

-- the actor wants an item of the ring, which holds none
pub record IsHeldUp (net : Net) (before : ℕ) (steps held : List ℕ) (a r : ℕ) : Type 0 where
  pub takes : slice_get (slot net before a) (slice_index steps a) ≡ Some (Takes r)
  pub there : r < length net.rings
  pub empty : slice_index held r ≡ 0

-- the actor of a wait, and the one that goes on now where there is none
abbrev pub actor_at : List Wait → ℕ → ℕ → ℕ
actor_at waits now k = slice_index_or (map (λ w. w.actor) waits) k now

-- the ring of a wait
abbrev pub ring_at : List Wait → ℕ → ℕ
ring_at waits k = slice_index (map (λ w. w.ring) waits) k

-- actors that wait, each for the giver that comes next, and the last of them for the one that goes on now; each is marked
-- with its place, counted from 1, and no other actor is marked
pub record IsStack (net : Net) (before : ℕ) (steps held depth : List ℕ) (waits : List Wait) (first now : ℕ) : Type 0 where
  pub depths : length depth ≡ length net.actors
  pub bottom : actor_at waits now 0 ≡ first
  pub each : (k : ℕ) → k < length waits → IsHeldUp net before steps held (actor_at waits now k) (ring_at waits k)
  pub next : (k : ℕ) → k < length waits → giver net (ring_at waits k) ≡ actor_at waits now (k + 1)
  pub marks : (k : ℕ) → k < length waits → slice_index depth (actor_at waits now k) ≡ k + 1
  pub marked : (a : ℕ) → 0 < slice_index depth a → (slice_index depth a ≤ length waits) × (actor_at waits now (slice_index depth a - 1) ≡ a)
  pub unmarked : slice_index depth now ≡ 0
  pub count : count_by (λ d. nat_eq d 0) depth + length waits ≡ length depth
  pub within : now < length net.actors

-- each waits for the next one, and the last for the first
pub record IsKnot (net : Net) (before : ℕ) (steps held : List ℕ) (waits : List Wait) : Type 0 where
  pub some : 0 < length waits
  pub each : (k : ℕ) → k < length waits → IsHeldUp net before steps held (actor_at waits 0 k) (ring_at waits k)
  pub next : (k : ℕ) → k + 1 < length waits → giver net (ring_at waits k) ≡ actor_at waits 0 (k + 1)
  pub closed : giver net (ring_at waits (length waits - 1)) ≡ actor_at waits 0 0

-- who goes on: where the top of the stack waited for this ring, that actor, which then waits and is marked no more, else the
-- one that went on before
pub record IsResumed (waits new_waits : List Wait) (depth new_depth : List ℕ) (now ring next : ℕ) : Type 0 where
  pub waited : 0 < length waits → ring_at waits (length waits - 1) ≡ ring →
      (next ≡ actor_at waits now (length waits - 1)) × (new_waits ≡ take (length waits - 1) waits) × (new_depth ≡ slice_set depth next 0)
  pub otherwise : (0 < length waits → ring_at waits (length waits - 1) ≡ ring → ⊥) → (next ≡ now) × (new_waits ≡ waits) × (new_depth ≡ depth)

-- the actor waits now too, as the last one, and is marked with its place, counted from 1
pub record IsPutToWait (waits new_waits : List Wait) (depth new_depth : List ℕ) (actor ring : ℕ) : Type 0 where
  pub last : new_waits ≡ waits ++ record { actor = actor; ring = ring } ∷ []
  pub marked : new_depth ≡ slice_set depth actor (length waits + 1)

-- the same ones in turn, from one of the least number on
pub record IsTurnedToLeast (waits new_waits : List Wait) : Type 0 where
  pub place : ℕ
  pub there : place < length waits
  pub least : (k : ℕ) → k < length waits → actor_at waits 0 place ≤ actor_at waits 0 k
  pub turned : new_waits ≡ drop place waits ++ take place waits

-- the items that they give in an instant, turned so
abbrev pub AreItemsInTurn : Net → ℕ → List Wait → List StreamItem → Type 0
AreItemsInTurn net instant waits items = (turned : List Wait) × IsTurnedToLeast waits turned × (items ≡ map (λ wait. item_now net instant wait.actor) turned)
