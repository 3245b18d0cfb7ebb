-- The ring operations of an actor, by its form, by the rings that it takes from, one for each operand in order, and by the
-- rings that it gives to.
use Rattle.std.specs.Prelude.{ℕ, suc, zero, ◌+◌, ◌<◌, List, [], ◌∷◌, ◌++◌, map, length, replicate, slice_index_or, if◌then◌else◌}
use Rattle.lucy_word.specs.Bits.{bit_at}
use Rattle.lucy_stream.specs.Forms.{Form, Kept, Merged, Delayed}
use Rattle.lucy_stream.specs.Systems.{RingOp, Takes, Gives}

-- those of one firing after `fired` others: a sampling gives only where its word has a one, a merge takes from one of its
-- two rings, a delay gives before it takes, and every other form takes from all and then gives to all
abbrev pub firing_ops : Form → List ℕ → List ℕ → ℕ → List RingOp
firing_ops (Kept word) takes gives fired = map Takes takes ++ (if bit_at word (fired + 1) then map Gives gives else [])
firing_ops (Merged word) takes gives fired = Takes (if bit_at word (fired + 1) then slice_index_or takes 0 0 else slice_index_or takes 1 0) ∷ map Gives gives
firing_ops (Delayed first) takes gives fired = map Gives gives ++ map Takes takes
firing_ops form takes gives fired = map Takes takes ++ map Gives gives

-- those of the first firings, up to a quota
abbrev pub ops_of : Form → List ℕ → List ℕ → ℕ → List RingOp
ops_of form takes gives zero = []
ops_of form takes gives (suc fired) = ops_of form takes gives fired ++ firing_ops form takes gives fired

-- for each of these operations, how many firings are done before its own
abbrev pub fired_at : Form → List ℕ → List ℕ → ℕ → List ℕ
fired_at form takes gives zero = []
fired_at form takes gives (suc fired) = fired_at form takes gives fired ++ replicate (length (firing_ops form takes gives fired)) fired

-- the operation is on one of the first rings, so many of them
abbrev pub IsOnRings : ℕ → RingOp → Type 0
IsOnRings count (Takes r) = r < count
IsOnRings count (Gives r) = r < count
