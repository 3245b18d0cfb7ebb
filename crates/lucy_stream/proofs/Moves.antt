-- What events move.
use Rattle.std.proofs.Common.{ℕ, List, [], ◌∷◌}
use Rattle.std.specs.Prelude.{ℤ, pos}
use Rattle.lucy_stream.specs.Items.{item_at}
use Rattle.lucy_stream.specs.Systems.{RingOp, Takes, Gives, op_at}
use Rattle.lucy_stream.specs.States.{Machine, State, held, event}

-- the operation of an event, and the item that it moves
pub record Move : Type 0 where
  pub op : RingOp
  pub item : ℤ

-- a take moves the oldest item that is held, a give its value
abbrev pub item_of : Machine → State → ℕ → RingOp → ℤ
item_of m s a (Takes r) = item_at (held s r) 0
item_of m s a (Gives r) = m.value a (s.done a) s.took

abbrev pub move : Machine → State → ℕ → Move
move m s a = record { op = op_at m.sys a (s.done a); item = item_of m s a (op_at m.sys a (s.done a)) }

-- those of events one after another
abbrev pub moves : Machine → State → List ℕ → List Move
moves m s [] = []
moves m s (a ∷ picks) = move m s a ∷ moves m (event m s a) picks

abbrev pub takes : ℕ → ℕ → Move
takes ring item = record { op = Takes ring; item = pos item }

abbrev pub gives : ℕ → ℕ → Move
gives ring item = record { op = Gives ring; item = pos item }
