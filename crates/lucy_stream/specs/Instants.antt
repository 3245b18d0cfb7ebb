-- One instant of a system, from the counts before it to those after it.
use Rattle.std.specs.Prelude.{ℕ, ◌+◌, ◌<◌, ◌≤◌, ◌≡◌, drop}
use Rattle.lucy_stream.specs.Systems.{Takes, System, op_at, given, taken}
use Rattle.lucy_stream.specs.Runs.{IsListed}

-- what adaptability says of an instant: a ring holds at most its size before it, one item at most is given to a ring in it,
-- and what is taken in it was given before or in it
pub record IsInstant (sys : System) (before after : ℕ → ℕ) : Type 0 where
  pub listed : IsListed sys after
  pub fits : (r : ℕ) → given sys before r ≤ taken sys before r + sys.size r
  pub one : (r : ℕ) → given sys after r ≤ given sys before r + 1
  pub there : (r : ℕ) → taken sys after r ≤ given sys after r

-- the actor waits for an item of the ring, which the ring's giver has still to give in the instant
pub record Waits (sys : System) (after done : ℕ → ℕ) (a r : ℕ) : Type 0 where
  pub takes : op_at sys a (done a) ≡ Takes r
  pub empty : given sys done r ≤ taken sys done r
  pub later : given sys done r < given sys after r
  pub giver : done (sys.from r) < after (sys.from r)

-- the actors have the same operations left, and each ring has the same size and holds as many items
pub record IsAlike (sys : System) (done : ℕ → ℕ) (other : System) (there : ℕ → ℕ) : Type 0 where
  pub size : (r : ℕ) → other.size r ≡ sys.size r
  pub left : (a : ℕ) → drop (done a) (sys.ops a) ≡ drop (there a) (other.ops a)
  pub held : (r : ℕ) → given sys done r + taken other there r ≡ given other there r + taken sys done r
