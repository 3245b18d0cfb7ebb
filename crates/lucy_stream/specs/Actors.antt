-- One actor by itself: what holds of its own counts, lists and values, whatever the other actors do.
use Rattle.std.specs.Prelude.{ℕ, ◌<◌, ◌≤◌, ◌≡◌, [], ◌∷◌, ℤ, length, take}
use Rattle.lucy_stream.specs.Items.{item_at}
use Rattle.lucy_stream.specs.Systems.{Gives, System, op_at, gives_before, takes_before, given, taken}
use Rattle.lucy_stream.specs.Runs.{step}
use Rattle.lucy_stream.specs.States.{Machine, State, gave_after, took_after}

-- the actor is within its list, the lists of its own rings are as long as its operations done say, and each of its gives was
-- its value of what it had taken by then
pub record StandsAs (m : Machine) (a : ℕ) (s : State) : Type 0 where
  pub listed : s.done a ≤ length (m.sys.ops a)
  pub gave_count : (r : ℕ) → m.sys.from r ≡ a → length (s.gave r) ≡ given m.sys s.done r
  pub took_count : (r : ℕ) → m.sys.to r ≡ a → length (s.took r) ≡ taken m.sys s.done r
  pub values : (n r : ℕ) → n < s.done a → op_at m.sys a n ≡ Gives r →
      item_at (s.gave r) (gives_before m.sys a n r) ≡ m.value a n (λ q. take (takes_before m.sys a n q) (s.took q))

-- the next operation of the actor, where a take takes this item, whatever the ring held
abbrev pub moved : Machine → State → ℕ → ℤ → State
moved m s a item = record {
  done = step s.done a;
  gave = λ (r : ℕ). gave_after (op_at m.sys a (s.done a)) r (m.value a (s.done a) s.took) (s.gave r);
  took = λ (r : ℕ). took_after (op_at m.sys a (s.done a)) r (item ∷ []) (s.took r);
}

-- the two states say the same of the actor
pub record IsSameAt (sys : System) (a : ℕ) (s t : State) : Type 0 where
  pub done : t.done a ≡ s.done a
  pub gave : (r : ℕ) → sys.from r ≡ a → t.gave r ≡ s.gave r
  pub took : (r : ℕ) → sys.to r ≡ a → t.took r ≡ s.took r
