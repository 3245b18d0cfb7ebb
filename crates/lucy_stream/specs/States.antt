-- The values that events move. What an actor gives depends on what it took.
use Rattle.std.specs.Prelude.{ℕ, ◌<◌, ◌≡◌, List, [], ◌∷◌, ◌++◌, ℤ, length, take, drop, nat_eq, if◌then◌else◌}
use Rattle.lucy_stream.specs.Items.{item_at}
use Rattle.lucy_stream.specs.Fronts.{IsFront}
use Rattle.lucy_stream.specs.Systems.{RingOp, Takes, Gives, System, op_at, gives_before, takes_before, given, taken}
use Rattle.lucy_stream.specs.Runs.{step, none_done, IsRun, IsWithin}

-- a system, and what an actor gives at an operation by the lists that were taken from the rings
pub record Machine : Type 0 where
  pub sys : System
  pub value : ℕ → ℕ → (ℕ → List ℤ) → ℤ

-- only what the actor itself took counts
abbrev pub IsLocal : Machine → Type 0
IsLocal m = (a n : ℕ) (took other : ℕ → List ℤ) → ((r : ℕ) → m.sys.to r ≡ a → took r ≡ other r) → m.value a n took ≡ m.value a n other

-- the number of operations that each actor has done, and the lists given to and taken from each ring (the list of an
-- actor that puts out what it takes is the list taken from its ring)
pub record State : Type 0 where
  pub done : ℕ → ℕ
  pub gave : ℕ → List ℤ
  pub took : ℕ → List ℤ

-- nothing is done, and the rings are empty
abbrev pub start : State
start = record { done = none_done; gave = λ (r : ℕ). []; took = λ (r : ℕ). [] }

-- what is held on a ring: what was given and not taken
abbrev pub held : State → ℕ → List ℤ
held s r = drop (length (s.took r)) (s.gave r)

-- the list given to a ring, after an operation: a give appends its value
abbrev pub gave_after : RingOp → ℕ → ℤ → List ℤ → List ℤ
gave_after (Takes q) r value gave = gave
gave_after (Gives q) r value gave = if nat_eq q r then gave ++ value ∷ [] else gave

-- the list taken from a ring, after an operation: a take removes the oldest of what is held
abbrev pub took_after : RingOp → ℕ → List ℤ → List ℤ → List ℤ
took_after (Takes q) r held took = if nat_eq q r then took ++ take 1 held else took
took_after (Gives q) r held took = took

-- the event of the actor
abbrev pub event : Machine → State → ℕ → State
event m s a = record {
  done = step s.done a;
  gave = λ (r : ℕ). gave_after (op_at m.sys a (s.done a)) r (m.value a (s.done a) s.took) (s.gave r);
  took = λ (r : ℕ). took_after (op_at m.sys a (s.done a)) r (held s r) (s.took r);
}

-- the events of the actors, one after another
abbrev pub events : Machine → State → List ℕ → State
events m s [] = s
events m s (a ∷ picks) = events m (event m s a) picks

-- the same numbers, and the same lists on each ring
pub record IsSame (s t : State) : Type 0 where
  pub done : (a : ℕ) → s.done a ≡ t.done a
  pub gave : (r : ℕ) → s.gave r ≡ t.gave r
  pub took : (r : ℕ) → s.took r ≡ t.took r

-- the counts are within their bounds, the lists are as long as the operations done say, what was taken is a front of what was
-- given, and each give was the actor's value of what the actor had taken by then
pub record IsState (m : Machine) (s : State) : Type 0 where
  pub within : IsWithin m.sys s.done
  pub gave_count : (r : ℕ) → length (s.gave r) ≡ given m.sys s.done r
  pub took_count : (r : ℕ) → length (s.took r) ≡ taken m.sys s.done r
  pub fronts : (r : ℕ) → IsFront (s.took r) (s.gave r)
  pub values : (a n r : ℕ) → n < s.done a → op_at m.sys a n ≡ Gives r →
      item_at (s.gave r) (gives_before m.sys a n r) ≡ m.value a n (λ q. take (takes_before m.sys a n q) (s.took q))

-- the events are a run from the one state, which ends in the other
pub record Reaches (m : Machine) (s : State) (picks : List ℕ) (t : State) : Type 0 where
  pub run : IsRun m.sys s.done picks
  pub ends : IsSame (events m s picks) t
