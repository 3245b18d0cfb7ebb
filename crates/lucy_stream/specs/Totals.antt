-- How many events are done by all actors together.
use Rattle.std.specs.Prelude.{ℕ, suc, zero, ◌+◌, ◌≤◌, ◌≡◌, length}
use Rattle.lucy_stream.specs.Systems.{System}

-- the sum of the counts of the first actors, so many of them
abbrev pub total : ℕ → (ℕ → ℕ) → ℕ
total zero done = 0
total (suc n) done = total n done + done n

-- only the first actors have operations, so many of them
abbrev pub OnlyFirst : System → ℕ → Type 0
OnlyFirst sys n = (a : ℕ) → n ≤ a → length (sys.ops a) ≡ 0
