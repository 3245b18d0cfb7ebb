-- How far one word is ahead of another at some of the instants.
use Rattle.std.specs.Prelude.{ℕ, ◌+◌, ◌≤◌, ◌≡◌}
use Rattle.lucy_word.specs.Bits.{Bits, ones_to}

-- a lead of a over b that some instant has, or 0 has, and that none of these instants passes
pub record IsLeadAmong (a b : Bits) (These : ℕ → Type 0) (lead : ℕ) : Type 0 where
  pub reached : (i : ℕ) × (ones_to a i ≡ ones_to b i + lead)
  pub passed : (i : ℕ) → These i → ones_to a i ≤ ones_to b i + lead
