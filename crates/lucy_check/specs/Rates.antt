-- Rates that may differ.
use Rattle.std.specs.Prelude.{◌*◌, ◌≤◌, length}
use Rattle.lucy_word.specs.Bits.{Bits, ones_in}

-- a is no slower than b: its period has at least the share of ones that the period of b has
abbrev pub IsNoSlower : Bits → Bits → Type 0
IsNoSlower a b = ones_in b.period * length a.period ≤ ones_in a.period * length b.period
