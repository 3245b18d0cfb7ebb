-- The word of what comes at every instant, (1), and those of what comes late.
use Rattle.std.specs.Prelude.{ℕ, true, false, replicate, [], ◌∷◌}
use Rattle.lucy_word.specs.Bits.{Bits}

-- a one at every instant
abbrev pub always : Bits
always = record { prefix = []; period = true ∷ [] }

-- 0^n(1): so many zeros, and then ones for ever
abbrev pub delayed : ℕ → Bits
delayed zeros = record { prefix = replicate zeros false; period = true ∷ [] }
