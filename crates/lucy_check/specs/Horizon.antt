-- How many instants decide about all of them.
use Rattle.std.specs.Prelude.{ℕ, ◌+◌, ◌*◌, ◌<◌, ◌≤◌, ◌≡◌, length, max}
use Rattle.lucy_word.specs.Bits.{Bits, bit_count}
use Rattle.lucy_word.specs.Limits.{limit_number}
use Rattle.lucy_word.specs.declared.limit.Limit.TheVariants as limit
use Rattle.lucy_word.specs.Multiple.{IsLcm}

-- so many instants have the longer prefix and a common period in them
abbrev pub AreDecidedBy : Bits → Bits → ℕ → Type 0
AreDecidedBy a b n = (common : ℕ) × IsLcm (length a.period) (length b.period) common × (n ≡ max (length a.prefix) (length b.prefix) + common)

-- so many instants decide about the words that they are not compared
abbrev pub AreFar : Bits → Bits → Type 0
AreFar a b = (n : ℕ) × AreDecidedBy a b n × (limit_number limit.Compare < n)

-- it has at most 64 instants for each bit of the words
abbrev pub IsHorizonNear : Bits → Bits → Type 0
IsHorizonNear a b = (n : ℕ) × AreDecidedBy a b n × (n ≤ 64 * (bit_count a + bit_count b))
