-- When the words of a net are found to have too many instants together.
use Rattle.std.specs.Prelude.{ℕ, ◌+◌, ◌<◌}
use Rattle.lucy_word.specs.Limits.{limit_number}
use Rattle.lucy_word.specs.declared.limit.Limit.TheVariants as limit
use Rattle.lucy_net.specs.declared.net.Net.{Net}
use Rattle.lucy_net.specs.Words.{net_words}
use Rattle.lucy_net.specs.Lengths.{AreLengths}

-- whatever their lengths are, they are more than a schedule may have
abbrev pub AreTooMany : Net → Type 0
AreTooMany net = (prefix period : ℕ) → AreLengths (net_words net) prefix period → limit_number limit.Schedule < prefix + period
