-- Words that are lent, made, or kept of a need before.
use Rattle.std.specs.Prelude.{Option, Some, None}
use Rattle.lucy_word.specs.Bits.{Bits}
use Rattle.lucy_need.specs.Meeting.{Assignment}
use Rattle.lucy_check.specs.declared.need.Sampled.{Sampled}
use Rattle.lucy_check.specs.declared.need.Sampled.TheVariants.{Lent, Made}
use Rattle.lucy_check.specs.declared.need.Kept.{Kept}
use Rattle.lucy_check.specs.Passing.{IsTermPassing}

-- the word, whichever it is
abbrev pub seen : Sampled → Bits
seen (Lent word) = word.now
seen (Made word) = word

-- a word that is kept is that of its term
abbrev pub IsKept : Assignment → Option Kept → Type 0
IsKept w None = Unit {0}
IsKept w (Some kept) = IsTermPassing w kept.term.now kept.word
