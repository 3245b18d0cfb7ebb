-- What needs say of the words of clocks.
use Rattle.std.specs.Prelude.{ℕ, ◌↔◌}
use Rattle.lucy_word.specs.Bits.{Bits, IsWord}
use Rattle.lucy_word.specs.Shortest.{Same}
use Rattle.lucy_word.specs.Sampling.{IsOn}
use Rattle.lucy_word.specs.Adaptable.{IsAdaptable}
use Rattle.lucy_need.specs.declared.need.Need.{Need}
use Rattle.lucy_need.specs.declared.need.Need.TheVariants.{Equal, Adapt}
use Rattle.lucy_need.specs.Meeting.{Assignment, Agree, IsWithin, Meets, alone, term}

-- words with the same bits meet the same needs
abbrev pub BitsLaw : Type 0
BitsLaw = (v w : Assignment) (clocks : ℕ) (need : Need) → Agree v w clocks → IsWithin clocks need → Meets v need → Meets w need

-- two clocks are equal exactly where their words have the same bits
abbrev pub EqualLaw : Type 0
EqualLaw = (w : Assignment) (a b : ℕ) → Meets w (Equal (alone a) (alone b)) ↔ Same (w a) (w b)

-- a clock equals another on a word exactly where its word is that sampling
abbrev pub SampledLaw : Type 0
SampledLaw = (w : Assignment) (a b : ℕ) (word : Bits) → Meets w (Equal (alone a) (term b word)) ↔ IsOn (w b) word (w a)

-- a clock is adaptable to another exactly where its word is to the other's
abbrev pub AdaptLaw : Type 0
AdaptLaw = (w : Assignment) (a b : ℕ) → IsWord (w a) → IsWord (w b) → Meets w (Adapt (alone a) (alone b)) ↔ IsAdaptable (w a) (w b)
