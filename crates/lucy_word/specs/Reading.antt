-- What a text is read as: a word, or one refusal.
use Rattle.std.specs.Prelude.{ℕ, ◌⊎◌, ◌<◌, ◌≤◌, ◌≡◌, List, Result, Ok, Err}
use Rattle.lucy_word.specs.Bits.{Bits, ones_in, bit_count, most_written}
use Rattle.lucy_word.specs.Shortest.{IsShortForm}
use Rattle.lucy_word.specs.Spelling.{Spells}
use Rattle.lucy_word.specs.Forms.{IsBadAt}
use Rattle.lucy_word.specs.declared.error.WordError.{WordError}
use Rattle.lucy_word.specs.declared.error.WordError.TheVariants.{BadWord, TooLong, NoOne, OutOfMemory}

-- the text spells bits that are no more than a written word may have, with a one in the period, and w is their shortest form
abbrev pub IsReadable : List ℕ → Bits → Type 0
IsReadable text w = (bits : Bits) × Spells text bits × (bit_count bits ≤ most_written) × (0 < ones_in bits.period) × IsShortForm bits w

-- the text is refused so: for its form, else for its length, else for its period (never for want of memory)
abbrev pub RefusesWordText : List ℕ → WordError → Type 0
RefusesWordText text (BadWord place) = IsBadAt text place
RefusesWordText text TooLong = (w : Bits) × Spells text w × (most_written < bit_count w)
RefusesWordText text NoOne = (w : Bits) × Spells text w × (bit_count w ≤ most_written) × (ones_in w.period ≡ 0)
RefusesWordText text OutOfMemory = ⊥

-- the text is answered so
abbrev pub AnswersText : List ℕ → Result Bits WordError → Type 0
AnswersText text (Ok w) = IsReadable text w
AnswersText text (Err e) = RefusesWordText text e

-- the answer is the text's one answer, unless memory ran out
abbrev pub OnlyAnswer : List ℕ → Result Bits WordError → Type 0
OnlyAnswer text given = (answer : Result Bits WordError) → AnswersText text answer → (given ≡ Err OutOfMemory) ⊎ (given ≡ answer)
