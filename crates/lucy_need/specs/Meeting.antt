-- When an assignment of words to clocks meets a need (Cohen and others 2006; Mandel, Plateau and Pouzet 2010). Clock 0 is the
-- base of a node, whose word is (1).
use Rattle.std.specs.Prelude.{ℕ, ◌+◌, ◌<◌, ◌≤◌, ◌≡◌, Bool, List, length, slice_index_or, sum_by}
use Rattle.std.specs.List.{AllByRecursion}
use Rattle.lucy_word.specs.Bits.{Bits, IsWord, bit_count}
use Rattle.lucy_word.specs.Always.{always}
use Rattle.lucy_word.specs.Limits.{limit_number}
use Rattle.lucy_word.specs.declared.limit.Limit.TheVariants as limit
use Rattle.lucy_word.specs.Sampling.{bit_on, IsOn}
use Rattle.lucy_word.specs.Adaptable.{IsAdaptable}
use Rattle.lucy_word.specs.Shortest.{Same}
use Rattle.lucy_need.specs.declared.need.Term.{Term}
use Rattle.lucy_need.specs.declared.need.Need.{Need}
use Rattle.lucy_need.specs.declared.need.Need.TheVariants.{Equal, Adapt}
use Rattle.lucy_need.specs.declared.need.Needs.{Needs}

-- a word for each clock, by its number
abbrev pub Assignment : Type 0
Assignment = ℕ → Bits

-- the clocks below this number have words
abbrev pub AreWordsIn : Assignment → ℕ → Type 0
AreWordsIn w clocks = (c : ℕ) → c < clocks → IsWord (w c)

-- a clock on a word
abbrev pub term : ℕ → Bits → Term
term clock word = record { clock = clock; word = word }

-- a clock alone: on (1)
abbrev pub alone : ℕ → Term
alone clock = term clock always

-- the bit of a term at an instant: that of the clock's word on the term's word
abbrev pub term_bit : Assignment → Term → ℕ → Bool
term_bit w t i = bit_on (w t.clock) t.word i

-- the first term of a need
abbrev pub first_of : Need → Term
first_of (Equal s t) = s
first_of (Adapt s t) = s

-- and the second
abbrev pub second_of : Need → Term
second_of (Equal s t) = t
second_of (Adapt s t) = t

-- the terms have the same bits at every instant
abbrev pub AreEqual : Assignment → Term → Term → Type 0
AreEqual w s t = (i : ℕ) → 0 < i → term_bit w s i ≡ term_bit w t i

-- the word has the bits of the term
pub record IsTermWord (w : Assignment) (t : Term) (word : Bits) : Type 0 where
  pub is_word : IsWord word
  pub on : IsOn (w t.clock) t.word word

-- the terms have words, and what the first gives the second may take through a buffer
pub record AreAdaptable (w : Assignment) (s t : Term) : Type 0 where
  pub first : Bits
  pub second : Bits
  pub of_first : IsTermWord w s first
  pub of_second : IsTermWord w t second
  pub adaptable : IsAdaptable first second

-- the assignment meets the need
abbrev pub Meets : Assignment → Need → Type 0
Meets w (Equal s t) = AreEqual w s t
Meets w (Adapt s t) = AreAdaptable w s t

-- it meets each of them
abbrev pub MeetsAll : Assignment → List Need → Type 0
MeetsAll w needs = AllByRecursion (Meets w) needs

-- the need names clocks below this number
abbrev pub IsWithin : ℕ → Need → Type 0
IsWithin clocks (Equal s t) = (s.clock < clocks) × (t.clock < clocks)
IsWithin clocks (Adapt s t) = (s.clock < clocks) × (t.clock < clocks)

-- how many needs a node has at most
abbrev pub most_needs : ℕ
most_needs = limit_number limit.Needs

-- what each call that takes needs asks of them: they name the node's clocks, and are not too many
pub record AreProperNeeds (needs : Needs) : Type 0 where
  pub within : AllByRecursion (IsWithin needs.clocks) needs.list
  pub few : length needs.list ≤ most_needs

-- two assignments have the same bits for each clock below this number
abbrev pub Agree : Assignment → Assignment → ℕ → Type 0
Agree v w clocks = (c : ℕ) → c < clocks → Same (v c) (w c)

-- the assignment that a list of words is, by their numbers
abbrev pub assigned : List Bits → Assignment
assigned words c = slice_index_or words c always

-- how many bits words have
abbrev pub word_bits : List Bits → ℕ
word_bits words = sum_by bit_count words

-- how many bits the words of a need have
abbrev pub need_bits : Need → ℕ
need_bits (Equal s t) = bit_count s.word + bit_count t.word
need_bits (Adapt s t) = bit_count s.word + bit_count t.word

-- and those of a list of needs
abbrev pub all_bits : List Need → ℕ
all_bits needs = sum_by need_bits needs
