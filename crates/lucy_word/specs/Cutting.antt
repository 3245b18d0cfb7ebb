-- What the reader's pieces answer of a text that is a form's, and what is kept of its counts while its form is told.
use Rattle.std.specs.Prelude.{ℕ, ◌+◌, ◌^◌, ◌<◌, ◌≤◌, ◌≡◌, ◌++◌, ◌∷◌, List, [], length, slice_index, Bool, true, false, not, ◌==◌, ◌&&◌, if◌then◌else◌, min}
use Rattle.std.specs.List.{AllByRecursion}
use Rattle.std.specs.Str.Parse.{IsNumeral, digits_value}
use Rattle.lucy_word.specs.Bits.{ones_in, most_written}
use Rattle.lucy_word.specs.declared.form.Stage.{Stage}
use Rattle.lucy_word.specs.declared.form.Stage.TheVariants.{Digit, Brace}
use Rattle.lucy_word.specs.Items.{WordItem, digit_of, IsItem, WordForm, items_text, items_bits}
use Rattle.lucy_word.specs.Packing.{is_set}
use Rattle.lucy_word.specs.Spelling.{is_digit}

-- no `(`
abbrev pub is_no_open : ℕ → Bool
is_no_open c = not (c == 40)

-- the texts of prefix and period
pub record IsSplit (prefix period : List ℕ) (f : WordForm) : Type 0 where
  pub prefix_is : prefix ≡ items_text f.prefix
  pub period_is : period ≡ items_text f.period

-- one bit more than a written word may have: no count is told from more
abbrev pub most_count : ℕ
most_count = most_written + 1

-- the text does not begin with this byte
abbrev pub BeginsWithout : ℕ → List ℕ → Type 0
BeginsWithout byte [] = Unit {0}
BeginsWithout byte (c ∷ text) = c ≡ byte → ⊥

-- the digits of a count are read, up to so much, and what follows them and the `}`
abbrev pub IsCounted : List ℕ → ℕ → List ℕ → Type 0
IsCounted text n rest = (ds more : List ℕ) → IsNumeral 10 ds → text ≡ ds ++ 125 ∷ more → (n ≡ min (digits_value 10 ds) most_count) × (rest ≡ more)

-- the digit before the text stands so often: as its count says, or once where no count follows
pub record IsTimes (text : List ℕ) (n : ℕ) (rest : List ℕ) : Type 0 where
  pub counted : (ds more : List ℕ) → IsNumeral 10 ds → text ≡ 123 ∷ (ds ++ 125 ∷ more) → (n ≡ min (digits_value 10 ds) most_count) × (rest ≡ more)
  pub alone : BeginsWithout 123 text → (n ≡ 1) × (rest ≡ text)

-- the first n bytes are digits, whose bits a number has
pub record AreDigits (text : List ℕ) (n limb : ℕ) : Type 0 where
  pub within : n ≤ length text
  pub below : limb < 2 ^ n
  pub digits : (k : ℕ) → k < n → slice_index text k ≡ digit_of (is_set limb k)

-- each of them alone: the last one has no count
pub record AreAlone (text : List ℕ) (n limb : ℕ) : Type 0 where
  pub are : AreDigits text n limb
  pub last : 0 < n → slice_index text n ≡ 123 → ⊥

-- how many ones a digit is that stands there so often
abbrev pub ones_of : ℕ → ℕ → ℕ
ones_of c n = if c == 49 then n else 0

-- the first items are so many bits and ones, told up to `most_count`, and the text of the others is what follows
pub record AddsFirst (is : List WordItem) (bits ones : ℕ) (rest : List ℕ) : Type 0 where
  pub others : List WordItem
  pub are : AllByRecursion IsItem others
  pub left : rest ≡ items_text others
  pub least : bits ≤ length (items_bits is)
  pub bits_are : bits < most_count → length (items_bits is) ≡ bits + length (items_bits others)
  pub ones_are : bits < most_count → ones_in (items_bits is) ≡ ones + ones_in (items_bits others)

-- the same of the text of items
abbrev pub AddsUp : List ℕ → ℕ → ℕ → List ℕ → Type 0
AddsUp text bits ones rest = (is : List WordItem) → AllByRecursion IsItem is → text ≡ items_text is → AddsFirst is bits ones rest

-- a digit was read last that may stand alone
abbrev pub at_digit : Stage → Bool
at_digit (Digit inside) = true
at_digit s = false

-- the bytes from one place to another are digits
pub record IsDigitRun (text : List ℕ) (from to : ℕ) : Type 0 where
  pub ordered : from ≤ to
  pub within : from ≤ length text → to ≤ length text
  pub digits : (k : ℕ) → from ≤ k → k < to → is_digit (slice_index text k) ≡ true

-- and leave the stage as it is: they stand behind a digit, or are none
pub record Stays (text : List ℕ) (s : Stage) (from to : ℕ) : Type 0 where
  pub run : IsDigitRun text from to
  pub behind : from < to → at_digit s ≡ true

-- the digits of a count begin with the next byte
abbrev pub at_count : Stage → Bool
at_count (Brace inside) = true
at_count s = false

-- where the digits of the last count begin, behind one byte more
abbrev pub count_from : Stage → ℕ → ℕ → ℕ
count_from s i from = if at_count s then i else from

-- and whether they are all 0
abbrev pub all_zeros : Stage → Bool → ℕ → Bool
all_zeros s zeros c = if at_count s then c == 48 else (zeros && c == 48)
