-- Items of a written word: a digit 0 or 1, alone, or with braces and in them how many times it stands there.
use Rattle.std.specs.Prelude.{ℕ, ◌<◌, Bool, List, [], ◌∷◌, ◌++◌, length, if◌then◌else◌, replicate}
use Rattle.std.specs.List.{AllByRecursion}
use Rattle.std.specs.Str.Parse.{IsNumeral, digits_value}
use Rattle.lucy_word.specs.Bits.{Bits}

-- a digit alone, or with the decimal digits of its count
pub data WordItem : Type 0 where
  alone : Bool → WordItem
  counted : Bool → List ℕ → WordItem

-- the digit of a bit
abbrev pub digit_of : Bool → ℕ
digit_of bit = if bit then 49 else 48

-- how an item is spelled, as `1` or `1{720}`
abbrev pub item_text : WordItem → List ℕ
item_text (alone bit) = digit_of bit ∷ []
item_text (counted bit ds) = digit_of bit ∷ 123 ∷ (ds ++ 125 ∷ [])

-- items, one behind the other
abbrev pub items_text : List WordItem → List ℕ
items_text [] = []
items_text (i ∷ is) = item_text i ++ items_text is

-- how many times its digit stands there
abbrev pub repeats_of : WordItem → ℕ
repeats_of (alone bit) = 1
repeats_of (counted bit ds) = digits_value 10 ds

-- the bits that an item stands for
abbrev pub item_bits : WordItem → List Bool
item_bits (alone bit) = bit ∷ []
item_bits (counted bit ds) = replicate (digits_value 10 ds) bit

-- the bits that items stand for
abbrev pub items_bits : List WordItem → List Bool
items_bits [] = []
items_bits (i ∷ is) = item_bits i ++ items_bits is

-- a count has a decimal digit at least, and leading zeros are fine
abbrev pub IsItem : WordItem → Type 0
IsItem (alone bit) = Unit {0}
IsItem (counted bit ds) = IsNumeral 10 ds

-- a count is not 0
abbrev pub HasCount : WordItem → Type 0
HasCount i = 0 < repeats_of i

-- the items of a prefix, and those of a period
pub record WordForm : Type 0 where
  pub prefix : List WordItem
  pub period : List WordItem

-- the text of a form: the items of the prefix, and in parentheses those of the period
abbrev pub form_text : WordForm → List ℕ
form_text f = items_text f.prefix ++ 40 ∷ (items_text f.period ++ 41 ∷ [])

-- the bits that it stands for
abbrev pub form_bits : WordForm → Bits
form_bits f = record { prefix = items_bits f.prefix; period = items_bits f.period }

-- its items are items, and the period has one
pub record IsForm (f : WordForm) : Type 0 where
  pub prefix : AllByRecursion IsItem f.prefix
  pub period : AllByRecursion IsItem f.period
  pub nonempty : 0 < length f.period

-- no count is 0
pub record HasCounts (f : WordForm) : Type 0 where
  pub prefix : AllByRecursion HasCount f.prefix
  pub period : AllByRecursion HasCount f.period
