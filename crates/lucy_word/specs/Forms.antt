-- Where the text of a word breaks its form, or has a count that is 0.
use Rattle.std.specs.Prelude.{ℕ, ◌+◌, ◌<◌, ◌≤◌, ◌≡◌, ◌⊎◌, Bool, List, ◌∷◌, ◌++◌, length, take}
use Rattle.std.specs.List.{AllByRecursion}
use Rattle.std.specs.Str.Parse.{IsNumeral, digits_value}
use Rattle.lucy_word.specs.Items.{WordItem, counted, item_text, items_text, IsItem, WordForm, form_text, IsForm}

-- the bytes are a front of the text of a form
abbrev pub BeginsForm : List ℕ → Type 0
BeginsForm front = (f : WordForm) × (rest : List ℕ) × IsForm f × (front ++ rest ≡ form_text f)

-- the text is that of no form, and the byte at this offset, or the text's end there, is the first that does not fit
pub record IsUnfitAt (text : List ℕ) (place : ℕ) : Type 0 where
  pub none : (f : WordForm) → IsForm f → text ≡ form_text f → ⊥
  pub within : place ≤ length text
  pub fits : BeginsForm (take place text)
  pub stops : place < length text → BeginsForm (take (place + 1) text) → ⊥

-- whole items of a prefix, or a prefix with its `(` and whole items of a period
abbrev pub AreItems : List ℕ → Type 0
AreItems text = ((is : List WordItem) × AllByRecursion IsItem is × (text ≡ items_text is))
    ⊎ ((is : List WordItem) × (js : List WordItem) × AllByRecursion IsItem is × AllByRecursion IsItem js × (text ≡ items_text is ++ 40 ∷ items_text js))

-- a count that is 0 has its first digit at this offset
pub record IsZeroAt (text : List ℕ) (place : ℕ) : Type 0 where
  pub front : List ℕ
  pub items : AreItems front
  pub bit : Bool
  pub digits : List ℕ
  pub rest : List ℕ
  pub whole : text ≡ front ++ (item_text (counted bit digits) ++ rest)
  pub numeral : IsNumeral 10 digits
  pub zero : digits_value 10 digits ≡ 0
  pub at : place ≡ length front + 2

-- the form breaks there, or a count is 0
abbrev pub IsBreak : List ℕ → ℕ → Type 0
IsBreak text place = IsUnfitAt text place ⊎ IsZeroAt text place

-- and this is the least such offset
pub record IsBadAt (text : List ℕ) (place : ℕ) : Type 0 where
  pub breaks : IsBreak text place
  pub least : (other : ℕ) → IsBreak text other → place ≤ other
