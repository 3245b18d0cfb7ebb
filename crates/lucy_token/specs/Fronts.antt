-- What stands at the front of a text: blanks or a comment, a token, or a byte that can't stand there.
use Rattle.std.specs.Prelude.{ℕ, ◌+◌, ◌≡◌, ◌≤◌, ◌<◌, Bool, List, [], ◌∷◌, length, take, drop, Option, Some, None, if◌then◌else◌, ◌==◌, ◌&&◌, ◌||◌, nat_le, option_map}
use Rattle.std.specs.Option.{option_map_or}
use Rattle.std.specs.List.{prefix_len}
use Rattle.std.specs.Str.{bytes_eq}
use Rattle.lucy_word.specs.Items.{WordForm, form_text, IsForm}
use Rattle.lucy_word.specs.Forms.{BeginsForm}
use Rattle.lucy_word.specs.Stages.{is_decimal}
use Rattle.lucy_fields.specs.Fields.{is_blank}
use Rattle.lucy_token.specs.declared.mark.Mark.{Mark}
use Rattle.lucy_token.specs.declared.token.Kind.{Kind}
use Rattle.lucy_token.specs.declared.token.Kind.TheVariants as kind
use Rattle.lucy_token.specs.declared.front.Front.{Front}
use Rattle.lucy_token.specs.declared.front.Front.TheVariants.{Gap, Token, Bad}
use Rattle.lucy_token.specs.Marks.{spelling, keywords, signs}
use Rattle.lucy_token.specs.Before.{nearest, wants_word, operand_begins}

-- a letter or `_`
abbrev pub is_letter : ℕ → Bool
is_letter c = (nat_le 97 c && nat_le c 122) || (nat_le 65 c && nat_le c 90) || c == 95

-- a byte that a name may have behind its first one
abbrev pub is_name_byte : ℕ → Bool
is_name_byte c = is_letter c || is_decimal c

-- the first byte, 0 where there is none
abbrev pub head : List ℕ → ℕ
head [] = 0
head (c ∷ text) = c

-- how many bytes there are to the end of the first `*)`
abbrev pub close_of : List ℕ → Option ℕ
close_of [] = None
close_of (c ∷ text) = if c == 42 && head text == 41 then Some 2 else option_map (λ n. n + 1) (close_of text)

-- the text begins with a blank or opens a comment
abbrev pub begins_gap : List ℕ → Bool
begins_gap text = is_blank (head text) || (head text == 40 && head (drop 1 text) == 42)

-- a blank, or a comment, which ends with the first `*)` behind its opening: without one it can't stand
unfoldable pub gap_of : List ℕ → Front
gap_of text = if is_blank (head text) then Gap 1 else option_map_or (λ n. Gap (n + 2)) (close_of (drop 2 text)) (Bad 0)

-- the keyword that the bytes spell, else a name
abbrev pub named_in : List Mark → List ℕ → Kind
named_in [] bytes = kind.Name
named_in (m ∷ ms) bytes = if bytes_eq bytes (spelling m) then kind.Mark m else named_in ms bytes

-- the first of the signs with which the text begins
abbrev pub sign_in : List Mark → List ℕ → Front
sign_in [] text = Bad 0
sign_in (m ∷ ms) text = if bytes_eq (take (length (spelling m)) text) (spelling m) then Token (kind.Mark m) (length (spelling m)) else sign_in ms text

-- a word stands there, its form whole, or the first byte that can't follow those before it in any form
abbrev pub IsWordFront : List ℕ → Front → Type 0
IsWordFront text (Gap n) = ⊥
IsWordFront text (Token k n) = (k ≡ kind.Word) × (n ≤ length text) × (f : WordForm) × IsForm f × (take n text ≡ form_text f)
IsWordFront text (Bad n) =
    (n ≤ length text) × BeginsForm (take n text) × ((f : WordForm) → IsForm f → take n text ≡ form_text f → ⊥) × (n < length text → BeginsForm (take (n + 1) text) → ⊥)

-- how many bytes before the digits belong to a number: one for a `-` directly before a digit, where an operand begins
abbrev pub minus_of : Bool → List ℕ → ℕ
minus_of operand text = if operand && head text == 45 && is_decimal (head (drop 1 text)) then 1 else 0

-- a name or keyword, a number, or a sign
unfoldable pub plain_front : Bool → List ℕ → Front
plain_front operand text =
    if is_letter (head text) then Token (named_in keywords (take (prefix_len is_name_byte text) text)) (prefix_len is_name_byte text)
    else if is_decimal (head (drop (minus_of operand text) text)) then Token kind.Number (minus_of operand text + prefix_len is_decimal (drop (minus_of operand text) text))
    else sign_in signs text

-- what stands at the front of a text, behind tokens of these kinds, where a word's front is this one
unfoldable pub token_front : List Kind → Front → List ℕ → Front
token_front ks word text = if begins_gap text then gap_of text else if wants_word (nearest ks) then word else plain_front (operand_begins ks) text

-- the text has a byte, and this stands at its front
abbrev pub HasFront : List Kind → List ℕ → Front → Type 0
HasFront ks text front = (0 < length text) × (word : Front) × IsWordFront text word × (front ≡ token_front ks word text)
