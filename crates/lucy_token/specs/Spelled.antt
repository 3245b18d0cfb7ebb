-- Tokens in print: where they stand, where no blank is needed between two of them, and which may stand behind others.
use Rattle.std.specs.Prelude.{ℕ, ◌+◌, ◌≡◌, Bool, true, false, not, ◌&&◌, ◌||◌, ◌==◌, if◌then◌else◌, List, [], ◌∷◌, length, None, negsuc}
use Rattle.std.specs.Int.{w64}
use mir.Val.{SFits as FitsSigned}
use Rattle.lucy_word.specs.Spelling.{text_of}
use Rattle.lucy_word.specs.Stages.{is_decimal}
use Rattle.lucy_fields.specs.Fields.{is_blank}
use Rattle.lucy_token.specs.declared.mark.Mark.{Mark}
use Rattle.lucy_token.specs.declared.mark.Mark.TheVariants as mark
use Rattle.lucy_token.specs.declared.token.Kind.{Kind}
use Rattle.lucy_token.specs.declared.token.What.{What}
use Rattle.lucy_token.specs.declared.token.What.TheVariants as what
use Rattle.lucy_token.specs.declared.token.Token.{Token}
use Rattle.lucy_token.specs.Tokens.{kind_of}
use Rattle.lucy_token.specs.Marks.{spelling}
use Rattle.lucy_token.specs.Before.{nearest, wants_word, operand_begins, limit_at, is_entry_past}
use Rattle.lucy_token.specs.Fronts.{head, is_letter, is_name_byte}
use Rattle.lucy_token.specs.Contents.{IsWordAfter}
use Rattle.lucy_token.specs.Written.{IsNameText}
use Rattle.lucy_token.specs.Printed.{Printed, text_of_what, whats_of}
use Rattle.lucy_token.specs.Cuts.{token_at}

-- the tokens, where they stand from an offset on
abbrev pub placed : ℕ → List Printed → List Token
placed from [] = []
placed from (p ∷ ps) =
    token_at p.what (from + length p.blanks) (length (text_of_what p.what)) ∷ placed (from + length p.blanks + length (text_of_what p.what)) ps

-- every byte is a blank
abbrev pub all_blank : List ℕ → Bool
all_blank [] = true
all_blank (c ∷ bytes) = is_blank c && all_blank bytes

-- the mark is spelled in letters
abbrev pub is_keyword : Mark → Bool
is_keyword m = is_letter (head (spelling m))

-- directly behind the mark this byte may stand (0 stands for the end)
abbrev pub mark_ends : Mark → ℕ → Bool
mark_ends mark.Open c = not (c == 42)
mark_ends mark.Colon c = not (c == 58)
mark_ends mark.Equals c = not (c == 61)
mark_ends mark.Less c = not (c == 61)
mark_ends mark.Greater c = not (c == 61)
mark_ends mark.Minus c = not (is_decimal c)
mark_ends m c = if is_keyword m then not (is_name_byte c) else true

-- directly behind the token this byte may stand
abbrev pub ends_before : What → ℕ → Bool
ends_before (what.Mark m) c = mark_ends m c
ends_before (what.Name bytes) c = not (is_name_byte c)
ends_before (what.Number n) c = not (is_name_byte c)
ends_before (what.Word w) c = true

-- a letter or a digit directly behind the token would run into it
abbrev pub runs_on : What → Bool
runs_on (what.Mark m) = is_keyword m
runs_on (what.Word w) = false
runs_on w = true

-- the token is a `-`
abbrev pub is_minus : What → Bool
is_minus (what.Mark mark.Minus) = true
is_minus w = false

-- the second token may stand directly behind the first
abbrev pub apart : What → What → Bool
apart v (what.Mark m) = ends_before v (head (spelling m))
apart v (what.Name bytes) = not (runs_on v)
apart v w = not (runs_on v) && not (is_minus v)

-- no bytes
abbrev pub none_of : List ℕ → Bool
none_of [] = true
none_of (c ∷ bytes) = false

-- the token is apart from the first of these
abbrev pub apart_from : What → List Printed → Bool
apart_from w [] = true
apart_from w (p ∷ ps) = not (none_of p.blanks) || apart w p.what

-- only blanks stand between these tokens, and some wherever two would run together
abbrev pub are_apart : List Printed → Bool
are_apart [] = true
are_apart (p ∷ ps) = all_blank p.blanks && apart_from p.what ps && are_apart ps

-- the last of the first tokens is apart from the first of the second ones
abbrev pub joins : List Printed → List Printed → Bool
joins [] qs = true
joins (p ∷ []) qs = apart_from p.what qs
joins (p ∷ (r ∷ ps)) qs = joins (r ∷ ps) qs

-- the token is a word
abbrev pub is_word : What → Bool
is_word (what.Word w) = true
is_word w = false

-- the token is a number below 0
abbrev pub is_negative : What → Bool
is_negative (what.Number (negsuc n)) = true
is_negative w = false

-- what the token is can be read again from how it is spelled, behind a token of this kind
abbrev pub IsSpelled : Kind → What → Type 0
IsSpelled before (what.Mark m) = Unit {0}
IsSpelled before (what.Name bytes) = IsNameText bytes
IsSpelled before (what.Number n) = FitsSigned w64 n
IsSpelled before (what.Word w) = IsWordAfter before (text_of w) w

-- the token may stand here: no limit is passed, a word stands just where one must, and a number below 0 only where an
-- operand begins
pub record MayStandHere (ks : List Kind) (w : What) : Type 0 where
  pub passes : limit_at ks (kind_of w) ≡ None
  pub in_list : is_entry_past ks (kind_of w) ≡ false
  pub word_here : wants_word (nearest ks) ≡ is_word w
  pub operand_here : is_negative w ≡ true → operand_begins ks ≡ true
  pub spelled : IsSpelled (nearest ks) w

-- each of these tokens may stand where it stands
abbrev pub AllStand : List Kind → List What → Type 0
AllStand ks [] = Unit {0}
AllStand ks (w ∷ ws) = MayStandHere ks w × AllStand (kind_of w ∷ ks) ws

-- behind tokens of these kinds these may stand so in print
pub record PrintsBehind (ks : List Kind) (ps : List Printed) : Type 0 where
  pub stand : AllStand ks (whats_of ps)
  pub apart : are_apart ps ≡ true
