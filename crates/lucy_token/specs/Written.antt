-- What is known of the tokens of a text that is cut up to its end.
use Rattle.std.specs.Prelude.{ℕ, ◌<◌, ◌≤◌, ◌≡◌, Bool, true, ◌==◌, ◌&&◌, nat_le, List, [], ◌∷◌, length}
use Rattle.std.specs.List.{AllPass, prefix_len}
use Rattle.std.specs.Int.{w64}
use mir.Val.{SFits as FitsSigned}
use Rattle.lucy_word.specs.Limits.{limit_number}
use Rattle.lucy_word.specs.declared.limit.Limit.TheVariants as limit
use Rattle.lucy_token.specs.declared.token.Kind.{Kind}
use Rattle.lucy_token.specs.declared.token.Kind.TheVariants as kind
use Rattle.lucy_token.specs.declared.token.What.{What}
use Rattle.lucy_token.specs.declared.token.What.TheVariants as what
use Rattle.lucy_token.specs.declared.token.Token.{Token}
use Rattle.lucy_token.specs.Tokens.{kind_of}
use Rattle.lucy_token.specs.Marks.{keywords}
use Rattle.lucy_token.specs.Before.{wants_word, is_name}
use Rattle.lucy_token.specs.Fronts.{head, is_letter, is_name_byte, named_in}
use Rattle.lucy_token.specs.Contents.{IsWordAfter}

-- a name: letters, digits and `_`, of which the first is no digit, no more than a name may have, and no keyword
pub record IsNameText (bytes : List ℕ) : Type 0 where
  pub some : 0 < length bytes
  pub short : length bytes ≤ limit_number limit.Name
  pub begins : is_letter (head bytes) ≡ true
  pub name_bytes : AllPass is_name_byte bytes
  pub no_keyword : named_in keywords bytes ≡ kind.Name

-- whether bytes are a name
abbrev pub is_name_text : List ℕ → Bool
is_name_text bytes =
    is_letter (head bytes) && (prefix_len is_name_byte bytes == length bytes && (nat_le (length bytes) (limit_number limit.Name) && is_name (named_in keywords bytes)))

-- what a token is that stands behind one of this kind
abbrev pub IsWritten : Kind → What → Type 0
IsWritten before (what.Mark m) = Unit {0}
IsWritten before (what.Name bytes) = IsNameText bytes
IsWritten before (what.Number n) = FitsSigned w64 n
IsWritten before (what.Word w) = (wants_word before ≡ true) × ((bytes : List ℕ) × IsWordAfter before bytes w)

-- the same of each of these tokens, the first of which stands behind one of this kind
abbrev pub AreWritten : Kind → List Token → Type 0
AreWritten before [] = Unit {0}
AreWritten before (t ∷ ts) = IsWritten before t.what × AreWritten (kind_of t.what) ts

-- each token has a byte at least, and stands behind the ones before it, between these offsets
abbrev pub InOrder : ℕ → List Token → ℕ → Type 0
InOrder from [] to = from ≤ to
InOrder from (t ∷ ts) to = (from ≤ t.span.from) × (t.span.from < t.span.to) × InOrder t.span.to ts to
