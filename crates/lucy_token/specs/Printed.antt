-- Tokens in print: how they are spelled, and the bytes of those that stand one behind the other.
use Rattle.std.specs.Prelude.{ℕ, List, [], ◌∷◌, ◌++◌, map}
use Rattle.std.specs.Fmt.{signed_decimal}
use Rattle.lucy_word.specs.Spelling.{text_of}
use Rattle.lucy_token.specs.declared.token.What.{What}
use Rattle.lucy_token.specs.declared.token.What.TheVariants as what
use Rattle.lucy_token.specs.Marks.{spelling}

-- how a token is spelled
abbrev pub text_of_what : What → List ℕ
text_of_what (what.Mark m) = spelling m
text_of_what (what.Name bytes) = bytes
text_of_what (what.Number n) = signed_decimal n
text_of_what (what.Word w) = text_of w

-- a token in print: the blanks before it, and what it is
pub record Printed : Type 0 where
  pub blanks : List ℕ
  pub what : What

-- the token with these blanks before it
abbrev pub in_print : List ℕ → What → Printed
in_print blanks w = record { blanks = blanks; what = w }

-- the bytes of tokens in print, and behind them these
abbrev pub bytes_of : List Printed → List ℕ → List ℕ
bytes_of [] rest = rest
bytes_of (p ∷ ps) rest = p.blanks ++ (text_of_what p.what ++ bytes_of ps rest)

-- what the tokens are
abbrev pub whats_of : List Printed → List What
whats_of ps = map (λ p. p.what) ps
