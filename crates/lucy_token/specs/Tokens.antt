-- Tokens and their kinds.
use Rattle.std.specs.Prelude.{List, [], ◌∷◌}
use Rattle.lucy_token.specs.declared.token.Kind.{Kind}
use Rattle.lucy_token.specs.declared.token.Kind.TheVariants as kind
use Rattle.lucy_token.specs.declared.token.What.{What}
use Rattle.lucy_token.specs.declared.token.What.TheVariants as what
use Rattle.lucy_token.specs.declared.token.Token.{Token}

-- the kind of a token
abbrev pub kind_of : What → Kind
kind_of (what.Mark mark) = kind.Mark mark
kind_of (what.Name bytes) = kind.Name
kind_of (what.Number n) = kind.Number
kind_of (what.Word w) = kind.Word

-- the kind of the first token, or the end where there is none
abbrev pub first : List Token → Kind
first [] = kind.End
first (t ∷ ts) = kind_of t.what
