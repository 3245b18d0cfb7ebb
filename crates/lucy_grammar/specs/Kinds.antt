-- Kinds of tokens by numbers, so that sets of kinds compute.
use Rattle.std.specs.Prelude.{ℕ, pos, Bool, true, false, if◌then◌else◌, nat_le, ◌≡◌, List, [], ◌∷◌}
use Rattle.lucy_tree.specs.Shaped.{most_bound}
use Rattle.lucy_token.specs.declared.mark.Mark.{Mark}
use Rattle.lucy_token.specs.declared.mark.Mark.TheVariants as mark
use Rattle.lucy_token.specs.declared.token.Kind.{Kind}
use Rattle.lucy_token.specs.declared.token.Kind.TheVariants as kind
use Rattle.lucy_token.specs.declared.token.What.{What}
use Rattle.lucy_token.specs.declared.token.What.TheVariants as what
use Rattle.lucy_token.specs.declared.token.Token.{Token}
use Rattle.lucy_token.specs.Tokens.{kind_of}

-- the number of a mark
abbrev pub mark_number : Mark → ℕ
mark_number mark.Let = 4
mark_number mark.Node = 5
mark_number mark.Where = 6
mark_number mark.Rec = 7
mark_number mark.And = 8
mark_number mark.When = 9
mark_number mark.Whenot = 10
mark_number mark.Merge = 11
mark_number mark.Fby = 12
mark_number mark.Buffer = 13
mark_number mark.At = 14
mark_number mark.Host = 15
mark_number mark.If = 16
mark_number mark.Then = 17
mark_number mark.Else = 18
mark_number mark.Not = 19
mark_number mark.True = 20
mark_number mark.False = 21
mark_number mark.Int = 22
mark_number mark.Bool = 23
mark_number mark.Open = 24
mark_number mark.Close = 25
mark_number mark.Comma = 26
mark_number mark.Colon = 27
mark_number mark.Colons = 28
mark_number mark.Equals = 29
mark_number mark.Same = 30
mark_number mark.Differs = 31
mark_number mark.Less = 32
mark_number mark.AtMost = 33
mark_number mark.Greater = 34
mark_number mark.AtLeast = 35
mark_number mark.Plus = 36
mark_number mark.Minus = 37
mark_number mark.Star = 38
mark_number mark.Slash = 39
mark_number mark.Percent = 40
mark_number mark.Both = 41
mark_number mark.Either = 42

-- the number of a kind, no two with one number
abbrev pub number : Kind → ℕ
number kind.End = 0
number kind.Name = 1
number kind.Number = 2
number kind.Word = 3
number (kind.Mark m) = mark_number m

-- the token is a number that a buffer's bound may be
abbrev pub is_bound : What → Bool
is_bound (what.Number (pos n)) = nat_le n most_bound
is_bound w = false

-- what one token ahead tells: its kind, or that it is a number that may be a bound
pub data Class : Type 0 where
  kind_class : Kind → Class
  bound_class : Class

-- the number of what one token ahead tells
abbrev pub class_number : Class → ℕ
class_number (kind_class k) = number k
class_number bound_class = 43

-- what a token tells: its kind, or that it may be a bound
abbrev pub class_of : What → Class
class_of w = if is_bound w then bound_class else kind_class (kind_of w)

-- that of the first token, or of the end
abbrev pub first_class : List Token → Class
first_class [] = kind_class kind.End
first_class (t ∷ ts) = class_of t.what

-- the number of a token, and of the first one
abbrev pub what_number : What → ℕ
what_number w = class_number (class_of w)

-- the number of the first token
abbrev pub ahead : List Token → ℕ
ahead ts = class_number (first_class ts)

-- the numbers of the tokens of a kind
abbrev pub kind_numbers : Kind → List ℕ
kind_numbers kind.Number = 2 ∷ 43 ∷ []
kind_numbers kind.End = 0 ∷ []
kind_numbers kind.Name = 1 ∷ []
kind_numbers kind.Word = 3 ∷ []
kind_numbers (kind.Mark m) = mark_number m ∷ []

-- what a token must be: of a kind, a number that may be a bound, or one that may not
pub data Sort : Type 0 where
  of : Kind → Sort
  bound unbound : Sort

-- the kind of such tokens, and their numbers
abbrev pub sort_kind : Sort → Kind
sort_kind (of k) = k
sort_kind bound = kind.Number
sort_kind unbound = kind.Number

-- the numbers of tokens that are so
abbrev pub sort_numbers : Sort → List ℕ
sort_numbers (of k) = kind_numbers k
sort_numbers bound = 43 ∷ []
sort_numbers unbound = 2 ∷ []

-- the token is so
abbrev pub Fits : Sort → What → Type 0
Fits (of k) w = kind_of w ≡ k
Fits bound w = is_bound w ≡ true
Fits unbound w = (kind_of w ≡ kind.Number) × (is_bound w ≡ false)
