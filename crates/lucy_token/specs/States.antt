-- The scanner's state: what it keeps of the tokens before, and how each token changes it.
use Rattle.std.specs.Prelude.{ℕ, ◌+◌, ◌-◌, ◌^◌, ◌<◌, Bool, true, false, List, [], ◌∷◌, length, Option, None, nat_le, ◌&&◌, ◌||◌}
use Rattle.lucy_word.specs.Limits.{limit_number}
use Rattle.lucy_word.specs.declared.limit.Limit.{Limit}
use Rattle.lucy_word.specs.declared.limit.Limit.TheVariants as limit
use Rattle.lucy_token.specs.declared.mark.Mark.TheVariants as mark
use Rattle.lucy_token.specs.declared.token.Kind.{Kind}
use Rattle.lucy_token.specs.declared.token.Kind.TheVariants as kind
use Rattle.lucy_token.specs.declared.state.Side.{Side}
use Rattle.lucy_token.specs.declared.state.Side.TheVariants as side
use Rattle.lucy_token.specs.declared.state.Level.{Level}
use Rattle.lucy_token.specs.Before.{precedes_operand, limit_past}

-- the state before a token: the kind of the token before it; whether it stands in the head of a node, on the left or the
-- right of a definition's `=`, or where a call of several results is due; the tokens of the definition so far, without parentheses; the nodes so far; what is
-- known at the innermost open parenthesis, and at each one outside of it
pub record ScanState : Type 0 where
  pub before : Kind
  pub side : Side
  pub counted : ℕ
  pub nodes : ℕ
  pub level : Level
  pub outer : List Level

-- what is known behind a `(`: nothing is counted yet
abbrev pub fresh : Level
fresh = record { commas = 0; wanted = 0 }

-- before the first token of a text
abbrev pub start : ScanState
start = record { before = kind.End; side = side.Head; counted = 0; nodes = 0; level = fresh; outer = [] }

-- after the `=` of a definition: where several names stood on its left, only a call may follow, which is no operand
abbrev pub side_defined : Kind → Side
side_defined (kind.Mark mark.Close) = side.Called
side_defined before = side.Right

-- a definition begins after `rec` and `and`, its right side after the next `=`, and a head with `let`; the kinds are those
-- of the token before, and of the token
abbrev pub side_after : Side → Kind → Kind → Side
side_after at before (kind.Mark mark.Let) = side.Head
side_after at before (kind.Mark mark.Rec) = side.Left
side_after at before (kind.Mark mark.And) = side.Left
side_after side.Left before (kind.Mark mark.Equals) = side_defined before
side_after side.Called before (kind.Mark mark.Equals) = side_defined before
side_after side.Called before (kind.Mark mark.Open) = side.Right
side_after at before k = at

-- the tokens of a definition, counted from its first name
abbrev pub counted_after : Side → ℕ → Kind → ℕ
counted_after at n (kind.Mark mark.Let) = 0
counted_after at n (kind.Mark mark.Rec) = 0
counted_after at n (kind.Mark mark.And) = 0
counted_after at n (kind.Mark mark.Open) = n
counted_after at n (kind.Mark mark.Close) = n
counted_after side.Head n k = n
counted_after at n k = n + 1

-- the nodes so far, one more for each `let`
abbrev pub nodes_after : ℕ → Kind → ℕ
nodes_after n (kind.Mark mark.Let) = n + 1
nodes_after n k = n

-- `merge` wants two operands after its word, and each literal, name or closing parenthesis is one that it wants no more
abbrev pub served : Level → Level
served l = record { commas = l.commas; wanted = l.wanted - 1 }

-- the word of `merge` is followed by two operands
abbrev pub merging : Kind → Level → Level
merging (kind.Mark mark.Merge) l = record { commas = l.commas; wanted = 2 }
merging before l = l

-- what is known at the innermost open parenthesis behind one token more
abbrev pub level_after : Kind → Level → Kind → Level
level_after before l kind.Word = merging before l
level_after before l kind.Name = served l
level_after before l kind.Number = served l
level_after before l (kind.Mark mark.True) = served l
level_after before l (kind.Mark mark.False) = served l
level_after before l (kind.Mark mark.Comma) = record { commas = l.commas + 1; wanted = l.wanted }
level_after before l k = l

-- what is known after a token, but for the parentheses that it opens or closes
abbrev pub moved : ScanState → Kind → Level → List Level → ScanState
moved s k level outer = record {
  before = k;
  side = side_after s.side s.before k;
  counted = counted_after s.side s.counted k;
  nodes = nodes_after s.nodes k;
  level = level;
  outer = outer;
}

-- behind a `)` the parenthesis outside is the innermost again, and what was closed is an operand there
abbrev pub closed : ScanState → List Level → ScanState
closed s [] = moved s (kind.Mark mark.Close) fresh []
closed s (l ∷ outer) = moved s (kind.Mark mark.Close) (served l) outer

-- the state after a token of a kind
unfoldable pub after : ScanState → Kind → ScanState
after s (kind.Mark mark.Open) = moved s (kind.Mark mark.Open) fresh (s.level ∷ s.outer)
after s (kind.Mark mark.Close) = closed s s.outer
after s k = moved s k (level_after s.before s.level k) s.outer

-- on the right of a definition
abbrev pub is_right : Side → Bool
is_right side.Right = true
is_right at = false

-- an operand begins here, if anything may: then a `-` directly before a digit belongs to a number
unfoldable pub begins_operand : ScanState → Bool
begins_operand s = is_right s.side && (precedes_operand s.before || nat_le 1 s.level.wanted)

-- a definition's token, where so many of its tokens stand before it
abbrev pub past_tokens : Side → ℕ → Option Limit
past_tokens side.Head n = None
past_tokens at n = limit_past limit.Tokens n

-- the limit that a token of a kind passes, if one: the open parentheses, the tokens of one definition, the nodes
unfoldable pub limit_passed : ScanState → Kind → Option Limit
limit_passed s (kind.Mark mark.Open) = limit_past limit.Depth (length s.outer)
limit_passed s (kind.Mark mark.Close) = None
limit_passed s (kind.Mark mark.And) = None
limit_passed s (kind.Mark mark.Let) = limit_past limit.Nodes s.nodes
limit_passed s k = past_tokens s.side s.counted

-- a comma
abbrev pub is_comma : Kind → Bool
is_comma (kind.Mark mark.Comma) = true
is_comma k = false

-- an entry may begin with a token of this kind: in a list of names only with a name; on the right of a definition, what may
-- not begin an operand is left to the grammar
abbrev pub begins_entry : Side → Kind → Bool
begins_entry side.Right k = true
begins_entry at kind.Name = true
begins_entry at k = false

-- the token is the first of an entry past the last one that a list may have
unfoldable pub is_past_last : ScanState → Kind → Bool
is_past_last s k = is_comma s.before && nat_le (limit_number limit.Names) s.level.commas && begins_entry s.side k

-- the state behind tokens of these kinds, the nearest first
abbrev pub state_of : List Kind → ScanState
state_of [] = start
state_of (k ∷ ks) = after (state_of ks) k

-- what is counted may go one up
abbrev pub HasCountRoom : ScanState → Type 0
HasCountRoom s = (s.counted + 1 < 2 ^ 32) × (s.nodes + 1 < 2 ^ 32) × (s.level.commas + 1 < 2 ^ 32)
