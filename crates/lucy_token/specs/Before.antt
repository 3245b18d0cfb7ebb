-- What may stand at a place of a text, by the kinds of the tokens before it: a list of kinds has the nearest of them first.
use Rattle.std.specs.Prelude.{ℕ, zero, suc, ◌+◌, ◌-◌, Bool, true, false, not, List, [], ◌∷◌, Option, Some, None, if◌then◌else◌, nat_le, ◌&&◌, ◌||◌, count_by, option_map, option_and_then}
use Rattle.std.specs.List.{list_any}
use Rattle.std.specs.Option.{option_map_or}
use Rattle.std.specs.Str.{bytes_eq}
use Rattle.lucy_word.specs.Limits.{limit_number}
use Rattle.lucy_word.specs.declared.limit.Limit.{Limit}
use Rattle.lucy_word.specs.declared.limit.Limit.TheVariants as limit
use Rattle.lucy_token.specs.declared.mark.Mark.{Mark}
use Rattle.lucy_token.specs.declared.mark.Mark.TheVariants as mark
use Rattle.lucy_token.specs.declared.token.Kind.{Kind}
use Rattle.lucy_token.specs.declared.token.Kind.TheVariants as kind
use Rattle.lucy_token.specs.Marks.{spelling}

-- the kind is one of these marks, which are told apart by their spelling
abbrev pub is_one_of : List Mark → Kind → Bool
is_one_of ms (kind.Mark m) = list_any (λ n. bytes_eq (spelling m) (spelling n)) ms
is_one_of ms k = false

-- the kind of the nearest token, or the end where there is none
abbrev pub nearest : List Kind → Kind
nearest [] = kind.End
nearest (k ∷ ks) = k

-- a word stands after these alone, and nothing else does
abbrev pub wants_word : Kind → Bool
wants_word k = is_one_of (mark.When ∷ mark.Whenot ∷ mark.Merge ∷ mark.Colons ∷ mark.At ∷ []) k

-- a word after these has a zero in its period
abbrev pub wants_zero : Kind → Bool
wants_zero k = is_one_of (mark.Whenot ∷ mark.Merge ∷ []) k

-- an operand may follow these on the right of a definition
abbrev pub precedes_operand : Kind → Bool
precedes_operand k = is_one_of
    (mark.Equals ∷ mark.Open ∷ mark.Comma ∷ mark.If ∷ mark.Then ∷ mark.Else ∷ mark.Not ∷ mark.Buffer ∷ mark.Fby ∷ mark.Same ∷ mark.Differs
    ∷ mark.Less ∷ mark.AtMost ∷ mark.Greater ∷ mark.AtLeast ∷ mark.Plus ∷ mark.Minus ∷ mark.Star ∷ mark.Slash ∷ mark.Percent ∷ mark.Both ∷ mark.Either ∷ []) k

-- the tokens of a definition so far, behind the last `let`, `rec` or `and`: none in the head of a node
abbrev pub definition : List Kind → Option (List Kind)
definition [] = None
definition (kind.Mark mark.Let ∷ ks) = None
definition (kind.Mark mark.Rec ∷ ks) = Some []
definition (kind.Mark mark.And ∷ ks) = Some []
definition (k ∷ ks) = option_map (λ ds. k ∷ ds) (definition ks)

-- of a definition's tokens: they go on behind its `=`, or, where several names stood before that, behind the `(` of the call that is due there
abbrev pub is_behind_equals : List Kind → Bool
is_behind_equals [] = false
is_behind_equals (kind.Mark mark.Equals ∷ ks) = is_behind_equals ks || not (is_one_of (mark.Close ∷ []) (nearest ks))
is_behind_equals (kind.Mark mark.Open ∷ ks) = list_any (is_one_of (mark.Equals ∷ [])) ks
is_behind_equals (k ∷ ks) = is_behind_equals ks

-- on the right of a definition
abbrev pub on_right : List Kind → Bool
on_right ks = option_map_or is_behind_equals (definition ks) false

-- how many parentheses are open
abbrev pub depth : List Kind → ℕ
depth [] = 0
depth (kind.Mark mark.Open ∷ ks) = depth ks + 1
depth (kind.Mark mark.Close ∷ ks) = depth ks - 1
depth (k ∷ ks) = depth ks

-- the tokens directly inside the innermost open parenthesis, nearest first, of a pair there the `)` alone; the number says how many `)` were
-- met whose `(` is still to come. A `)` without a `(` hides all before it
abbrev pub inside : ℕ → List Kind → List Kind
inside n [] = []
inside zero (kind.Mark mark.Open ∷ ks) = []
inside (suc n) (kind.Mark mark.Open ∷ ks) = inside n ks
inside zero (kind.Mark mark.Close ∷ ks) = kind.Mark mark.Close ∷ inside 1 ks
inside (suc n) (kind.Mark mark.Close ∷ ks) = inside (suc (suc n)) ks
inside zero (k ∷ ks) = k ∷ inside zero ks
inside (suc n) (k ∷ ks) = inside (suc n) ks

-- a literal, a name or an expression in parentheses ends with it
abbrev pub ends_small : Kind → Bool
ends_small kind.Name = true
ends_small kind.Number = true
ends_small k = is_one_of (mark.True ∷ mark.False ∷ mark.Close ∷ []) k

-- how many of its two operands the last `merge` of these still wants
abbrev pub operands_wanted : List Kind → ℕ
operands_wanted [] = 0
operands_wanted (kind.Word ∷ (kind.Mark mark.Merge ∷ ks)) = 2
operands_wanted (k ∷ ks) = if ends_small k then operands_wanted ks - 1 else operands_wanted ks

-- an operand begins here, if anything may: then a `-` directly before a digit belongs to a number
unfoldable pub operand_begins : List Kind → Bool
operand_begins ks = on_right ks && (precedes_operand (nearest ks) || nat_le 1 (operands_wanted (inside 0 ks)))

-- where so many stand already, one more passes the limit
abbrev pub limit_past : Limit → ℕ → Option Limit
limit_past l n = if nat_le (limit_number l) n then Some l else None

-- the limit that a token of a kind passes here, if one: of open parentheses, of nodes, of a definition's tokens without parentheses; `)` and
-- `and` pass none
unfoldable pub limit_at : List Kind → Kind → Option Limit
limit_at ks (kind.Mark mark.Open) = limit_past limit.Depth (depth ks)
limit_at ks (kind.Mark mark.Close) = None
limit_at ks (kind.Mark mark.And) = None
limit_at ks (kind.Mark mark.Let) = limit_past limit.Nodes (count_by (is_one_of (mark.Let ∷ [])) ks)
limit_at ks k = option_and_then (λ ds. limit_past limit.Tokens (count_by (λ d. not (is_one_of (mark.Open ∷ mark.Close ∷ []) d)) ds)) (definition ks)

-- a name
abbrev pub is_name : Kind → Bool
is_name kind.Name = true
is_name k = false

-- a token of a kind here is the first of an entry past the last one that a list may have: in a list of names only a name begins one; on
-- the right of a definition, what may not begin an operand is left to the grammar
unfoldable pub is_entry_past : List Kind → Kind → Bool
is_entry_past ks k =
    is_one_of (mark.Comma ∷ []) (nearest ks) && nat_le (limit_number limit.Names) (count_by (is_one_of (mark.Comma ∷ [])) (inside 0 ks))
    && (on_right ks || is_name k)
