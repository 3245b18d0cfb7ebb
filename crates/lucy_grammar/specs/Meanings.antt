-- What tokens and their groups stand for.
use Rattle.std.specs.Prelude.{ℕ, pos, Bool, List, [], Option, Some, None, fold}
use Rattle.std.specs.Option.{option_map_or}
use Rattle.lucy_word.specs.Bits.{Bits}
use Rattle.lucy_tree.specs.declared.span.Span.{Span}
use Rattle.lucy_tree.specs.declared.span.Name.{Name}
use Rattle.lucy_tree.specs.declared.expr.Lit.{Lit}
use Rattle.lucy_tree.specs.declared.expr.Lit.TheVariants as lit
use Rattle.lucy_tree.specs.Tree.{Tree, Trees, literal, variable, operator, sampled, followed, call, no_more, more}
use Rattle.lucy_token.specs.declared.token.What.{What}
use Rattle.lucy_token.specs.declared.token.What.TheVariants as what
use Rattle.lucy_token.specs.declared.token.Token.{Token}
use Rattle.lucy_grammar.specs.Symbols.{Operation}

-- the bytes of a name's token
abbrev pub name_bytes : What → List ℕ
name_bytes (what.Name bytes) = bytes
name_bytes w = []

-- the name that a token is
abbrev pub token_name : Token → Name
token_name t = record { text = name_bytes t.what; span = t.span }

-- the literal that a number's token is
abbrev pub token_literal : What → Lit
token_literal (what.Number n) = lit.Int n
token_literal w = lit.Int (pos 0)

-- the bound that a number's token is
abbrev pub token_bound : What → ℕ
token_bound (what.Number (pos n)) = n
token_bound w = 0

-- the bits that a word's token stands for
abbrev pub token_word : What → Bits
token_word (what.Word w) = w
token_word v = record { prefix = []; period = [] }

-- two operands
abbrev pub two : Tree → Tree → Trees
two a b = more a (more b no_more)

-- an operator between two operands
abbrev pub linked : Tree → Operation → Tree
linked left link = operator link.op (two left link.right) link.span

-- operands with operators between them: they group to the left
abbrev pub grouped : Tree → List Operation → Tree
grouped left links = fold linked left links

-- an operand with its samplings, the first one innermost
abbrev pub sampled_by : Tree → List (Bool × Bits) → Tree
sampled_by operand samplings = fold (λ e (flip, word). sampled flip e word) operand samplings

-- a literal alone, or before an operand
abbrev pub literal_before : Lit × Span → Option (Span × Tree) → Tree
literal_before (l, span) f = option_map_or (λ (fby, operand). followed l operand fby) f (literal l span)

-- a number behind `buffer`: alone, before `fby` and an operand, or as the bound of an expression
abbrev pub held_by : ℕ → Lit × Span → Option (Option Span × Tree) → Option ℕ × Tree
held_by n (l, span) None = (None, literal l span)
held_by n (l, span) (Some (Some fby, operand)) = (None, followed l operand fby)
held_by n (l, span) (Some (None, e)) = (Some n, e)

-- a name alone, or a call
abbrev pub named : Name → Option (Option Bits × Trees) → Tree
named name c = option_map_or (λ (at, args). call name at args) c (variable name)
