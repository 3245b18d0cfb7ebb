-- The tokens of a printed program in order, each with the blanks before it: token by token the text that `Print.antt` says.
use Rattle.std.specs.Prelude.{ℕ, pos, Bool, true, false, List, [], ◌∷◌, ◌++◌, Option, Some, None, map, flat_map}
use Rattle.std.specs.Option.{option_map_or}
use Rattle.lucy_word.specs.Bits.{Bits}
use Rattle.lucy_host.specs.declared.op.Op.{Op}
use Rattle.lucy_host.specs.declared.data_type.DataType.{DataType}
use Rattle.lucy_host.specs.declared.data_type.DataType.TheVariants as holds
use Rattle.lucy_tree.specs.declared.span.Name.{Name}
use Rattle.lucy_tree.specs.declared.decl.Decl.{Decl}
use Rattle.lucy_tree.specs.declared.expr.Lit.{Lit}
use Rattle.lucy_tree.specs.declared.expr.Lit.TheVariants as lit
use Rattle.lucy_tree.specs.Tree.{Tree, Trees, literal, variable, operator, host, sampled, merged, followed, buffered, call, no_more, more}
use Rattle.lucy_tree.specs.View.{DefTree, NodeTree, ProgramTree}
use Rattle.lucy_token.specs.declared.mark.Mark.{Mark}
use Rattle.lucy_token.specs.declared.mark.Mark.TheVariants as mark
use Rattle.lucy_token.specs.declared.token.What.{What}
use Rattle.lucy_token.specs.declared.token.What.TheVariants as what
use Rattle.lucy_token.specs.Marks.{op_mark}
use Rattle.lucy_token.specs.Printed.{Printed, in_print, bytes_of}

-- a blank
abbrev pub blank : List ℕ
blank = 32 ∷ []

-- the end of a line
abbrev pub line : List ℕ
line = 10 ∷ []

-- the end of a line, and two blanks
abbrev pub indent : List ℕ
indent = 10 ∷ 32 ∷ 32 ∷ []

-- a token without blanks before it
abbrev pub one : What → List Printed
one w = in_print [] w ∷ []

-- a keyword or a sign without blanks before it
abbrev pub the : Mark → List Printed
the m = one (what.Mark m)

-- with these blanks before the first of the tokens
abbrev pub after : List ℕ → List Printed → List Printed
after blanks [] = []
after blanks (t ∷ ts) = in_print blanks t.what ∷ ts

-- with a blank before each
abbrev pub spaced : List (List Printed) → List Printed
spaced xs = flat_map (after blank) xs

-- with a blank between two
abbrev pub words : List (List Printed) → List Printed
words [] = []
words (x ∷ xs) = x ++ spaced xs

-- with `, ` before each
abbrev pub after_commas : List (List Printed) → List Printed
after_commas xs = flat_map (λ x. the mark.Comma ++ after blank x) xs

-- with `, ` between two
abbrev pub commas : List (List Printed) → List Printed
commas [] = []
commas (x ∷ xs) = x ++ after_commas xs

-- in parentheses
abbrev pub parens : List Printed → List Printed
parens x = the mark.Open ++ x ++ the mark.Close

-- a name
abbrev pub name_token : Name → List Printed
name_token name = one (what.Name name.text)

-- a word
abbrev pub word_token : Bits → List Printed
word_token w = one (what.Word w)

-- a literal
abbrev pub lit_token : Lit → List Printed
lit_token (lit.Int n) = one (what.Number n)
lit_token (lit.Bool true) = the mark.True
lit_token (lit.Bool false) = the mark.False

-- the keyword of a sampling: `when`, or `whenot` where it takes the items at the zeros of its word
abbrev pub when_mark : Bool → Mark
when_mark false = mark.When
when_mark true = mark.Whenot

-- an operator with its operands: `not A`, `A + B`, `if A then B else C`
abbrev pub operated : Op → List (List Printed) → List Printed
operated o [] = the (op_mark o)
operated o (a ∷ []) = words (the (op_mark o) ∷ a ∷ [])
operated o (a ∷ b ∷ []) = words (a ∷ the (op_mark o) ∷ b ∷ [])
operated o (a ∷ b ∷ c ∷ rest) = words (the (op_mark o) ∷ a ∷ the mark.Then ∷ b ∷ the mark.Else ∷ c ∷ [])

-- a call, with the word of its base where it is written
abbrev pub called : Name → Option Bits → List Printed → List Printed
called name None args = words (name_token name ∷ args ∷ [])
called name (Some w) args = words (name_token name ∷ the mark.At ∷ word_token w ∷ args ∷ [])

-- an operand is bare where it is a literal or a name, and else in parentheses
abbrev pub operand : Tree → List Printed → List Printed
operand (literal l span) x = x
operand (variable name) x = x
operand _ x = parens x

-- a buffer of an operand, or with a written bound of a whole expression
abbrev pub held : Option ℕ → List Printed → List Printed → List Printed
held None operand e = words (the mark.Buffer ∷ operand ∷ [])
held (Some n) operand e = words (the mark.Buffer ∷ one (what.Number (pos n)) ∷ parens e ∷ [])

abbrev mutual
  pub printed : Tree → List Printed
  printed (literal l span) = lit_token l
  printed (variable name) = name_token name
  printed (operator o args span) = operated o (operands args)
  printed (host name args) = words (the mark.Host ∷ name_token name ∷ parens (commas (all_printed args)) ∷ [])
  printed (sampled flip e w) = words (operand e (printed e) ∷ the (when_mark flip) ∷ word_token w ∷ [])
  printed (merged w a b span) = words (the mark.Merge ∷ word_token w ∷ operand a (printed a) ∷ operand b (printed b) ∷ [])
  printed (followed l e span) = words (lit_token l ∷ the mark.Fby ∷ operand e (printed e) ∷ [])
  printed (buffered most e span) = held most (operand e (printed e)) (printed e)
  printed (call name at args) = called name at (parens (commas (all_printed args)))

  pub all_printed : Trees → List (List Printed)
  all_printed no_more = []
  all_printed (more t ts) = printed t ∷ all_printed ts

  pub operands : Trees → List (List Printed)
  operands no_more = []
  operands (more t ts) = operand t (printed t) ∷ operands ts

-- the keyword of a type
abbrev pub type_mark : DataType → Mark
type_mark holds.Int = mark.Int
type_mark holds.Bool = mark.Bool

-- a written type: `:` and its keyword, or nothing
abbrev pub typing : Option DataType → List (List Printed)
typing t = option_map_or (λ t. the mark.Colon ∷ the (type_mark t) ∷ []) t []

-- a written clock: `::` and its word, or nothing
abbrev pub clock : Option Bits → List (List Printed)
clock w = option_map_or (λ w. the mark.Colons ∷ word_token w ∷ []) w []

-- a declaration: a name, then its type and its clock where they are written
abbrev pub printed_decl : Decl → List Printed
printed_decl d = words (name_token d.name ∷ (typing d.holds ++ clock d.word))

-- the left side of a definition: one name without parentheses
abbrev pub printed_left : List Decl → List Printed
printed_left (d ∷ []) = printed_decl d
printed_left ds = parens (commas (map printed_decl ds))

-- a definition: its left side, `=`, and its right side
abbrev pub printed_def : DefTree → List Printed
printed_def d = words (printed_left d.left ∷ the mark.Equals ∷ printed d.right ∷ [])

-- each further definition on a line of its own
abbrev pub more_defs : List DefTree → List Printed
more_defs ds = flat_map (λ d. after indent (the mark.And) ++ after blank (printed_def d)) ds

-- the definitions of a node behind `where rec`, the first on a line of its own, or nothing
abbrev pub printed_body : List DefTree → List Printed
printed_body [] = []
printed_body (d ∷ ds) = spaced (the mark.Where ∷ the mark.Rec ∷ []) ++ after indent (printed_def d) ++ more_defs ds

-- a node: `let node`, its name, its parameters and results in parentheses, and its definitions
abbrev pub printed_node : NodeTree → List Printed
printed_node n =
    words (the mark.Let ∷ the mark.Node ∷ name_token n.name ∷ parens (commas (map printed_decl n.params)) ∷ the mark.Equals ∷ parens (commas (map name_token n.results)) ∷ [])
    ++ printed_body n.defs

-- each further node on a line of its own
abbrev pub more_nodes : List NodeTree → List Printed
more_nodes ns = flat_map (λ n. after line (printed_node n)) ns

-- the nodes of a program
abbrev pub printed_program : ProgramTree → List Printed
printed_program [] = []
printed_program (n ∷ ns) = printed_node n ++ more_nodes ns

-- the bytes of tokens in print
abbrev pub spaced_text : List Printed → List ℕ
spaced_text ts = bytes_of ts []
