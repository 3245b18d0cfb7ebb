-- How a program is printed.
use Rattle.std.specs.Prelude.{ℕ, List, [], ◌∷◌, ◌++◌, Option, Some, None, map, codes, if◌then◌else◌}
use Rattle.std.specs.Option.{option_map_or}
use Rattle.std.specs.List.{join_by}
use Rattle.std.specs.Fmt.{decimal, signed_decimal}
use Rattle.lucy_word.specs.Spelling.{text_of}
use Rattle.lucy_host.specs.declared.data_type.DataType.{DataType}
use Rattle.lucy_host.specs.declared.data_type.DataType.TheVariants as holds
use Rattle.lucy_tree.specs.declared.decl.Decl.{Decl}
use Rattle.lucy_tree.specs.declared.expr.Lit.{Lit}
use Rattle.lucy_tree.specs.declared.expr.Lit.TheVariants as lit
use Rattle.lucy_tree.specs.Tree.{Tree, Trees, literal, variable, operator, host, sampled, merged, followed, buffered, call, no_more, more}
use Rattle.lucy_tree.specs.View.{DefTree, NodeTree, ProgramTree}
use Rattle.lucy_token.specs.Marks.{spelling, op_mark}

-- a literal
abbrev pub literal_text : Lit → List ℕ
literal_text (lit.Int n) = signed_decimal n
literal_text (lit.Bool b) = if b then codes "true" else codes "false"

-- texts in parentheses, parted by `, `
abbrev pub parenthesized : List (List ℕ) → List ℕ
parenthesized texts = codes "(" ++ join_by (λ text. text) (codes ", ") texts ++ codes ")"

-- what is written, behind a front, and nothing where it isn't
abbrev pub if_written : {A : Type 0} → (front : List ℕ) → (A → List ℕ) → Option A → List ℕ
if_written front text o = option_map_or (λ x. front ++ text x) o []

-- an operand is bare where it is a literal or a name, and else in parentheses
abbrev pub operand_text : Tree → (text : List ℕ) → List ℕ
operand_text (literal l span) text = text
operand_text (variable name) text = text
operand_text _ text = parenthesized (text ∷ [])

-- a sign with its operands: `not A`, `A + B`, `if A then B else C`
abbrev pub operation_text : (sign : List ℕ) → (operands : List (List ℕ)) → List ℕ
operation_text sign [] = sign
operation_text sign (a ∷ []) = sign ++ codes " " ++ a
operation_text sign (a ∷ b ∷ []) = a ++ codes " " ++ sign ++ codes " " ++ b
operation_text sign (a ∷ b ∷ c ∷ rest) = sign ++ codes " " ++ a ++ codes " then " ++ b ++ codes " else " ++ c

abbrev mutual
  -- an expression, without parentheses round it
  pub tree_text : Tree → List ℕ
  tree_text (literal l span) = literal_text l
  tree_text (variable name) = name.text
  tree_text (operator o args span) = operation_text (spelling (op_mark o)) (operand_texts args)
  tree_text (host name args) = codes "host " ++ name.text ++ codes " " ++ parenthesized (tree_texts args)
  tree_text (sampled flip e w) = operand_text e (tree_text e) ++ (if flip then codes " whenot " else codes " when ") ++ text_of w
  tree_text (merged w a b span) = codes "merge " ++ text_of w ++ codes " " ++ operand_text a (tree_text a) ++ codes " " ++ operand_text b (tree_text b)
  tree_text (followed l e span) = literal_text l ++ codes " fby " ++ operand_text e (tree_text e)
  tree_text (buffered None e span) = codes "buffer " ++ operand_text e (tree_text e)
  tree_text (buffered (Some most) e span) = codes "buffer " ++ decimal most ++ codes " " ++ parenthesized (tree_text e ∷ [])
  tree_text (call name at args) = name.text ++ if_written (codes " at ") text_of at ++ codes " " ++ parenthesized (tree_texts args)

  -- the texts of expressions
  pub tree_texts : Trees → List (List ℕ)
  tree_texts no_more = []
  tree_texts (more t ts) = tree_text t ∷ tree_texts ts

  -- the texts of operands
  pub operand_texts : Trees → List (List ℕ)
  operand_texts no_more = []
  operand_texts (more t ts) = operand_text t (tree_text t) ∷ operand_texts ts

-- a type
abbrev pub type_text : DataType → List ℕ
type_text holds.Int = codes "int"
type_text holds.Bool = codes "bool"

-- a declaration: a name, with its type and with the word of its clock where they are written
abbrev pub decl_text : Decl → List ℕ
decl_text d = d.name.text ++ if_written (codes " : ") type_text d.holds ++ if_written (codes " :: ") text_of d.word

-- the left side of a definition: one declaration alone, or several in parentheses
abbrev pub left_text : List Decl → List ℕ
left_text (d ∷ []) = decl_text d
left_text ds = parenthesized (map decl_text ds)

-- a definition
abbrev pub def_text : DefTree → List ℕ
def_text d = left_text d.left ++ codes " = " ++ tree_text d.right

-- definitions behind `where rec`, each on a line of its own, the later ones behind `and`; or nothing
abbrev pub defs_text : List DefTree → List ℕ
defs_text [] = []
defs_text ds = codes " where rec\n  " ++ join_by def_text (codes "\n  and ") ds

-- a node: `let node NAME (PARAMS) = (RESULTS)`, and its definitions
abbrev pub node_text : NodeTree → List ℕ
node_text n =
    codes "let node " ++ n.name.text ++ codes " " ++ parenthesized (map decl_text n.params)
    ++ codes " = " ++ parenthesized (map (λ name. name.text) n.results) ++ defs_text n.defs

-- the text of a printed program: its nodes, each with the end of its last line
abbrev pub program_text : ProgramTree → List ℕ
program_text p = join_by node_text (codes "\n") p ++ codes "\n"
