-- Expressions and small programs, and how they are printed.
use Rattle.std.specs.Prelude.{codes, pos, neg_ℤ}
use Rattle.std.specs.Fmt.{digits}
use Rattle.std.proofs.Common.{ℕ, ◌≡◌, true, false, List, [], ◌∷◌, Some, None, map, refl}
use Rattle.lucy_word.specs.Bits.{Bits}
use Rattle.lucy_host.specs.declared.op.Op.{Op}
use Rattle.lucy_host.specs.declared.op.Op.TheVariants as op
use Rattle.lucy_host.specs.declared.data_type.DataType.TheVariants as holds
use Rattle.lucy_tree.specs.declared.span.Name as name
use Rattle.lucy_tree.specs.declared.decl.Decl as decl
use Rattle.lucy_tree.specs.declared.expr.Lit.TheVariants as lit
use Rattle.lucy_tree.specs.Tree.{Tree, literal, variable, operator, host, sampled, merged, followed, buffered, call, trees_of}
use Rattle.lucy_tree.specs.View.{ProgramTree}
use Rattle.lucy_grammar.specs.Print.{tree_text, program_text}
use Rattle.lucy_grammar.specs.Spans.{nowhere}

-- a name, and what it is as an expression
abbrev a_name : List ℕ → name.Name
a_name bytes = record { text = bytes; span = nowhere }

abbrev by_name : List ℕ → Tree
by_name bytes = variable (a_name bytes)

abbrev number : ℕ → Tree
number n = literal (lit.Int (pos n)) nowhere

abbrev below : ℕ → Tree
below n = literal (lit.Int (neg_ℤ (pos n))) nowhere

abbrev truth : Tree
truth = literal (lit.Bool true) nowhere

abbrev form : Op → List Tree → Tree
form o args = operator o (trees_of args) nowhere

abbrev delayed : ℕ → Tree → Tree
delayed n e = followed (lit.Int (pos n)) e nowhere

abbrev called : List ℕ → List Tree → Tree
called node args = call (a_name node) None (trees_of args)

-- the words (10), (01), (10100100) and (000001)
abbrev even : Bits
even = record { prefix = []; period = true ∷ false ∷ [] }

abbrev odd : Bits
odd = record { prefix = []; period = false ∷ true ∷ [] }

abbrev three_of_eight : Bits
three_of_eight = record { prefix = []; period = true ∷ false ∷ true ∷ false ∷ false ∷ true ∷ false ∷ false ∷ [] }

abbrev one_in_six : Bits
one_in_six = record { prefix = []; period = false ∷ false ∷ false ∷ false ∷ false ∷ true ∷ [] }

-- each expression, and its text as the language's papers have it
abbrev expressions : List (Tree × List ℕ)
expressions =
    (number 0, codes "0")
    ∷ (below 1, codes "-1")
    ∷ (truth, codes "true")
    ∷ (by_name (codes "x"), codes "x")
    ∷ (form op.Not (by_name (codes "a") ∷ []), codes "not a")
    ∷ (form op.Add (by_name (codes "a") ∷ by_name (codes "b") ∷ []), codes "a + b")
    ∷ (form op.Sub (by_name (codes "x") ∷ number 1 ∷ []), codes "x - 1")
    ∷ (form op.Add (below 3 ∷ form op.Mul (by_name (codes "x") ∷ sampled false (number 2) even ∷ []) ∷ []), codes "-3 + (x * (2 when (10)))")
    ∷ (form op.If (by_name (codes "b") ∷ by_name (codes "x") ∷ number 0 ∷ []), codes "if b then x else 0")
    ∷ (
      form op.If (form op.Ge (by_name (codes "x") ∷ below 1 ∷ []) ∷ form op.Not (truth ∷ []) ∷ truth ∷ []),
      codes "if (x >= -1) then (not true) else true",
    )
    ∷ (sampled false (buffered None (by_name (codes "x")) nowhere) even, codes "(buffer x) when (10)")
    ∷ (sampled true (by_name (codes "x")) odd, codes "x whenot (01)")
    ∷ (merged even (by_name (codes "y")) (buffered None (by_name (codes "y")) nowhere) nowhere, codes "merge (10) y (buffer y)")
    ∷ (delayed 0 (delayed 0 (delayed 0 (by_name (codes "p")))), codes "0 fby (0 fby (0 fby p))")
    ∷ (buffered (Some 1) (sampled false (by_name (codes "x")) even) nowhere, codes "buffer 1 (x when (10))")
    ∷ (
      buffered None (call (a_name (codes "down")) (Some three_of_eight) (trees_of (by_name (codes "lines") ∷ []))) nowhere,
      codes "buffer (down at (10100100) (lines))",
    )
    ∷ (
      called (codes "g") (by_name (codes "x") ∷ form op.Add (number 1 ∷ by_name (codes "x") ∷ []) ∷ called (codes "f") [] ∷ []),
      codes "g (x, 1 + x, f ())",
    )
    ∷ (host (a_name (codes "max")) (trees_of (by_name (codes "x") ∷ delayed 0 (by_name (codes "m")) ∷ [])), codes "host max (x, 0 fby m)")
    ∷ []

expression_texts : map (λ (e, text). tree_text e) expressions ≡ map (λ (e, text). text) expressions
unfolding digits
expression_texts = refl

-- a declaration of a name alone
abbrev bare : List ℕ → decl.Decl
bare bytes = record { name = a_name bytes; holds = None; word = None }

-- let node sum x = o where rec o = x + (0 fby o)
sum_text : program_text (record {
  name = a_name (codes "sum");
  params = bare (codes "x") ∷ [];
  results = a_name (codes "o") ∷ [];
  defs = record { left = bare (codes "o") ∷ []; right = form op.Add (by_name (codes "x") ∷ delayed 0 (by_name (codes "o")) ∷ []) } ∷ [];
} ∷ []) ≡ codes "let node sum (x) = (o) where rec\n  o = x + (0 fby o)\n"
unfolding digits
sum_text = refl

-- two nodes, of which the first has neither parameters nor definitions: types, clocks, and several names on a left side
abbrev pair : ProgramTree
pair = record { name = a_name (codes "f"); params = []; results = a_name (codes "x") ∷ a_name (codes "y") ∷ []; defs = [] } ∷ record {
  name = a_name (codes "g");
  params = record { name = a_name (codes "x"); holds = Some holds.Int; word = None }
      ∷ record { name = a_name (codes "b"); holds = Some holds.Bool; word = Some even }
      ∷ [];
  results = a_name (codes "o") ∷ [];
  defs = record {
    left = bare (codes "p") ∷ record { name = a_name (codes "q"); holds = None; word = Some one_in_six } ∷ [];
    right = called (codes "f") [];
  }
      ∷ record { left = record { name = a_name (codes "o"); holds = Some holds.Int; word = None } ∷ []; right = by_name (codes "p") }
      ∷ [];
} ∷ []

pair_text : program_text pair
    ≡ codes "let node f () = (x, y)\nlet node g (x : int, b : bool :: (10)) = (o) where rec\n  (p, q :: (0{5}1)) = f ()\n  and o : int = p\n"
unfolding digits
pair_text = refl
