-- Every program that is read is shaped.
use Rattle.std.proofs.Common.{Some, None, ℕ, ◌+◌, ◌<◌, ◌≤◌, ◌≡◌, true, Bool, List, [], ◌∷◌, ◌++◌, length, refl, ap, sym, ◌∙◌, arith}
use Rattle.std.specs.Prelude.{nat_le}
use Rattle.std.specs.List.{AllByRecursion}
use Rattle.std.proofs.lemmas.Bool.{not-true, leb-false}
use Rattle.std.proofs.lemmas.List.{map-append}
use Rattle.lucy_word.specs.Bits.{Bits}
use Rattle.lucy_word.specs.Limits.{limit_number}
use Rattle.lucy_word.specs.declared.limit.Limit.TheVariants as limit
use Rattle.lucy_word.proofs.Lists.{all_weaker}
use Rattle.lucy_tree.specs.Tree.{Tree, Trees, literal, variable, operator, host, sampled, merged, followed, buffered, call, no_more, more}
use Rattle.lucy_tree.specs.View.{DefTree, NodeTree, ProgramTree}
use Rattle.lucy_tree.specs.Shaped.{HasZero, IsShaped, AreShaped, IsShapedDef, IsShapedNode, IsShapedProgram}
use Rattle.lucy_token.specs.declared.mark.Mark.{Mark}
use Rattle.lucy_token.specs.declared.mark.Mark.TheVariants as mark
use Rattle.lucy_token.specs.declared.token.Kind.{Kind}
use Rattle.lucy_token.specs.declared.token.Kind.TheVariants as kind
use Rattle.lucy_token.specs.declared.token.What.{What}
use Rattle.lucy_token.specs.declared.token.What.TheVariants as what
use Rattle.lucy_token.specs.Tokens.{kind_of}
use Rattle.lucy_token.specs.Before.{wants_zero}
use Rattle.lucy_token.specs.States.{start, nodes_after}
use Rattle.lucy_token.specs.Written.{IsWritten}
use Rattle.lucy_token.specs.Printed.{Printed, whats_of}
use Rattle.lucy_grammar.specs.PrintTokens.{line, after, when_mark, printed_node, more_nodes, printed_program}
use Rattle.lucy_grammar.specs.Printable.{IsPrintable, ArePrintable, IsPrintableDef, IsPrintableNode, IsPrintableProgram}
use Rattle.lucy_grammar.specs.Texts.{HasTree}
use Rattle.lucy_grammar.proofs.Counts.{Count, count_of, count_on, counts, AllCount}
use Rattle.lucy_grammar.proofs.RoundTrip.{print_counts, written_program}

-- a word behind `whenot` or `merge` has a zero
zero_behind : (m : Mark) (w : Bits) → wants_zero (kind.Mark m) ≡ true → IsWritten (kind.Mark m) (what.Word w) → HasZero w
zero_behind m w z h = h.1.1.1 z

mutual
  shaped_tree : (t : Tree) → IsPrintable IsWritten t → IsShaped t
  shaped_tree (literal l span) h = tt
  shaped_tree (variable name) h = tt
  shaped_tree (operator o args span) h = (h.0, shaped_trees args h.1)
  shaped_tree (host name args) h = (h.1.0, shaped_trees args h.1.1)
  shaped_tree (sampled flip e w) h = (λ s. zero_behind (when_mark flip) w (ap (λ b. wants_zero (kind.Mark (when_mark b))) s) h.1, shaped_tree e h.0)
  shaped_tree (merged w a b span) h = (zero_behind mark.Merge w refl h.0, shaped_tree a h.1.0, shaped_tree b h.1.1)
  shaped_tree (followed l e span) h = shaped_tree e h.1
  shaped_tree (buffered None e span) h = (tt, shaped_tree e h.1)
  shaped_tree (buffered (Some n) e span) h = (h.0.0, shaped_tree e h.1)
  shaped_tree (call name at args) h = shaped_trees args h.1.1

  shaped_trees : (ts : Trees) → ArePrintable IsWritten ts → AreShaped ts
  shaped_trees no_more h = tt
  shaped_trees (more t ts) h = (shaped_tree t h.0, shaped_trees ts h.1)

shaped_def : (d : DefTree) → IsPrintableDef IsWritten d → IsShapedDef d
shaped_def d h = record { right = shaped_tree d.right h.right; defines = h.defines }

shaped_node : (n : NodeTree) → IsPrintableNode IsWritten n → IsShapedNode n
shaped_node n h = all_weaker (IsPrintableDef IsWritten) IsShapedDef n.defs shaped_def h.defs

shaped_nodes : (p : ProgramTree) → IsPrintableProgram IsWritten p → AllByRecursion IsShapedNode p
shaped_nodes [] h = tt
shaped_nodes (n ∷ ns) h = (shaped_node n h.0, all_weaker (IsPrintableNode IsWritten) IsShapedNode ns shaped_node h.1)

-- there is a node
some_node : (p : ProgramTree) → IsPrintableProgram IsWritten p → 0 < length p
some_node [] h = absurd h
some_node (n ∷ ns) h = omega arith

-- how many `let` there are among tokens
abbrev lets : List What → ℕ
lets [] = 0
lets (w ∷ ws) = nodes_after (lets ws) (kind_of w)

-- no more are counted than there may be nodes
counted_on : (k : Kind) (c : Count) → counts c k ≡ true → c.nodes ≤ limit_number limit.Nodes → nodes_after c.nodes k ≤ limit_number limit.Nodes
counted_on (kind.Mark mark.Let) c e h =
    let b : Bool = nat_le (limit_number limit.Nodes) c.nodes in
    omega (arith, leb-false (limit_number limit.Nodes) c.nodes (not-true b e))
counted_on k c e h = h

moved : (k : Kind) (n m : ℕ) → nodes_after n k + m ≡ n + nodes_after m k
moved (kind.Mark mark.Let) n m = omega arith
moved k n m = refl

few_lets : (c : Count) (ws : List What) → AllCount c ws → c.nodes ≤ limit_number limit.Nodes → c.nodes + lets ws ≤ limit_number limit.Nodes
few_lets c [] h few = omega (arith, few)
few_lets c (w ∷ ws) h few =
    let k : Kind = kind_of w in
    omega (arith, few_lets (count_on c k) ws h.1 (counted_on k c h.0 few), moved k c.nodes (lets ws))

-- there is one in each node in print
lets_append : (a b : List What) → lets (a ++ b) ≡ lets a + lets b
lets_append [] b = omega arith
lets_append (w ∷ a) b =
    let k : Kind = kind_of w in
    ap (λ n. nodes_after n k) (lets_append a b) ∙ sym (of k (lets a) (lets b))
  where
    of : (k : Kind) (n m : ℕ) → nodes_after n k + m ≡ nodes_after (n + m) k
    of (kind.Mark mark.Let) n m = omega arith
    of k n m = refl

lets_after : (blanks : List ℕ) (ps : List Printed) → lets (whats_of (after blanks ps)) ≡ lets (whats_of ps)
lets_after blanks [] = refl
lets_after blanks (p ∷ ps) = refl

one_each : (n : NodeTree) → 1 ≤ lets (whats_of (printed_node n))
one_each n = omega arith

parts : (a b : List Printed) → lets (whats_of (a ++ b)) ≡ lets (whats_of a) + lets (whats_of b)
parts a b = ap lets (map-append (λ p. p.what) a b) ∙ lets_append (whats_of a) (whats_of b)

more_lets : (ns : List NodeTree) → length ns ≤ lets (whats_of (more_nodes ns))
more_lets [] = omega arith
more_lets (n ∷ ns) = omega (arith, one_each n, more_lets ns, lets_after line (printed_node n), parts (after line (printed_node n)) (more_nodes ns))

program_lets : (p : ProgramTree) → length p ≤ lets (whats_of (printed_program p))
program_lets [] = omega arith
program_lets (n ∷ ns) = omega (arith, one_each n, more_lets ns, parts (printed_node n) (more_nodes ns))

pub shaped : (text : List ℕ) (p : ProgramTree) → HasTree text p → IsShapedProgram p
shaped text p h = record {
  nodes = shaped_nodes p (written_program text h.tokens h.end p h.cut h.program);
  some = some_node p (written_program text h.tokens h.end p h.cut h.program);
  few = omega (arith, program_lets p, few_lets (count_of start) (whats_of (printed_program p)) (print_counts text h.tokens h.end p h.cut h.program) (omega arith));
}
