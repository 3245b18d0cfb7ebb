-- The text of a program is the bytes of its tokens in print.
use Rattle.std.proofs.Common.{ℕ, ◌≡◌, true, false, List, [], ◌∷◌, ◌++◌, Option, Some, None, map, refl, ap, sym, ◌∙◌, append_assoc, append-nil}
use Rattle.std.specs.Prelude.{codes, flat_map}
use Rattle.std.specs.Fmt.{decimal, signed_decimal}
use Rattle.std.specs.List.{AllByRecursion, join_by}
use Rattle.lucy_word.specs.Bits.{Bits}
use Rattle.lucy_word.specs.Spelling.{text_of}
use Rattle.lucy_host.specs.declared.op.Op.{Op}
use Rattle.lucy_host.specs.declared.data_type.DataType.{DataType}
use Rattle.lucy_host.specs.declared.data_type.DataType.TheVariants as holds
use Rattle.lucy_tree.specs.declared.span.Name.{Name}
use Rattle.lucy_tree.specs.declared.decl.Decl.{Decl}
use Rattle.lucy_tree.specs.declared.expr.Lit.{Lit}
use Rattle.lucy_tree.specs.declared.expr.Lit.TheVariants as lit
use Rattle.lucy_tree.specs.Tree.{Tree, Trees, literal, variable, operator, host, sampled, merged, followed, buffered, call, no_more, more}
use Rattle.lucy_tree.specs.View.{DefTree, NodeTree, ProgramTree}
use Rattle.lucy_token.specs.declared.mark.Mark.TheVariants as mark
use Rattle.lucy_token.specs.Marks.{spelling, op_mark}
use Rattle.lucy_token.specs.Printed.{Printed}
use Rattle.lucy_grammar.specs.Print.{literal_text, parenthesized, if_written, operand_text, operation_text, tree_text, tree_texts, operand_texts, type_text, decl_text, left_text, def_text, defs_text, node_text, program_text}
use Rattle.lucy_grammar.specs.PrintTokens.{line, the, words, commas, parens, name_token, word_token, lit_token, operated, called, operand, printed, all_printed, operands, type_mark, typing, clock, printed_decl, printed_left, printed_def, more_defs, printed_body, printed_node, more_nodes, printed_program, spaced_text}
use Rattle.lucy_grammar.proofs.PrintedText.{IsTight, listed, text-append, text_parens, text_words, text_commas, tight_all, tight_operands, tight_decls, tight_names, text_of_tree, text_of_operand, text_hosted, text_sampled, text_merged, text_followed, text_buffered, text_bounded, text_def, text_more_defs, text_body, text_node, text_more_nodes}

-- texts one after another
three : (a b c : List ℕ) → a ++ (b ++ c) ≡ a ++ b ++ c
three a b c = sym (append_assoc a b c)

four : (a b c d : List ℕ) → a ++ (b ++ (c ++ d)) ≡ a ++ b ++ c ++ d
four a b c d = three a b (c ++ d) ∙ three (a ++ b) c d

five : (a b c d e : List ℕ) → a ++ (b ++ (c ++ (d ++ e))) ≡ a ++ b ++ c ++ d ++ e
five a b c d e = three a b (c ++ (d ++ e)) ∙ four (a ++ b) c d e

six : (a b c d e f : List ℕ) → a ++ (b ++ (c ++ (d ++ (e ++ f)))) ≡ a ++ b ++ c ++ d ++ e ++ f
six a b c d e f = three a b (c ++ (d ++ (e ++ f))) ∙ five (a ++ b) c d e f

seven : (a b c d e f g : List ℕ) → a ++ (b ++ (c ++ (d ++ (e ++ (f ++ g))))) ≡ a ++ b ++ c ++ d ++ e ++ f ++ g
seven a b c d e f g = three a b (c ++ (d ++ (e ++ (f ++ g)))) ∙ six (a ++ b) c d e f g

-- literals and types
literal_bytes : (l : Lit) → spaced_text (lit_token l) ≡ literal_text l
literal_bytes (lit.Int n) = append-nil (signed_decimal n)
literal_bytes (lit.Bool true) = refl
literal_bytes (lit.Bool false) = refl

type_bytes : (t : DataType) → spaced_text (the (type_mark t)) ≡ type_text t
type_bytes holds.Int = refl
type_bytes holds.Bool = refl

-- one text, and several, in parentheses
alone_bytes : (x : List Printed) (text : List ℕ) → spaced_text x ≡ text → spaced_text (parens x) ≡ parenthesized (text ∷ [])
alone_bytes x text e = text_parens x ∙ ap (λ u. 40 ∷ (u ++ 41 ∷ [])) (e ∙ sym (append-nil text))

further_bytes : (xs : List (List Printed)) → listed xs ≡ flat_map (λ text. codes ", " ++ text) (map spaced_text xs)
further_bytes [] = refl
further_bytes (x ∷ xs) = ap (λ u. 44 ∷ 32 ∷ (spaced_text x ++ u)) (further_bytes xs)

commas_bytes : (xs : List (List Printed)) → AllByRecursion IsTight xs → spaced_text (commas xs) ≡ join_by (λ text. text) (codes ", ") (map spaced_text xs)
commas_bytes [] h = refl
commas_bytes (x ∷ xs) h = text_commas x xs h.1 ∙ ap (λ u. spaced_text x ++ u) (further_bytes xs)

list_bytes : (xs : List (List Printed)) (texts : List (List ℕ)) → AllByRecursion IsTight xs → map spaced_text xs ≡ texts →
    spaced_text (parens (commas xs)) ≡ parenthesized texts
list_bytes xs texts h e = text_parens (commas xs) ∙ ap (λ u. 40 ∷ (u ++ 41 ∷ [])) (commas_bytes xs h) ∙ ap parenthesized e

-- the forms of expressions
operand_bytes : (t : Tree) (x : List Printed) (text : List ℕ) → spaced_text x ≡ text → spaced_text (operand t x) ≡ operand_text t text
operand_bytes (literal l span) x text e = e
operand_bytes (variable n) x text e = e
operand_bytes _ x text e = alone_bytes x text e

operation_bytes : (o : Op) (xs : List (List Printed)) → AllByRecursion IsTight xs →
    spaced_text (operated o xs) ≡ operation_text (spelling (op_mark o)) (map spaced_text xs)
operation_bytes o [] h = append-nil (spelling (op_mark o))
operation_bytes o (a ∷ []) h =
    text_words (the (op_mark o)) (a ∷ []) h ∙ (λ i. append-nil (spelling (op_mark o)) i ++ (32 ∷ append-nil (spaced_text a) i))
    ∙ three (spelling (op_mark o)) (codes " ") (spaced_text a)
operation_bytes o (a ∷ b ∷ []) h =
    text_words a (the (op_mark o) ∷ b ∷ []) (refl, h.1)
    ∙ (λ i. spaced_text a ++ (32 ∷ (append-nil (spelling (op_mark o)) i ++ (32 ∷ append-nil (spaced_text b) i))))
    ∙ five (spaced_text a) (codes " ") (spelling (op_mark o)) (codes " ") (spaced_text b)
operation_bytes o (a ∷ b ∷ c ∷ rest) h =
    text_words (the (op_mark o)) (a ∷ the mark.Then ∷ b ∷ the mark.Else ∷ c ∷ []) (h.0, (refl, (h.1.0, (refl, (h.1.1.0, tt)))))
    ∙ (λ i. append-nil (spelling (op_mark o)) i
    ++ (32 ∷ (spaced_text a ++ (codes " then " ++ (spaced_text b ++ (codes " else " ++ append-nil (spaced_text c) i))))))
    ∙ seven (spelling (op_mark o)) (codes " ") (spaced_text a) (codes " then ") (spaced_text b) (codes " else ") (spaced_text c)

called_bytes : (n : Name) (at : Option Bits) (x : List Printed) → IsTight x →
    spaced_text (called n at x) ≡ n.text ++ (if_written (codes " at ") text_of at ++ (32 ∷ spaced_text x))
called_bytes n None x h = text_words (name_token n) (x ∷ []) (h, tt) ∙ (λ i. append-nil n.text i ++ (32 ∷ append-nil (spaced_text x) i))
called_bytes n (Some w) x h =
    text_words (name_token n) (the mark.At ∷ word_token w ∷ x ∷ []) (refl, (refl, (h, tt)))
    ∙ (λ i. append-nil n.text i ++ (codes " at " ++ (append-nil (text_of w) i ++ (32 ∷ append-nil (spaced_text x) i))))

-- a word that is printed last
last_word : (w : Bits) → spaced_text (word_token w) ++ [] ≡ text_of w
last_word w = append-nil (spaced_text (word_token w)) ∙ append-nil (text_of w)

-- the text of a tree is the bytes of its tokens
mutual
  tree_bytes : (t : Tree) → spaced_text (printed t) ≡ tree_text t
  tree_bytes (literal l span) = literal_bytes l
  tree_bytes (variable n) = append-nil n.text
  tree_bytes (operator o args span) =
      operation_bytes o (operands args) (tight_operands args) ∙ ap (operation_text (spelling (op_mark o))) (operands_bytes args)
  tree_bytes (host n args) =
      let list = list_bytes (all_printed args) (tree_texts args) (tight_all args) (trees_bytes args) in
      let last = append-nil (spaced_text (parens (commas (all_printed args)))) ∙ list in
      text_hosted n args ∙ (λ i. codes "host " ++ (append-nil n.text i ++ (32 ∷ last i))) ∙ four (codes "host ") n.text (codes " ") (parenthesized (tree_texts args))
  tree_bytes (sampled false e w) =
      let inner = operand_bytes e (printed e) (tree_text e) (tree_bytes e) in
      text_sampled false e w ∙ (λ i. inner i ++ (codes " when " ++ last_word w i)) ∙ three (operand_text e (tree_text e)) (codes " when ") (text_of w)
  tree_bytes (sampled true e w) =
      let inner = operand_bytes e (printed e) (tree_text e) (tree_bytes e) in
      text_sampled true e w ∙ (λ i. inner i ++ (codes " whenot " ++ last_word w i)) ∙ three (operand_text e (tree_text e)) (codes " whenot ") (text_of w)
  tree_bytes (merged w a b span) =
      let one = operand_bytes a (printed a) (tree_text a) (tree_bytes a) in
      let zero = append-nil (text_of_operand b) ∙ operand_bytes b (printed b) (tree_text b) (tree_bytes b) in
      text_merged w a b span ∙ (λ i. codes "merge " ++ (append-nil (text_of w) i ++ (32 ∷ (one i ++ (32 ∷ zero i)))))
      ∙ six (codes "merge ") (text_of w) (codes " ") (operand_text a (tree_text a)) (codes " ") (operand_text b (tree_text b))
  tree_bytes (followed l e span) =
      let later = append-nil (text_of_operand e) ∙ operand_bytes e (printed e) (tree_text e) (tree_bytes e) in
      text_followed l e span ∙ (λ i. literal_bytes l i ++ (codes " fby " ++ later i)) ∙ three (literal_text l) (codes " fby ") (operand_text e (tree_text e))
  tree_bytes (buffered None e span) =
      text_buffered e span ∙ ap (λ u. codes "buffer " ++ u) (append-nil (text_of_operand e) ∙ operand_bytes e (printed e) (tree_text e) (tree_bytes e))
  tree_bytes (buffered (Some most) e span) =
      let inner = append-nil (spaced_text (parens (printed e))) ∙ alone_bytes (printed e) (tree_text e) (tree_bytes e) in
      text_bounded most e span ∙ (λ i. codes "buffer " ++ (append-nil (decimal most) i ++ (32 ∷ inner i)))
      ∙ four (codes "buffer ") (decimal most) (codes " ") (parenthesized (tree_text e ∷ []))
  tree_bytes (call n at args) =
      let list = list_bytes (all_printed args) (tree_texts args) (tight_all args) (trees_bytes args) in
      called_bytes n at (parens (commas (all_printed args))) refl ∙ ap (λ u. n.text ++ (if_written (codes " at ") text_of at ++ (32 ∷ u))) list
      ∙ four n.text (if_written (codes " at ") text_of at) (codes " ") (parenthesized (tree_texts args))

  trees_bytes : (ts : Trees) → map spaced_text (all_printed ts) ≡ tree_texts ts
  trees_bytes no_more = refl
  trees_bytes (more t ts) = λ i. tree_bytes t i ∷ trees_bytes ts i

  operands_bytes : (ts : Trees) → map spaced_text (operands ts) ≡ operand_texts ts
  operands_bytes no_more = refl
  operands_bytes (more t ts) = λ i. operand_bytes t (printed t) (tree_text t) (tree_bytes t) i ∷ operands_bytes ts i

-- declarations, by what is written of them
written_bytes : (n : Name) (t : Option DataType) (w : Option Bits) →
    spaced_text (words (name_token n ∷ (typing t ++ clock w))) ≡ n.text ++ (if_written (codes " : ") type_text t ++ if_written (codes " :: ") text_of w)
written_bytes n None None = text_words (name_token n) [] tt ∙ ap (λ u. u ++ []) (append-nil n.text)
written_bytes n None (Some w) =
    text_words (name_token n) (the mark.Colons ∷ word_token w ∷ []) (refl, (refl, tt)) ∙ (λ i. append-nil n.text i ++ (codes " :: " ++ last_word w i))
written_bytes n (Some t) None =
    text_words (name_token n) (the mark.Colon ∷ the (type_mark t) ∷ []) (refl, (refl, tt)) ∙ (λ i. append-nil n.text i ++ (codes " : " ++ (type_bytes t i ++ [])))
written_bytes n (Some t) (Some w) =
    text_words (name_token n) (the mark.Colon ∷ the (type_mark t) ∷ the mark.Colons ∷ word_token w ∷ []) (refl, (refl, (refl, (refl, tt))))
    ∙ (λ i. append-nil n.text i ++ (codes " : " ++ (type_bytes t i ++ (codes " :: " ++ last_word w i))))

decl_bytes : (d : Decl) → spaced_text (printed_decl d) ≡ decl_text d
decl_bytes d =
    written_bytes d.name d.holds d.word ∙ three d.name.text (if_written (codes " : ") type_text d.holds) (if_written (codes " :: ") text_of d.word)

decls_bytes : (ds : List Decl) → map spaced_text (map printed_decl ds) ≡ map decl_text ds
decls_bytes [] = refl
decls_bytes (d ∷ ds) = λ i. decl_bytes d i ∷ decls_bytes ds i

names_bytes : (ns : List Name) → map spaced_text (map name_token ns) ≡ map (λ name. name.text) ns
names_bytes [] = refl
names_bytes (n ∷ ns) = λ i. append-nil n.text i ∷ names_bytes ns i

left_bytes : (ds : List Decl) → spaced_text (printed_left ds) ≡ left_text ds
left_bytes [] = refl
left_bytes (d ∷ []) = decl_bytes d
left_bytes (d ∷ e ∷ ds) = list_bytes (map printed_decl (d ∷ e ∷ ds)) (map decl_text (d ∷ e ∷ ds)) (tight_decls (d ∷ e ∷ ds)) (decls_bytes (d ∷ e ∷ ds))

def_bytes : (d : DefTree) → spaced_text (printed_def d) ≡ def_text d
def_bytes d =
    let right = append-nil (text_of_tree d.right) ∙ tree_bytes d.right in
    text_def d ∙ (λ i. left_bytes d.left i ++ (codes " = " ++ right i)) ∙ three (left_text d.left) (codes " = ") (tree_text d.right)

more_defs_bytes : (ds : List DefTree) → spaced_text (more_defs ds) ≡ flat_map (λ d. codes "\n  and " ++ def_text d) ds
more_defs_bytes [] = refl
more_defs_bytes (d ∷ ds) = text_more_defs d ds ∙ (λ i. codes "\n  and " ++ (def_bytes d i ++ more_defs_bytes ds i))

defs_bytes : (ds : List DefTree) → spaced_text (printed_body ds) ≡ defs_text ds
defs_bytes [] = refl
defs_bytes (d ∷ ds) = text_body d ds ∙ (λ i. codes " where rec\n  " ++ (def_bytes d i ++ more_defs_bytes ds i))

-- a node's line, and its definitions behind it
behind_line : (name params results defs : List ℕ) →
    (name ++ (32 ∷ (params ++ (codes " = " ++ results)))) ++ defs ≡ name ++ (32 ∷ (params ++ (codes " = " ++ (results ++ defs))))
behind_line name params results defs =
    append_assoc name (32 ∷ (params ++ (codes " = " ++ results))) defs ∙ ap (λ u. name ++ (32 ∷ u)) (append_assoc params (codes " = " ++ results) defs)

node_bytes : (n : NodeTree) → spaced_text (printed_node n) ≡ node_text n
node_bytes n =
    let name = spaced_text (name_token n.name) in
    let ps = parens (commas (map printed_decl n.params)) in
    let rs = parens (commas (map name_token n.results)) in
    let params = list_bytes (map printed_decl n.params) (map decl_text n.params) (tight_decls n.params) (decls_bytes n.params) in
    let names = list_bytes (map name_token n.results) (map (λ (x : Name). x.text) n.results) (tight_names n.results) (names_bytes n.results) in
    let results = append-nil (spaced_text rs) ∙ names in
    text_node n ∙ ap (λ u. codes "let node " ++ u) (behind_line name (spaced_text ps) (spaced_text rs ++ []) (spaced_text (printed_body n.defs)))
    ∙ (λ i. codes "let node " ++ (append-nil n.name.text i ++ (32 ∷ (params i ++ (codes " = " ++ (results i ++ defs_bytes n.defs i))))))
    ∙ seven (codes "let node ") n.name.text (codes " ") (parenthesized (map decl_text n.params)) (codes " = ") (parenthesized (map (λ (x : Name). x.text) n.results)) (defs_text n.defs)

more_nodes_bytes : (ns : List NodeTree) → spaced_text (more_nodes ns) ≡ flat_map (λ n. codes "\n" ++ node_text n) ns
more_nodes_bytes [] = refl
more_nodes_bytes (n ∷ ns) = text_more_nodes n ns ∙ (λ i. 10 ∷ (node_bytes n i ++ more_nodes_bytes ns i))

-- the text of a program is the bytes of its tokens, and the end of the last line
pub program_bytes : (p : ProgramTree) → spaced_text (printed_program p) ++ line ≡ program_text p
program_bytes [] = refl
program_bytes (n ∷ ns) = ap (λ u. u ++ line) (text-append (printed_node n) (more_nodes ns) ∙ (λ i. node_bytes n i ++ more_nodes_bytes ns i))
