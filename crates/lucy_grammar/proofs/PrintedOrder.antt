-- A printed program has a word where one is wanted, and nowhere else.
use Rattle.std.proofs.Common.{ℕ, ◌≡◌, Bool, true, false, List, [], ◌∷◌, ◌++◌, Option, Some, None, map, refl, ap, sym, ◌∙◌, subst, append_assoc}
use Rattle.std.proofs.lemmas.List.{append-nil, map-append}
use Rattle.std.specs.Prelude.{pos}
use Rattle.std.specs.List.{AllByRecursion}
use Rattle.lucy_word.specs.Bits.{Bits}
use Rattle.lucy_host.specs.declared.op.Op.{Op}
use Rattle.lucy_host.specs.declared.op.Op.TheVariants as op
use Rattle.lucy_host.specs.declared.data_type.DataType.{DataType}
use Rattle.lucy_host.specs.declared.data_type.DataType.TheVariants as holds
use Rattle.lucy_tree.specs.declared.span.Name as name
use Rattle.lucy_tree.specs.declared.decl.Decl as decl
use Rattle.lucy_tree.specs.declared.expr.Lit as lit_type
use Rattle.lucy_tree.specs.declared.expr.Lit.TheVariants as lit
use Rattle.lucy_tree.specs.Tree.{Tree, Trees, literal, variable, operator, host, sampled, merged, followed, buffered, call, no_more, more}
use Rattle.lucy_tree.specs.View.{DefTree, NodeTree, ProgramTree}
use Rattle.lucy_token.specs.declared.mark.Mark.{Mark}
use Rattle.lucy_token.specs.declared.mark.Mark.TheVariants as mark
use Rattle.lucy_token.specs.declared.token.Kind.{Kind}
use Rattle.lucy_token.specs.declared.token.Kind.TheVariants as kind
use Rattle.lucy_token.specs.declared.token.What.{What}
use Rattle.lucy_token.specs.declared.token.What.TheVariants as what
use Rattle.lucy_token.specs.Before.{wants_word}
use Rattle.lucy_token.specs.Printed.{Printed, in_print, whats_of}
use Rattle.lucy_token.specs.Marks.{op_mark}
use Rattle.lucy_grammar.specs.PrintTokens.{blank, indent, line, the, after, spaced, words, after_commas, commas, parens, name_token, lit_token, when_mark, operated, called, operand, printed, all_printed, operands, clock, printed_decl, printed_left, printed_def, more_defs, printed_body, printed_node, more_nodes, printed_program}
use Rattle.lucy_grammar.specs.Printable.{MayBeNamed, IsLit, IsWordBehind, IsPrintable, ArePrintable, AllOfSome, IsPrintableDecl, IsPrintableDef, IsPrintableNode, IsPrintableProgram, AllMayFollow}

-- where no word is wanted these tokens may be printed, and behind them no word is wanted
pub record IsWhole (Q : Kind → What → Type 0) (ps : List Printed) : Type 0 where
  pub stands : (before : Kind) (ws : List What) → wants_word before ≡ false → ((k : Kind) → wants_word k ≡ false → AllMayFollow Q k ws) → AllMayFollow Q before (whats_of ps ++ ws)

whole_none : {Q : Kind → What → Type 0} → IsWhole Q []
whole_none = record { stands = λ before ws f h. h before f }

whole_and : {Q : Kind → What → Type 0} {a b : List Printed} → IsWhole Q a → IsWhole Q b → IsWhole Q (a ++ b)
whole_and {Q = Q} {a = a} {b = b} x y = record {
  stands = λ before ws f h.
      let P : List What → Type 0 = λ u. AllMayFollow Q before u in
      subst P (sym (ap (λ u. u ++ ws) (map-append (λ (t : Printed). t.what) a b) ∙ append_assoc (whats_of a) (whats_of b) ws)) (x.stands before (whats_of b ++ ws) f (λ k g. y.stands k ws g h));
}

whole_after : {Q : Kind → What → Type 0} {a : List Printed} (blanks : List ℕ) → IsWhole Q a → IsWhole Q (after blanks a)
whole_after {a = []} blanks x = x
whole_after {a = t ∷ a} blanks x = record { stands = x.stands }

-- a mark, a name, a number, and a mark with the word that it wants
whole_mark : {Q : Kind → What → Type 0} {a : List Printed} (blanks : List ℕ) (m : Mark) → wants_word (kind.Mark m) ≡ false → IsWhole Q a → IsWhole Q (in_print blanks (what.Mark m) ∷ a)
whole_mark blanks m e x = record { stands = λ before ws f h. (f, x.stands (kind.Mark m) ws e h) }

whole_name : {Q : Kind → What → Type 0} {a : List Printed} (blanks : List ℕ) (n : name.Name) → MayBeNamed Q n → IsWhole Q a → IsWhole Q (in_print blanks (what.Name n.text) ∷ a)
whole_name blanks n q x = record { stands = λ before ws f h. ((f, q), x.stands kind.Name ws refl h) }

whole_word : {Q : Kind → What → Type 0} {a : List Printed} (blanks between : List ℕ) (m : Mark) (w : Bits) → Q (kind.Mark m) (what.Word w) → IsWhole Q a → IsWhole Q (in_print blanks (what.Mark m) ∷ in_print between (what.Word w) ∷ a)
whole_word blanks between m w q x = record { stands = λ before ws f h. (f, (q, x.stands kind.Word ws refl h)) }

whole_the : {Q : Kind → What → Type 0} (m : Mark) → wants_word (kind.Mark m) ≡ false → IsWhole Q (the m)
whole_the m e = whole_mark [] m e whole_none

whole_lit : (Q : Kind → What → Type 0) (l : lit_type.Lit) → IsLit Q l → IsWhole Q (lit_token l)
whole_lit Q (lit.Int n) q = record { stands = λ before ws f h. ((f, q), h kind.Number refl) }
whole_lit Q (lit.Bool true) q = whole_the mark.True refl
whole_lit Q (lit.Bool false) q = whole_the mark.False refl

whole_bound : {Q : Kind → What → Type 0} {a : List Printed} (blanks : List ℕ) (n : ℕ) → IsLit Q (lit.Int (pos n)) → IsWhole Q a → IsWhole Q (in_print blanks (what.Number (pos n)) ∷ a)
whole_bound blanks n q x = record { stands = λ before ws f h. ((f, q), x.stands kind.Number ws refl h) }

whole_parens : {Q : Kind → What → Type 0} {a : List Printed} → IsWhole Q a → IsWhole Q (parens a)
whole_parens x = whole_mark [] mark.Open refl (whole_and x (whole_the mark.Close refl))

-- lists
whole_spaced : {Q : Kind → What → Type 0} (xs : List (List Printed)) → AllByRecursion (IsWhole Q) xs → IsWhole Q (spaced xs)
whole_spaced [] h = whole_none
whole_spaced (x ∷ xs) h = whole_and (whole_after blank h.0) (whole_spaced xs h.1)

whole_words : {Q : Kind → What → Type 0} (xs : List (List Printed)) → AllByRecursion (IsWhole Q) xs → IsWhole Q (words xs)
whole_words [] h = whole_none
whole_words (x ∷ xs) h = whole_and h.0 (whole_spaced xs h.1)

whole_further : {Q : Kind → What → Type 0} (xs : List (List Printed)) → AllByRecursion (IsWhole Q) xs → IsWhole Q (after_commas xs)
whole_further [] h = whole_none
whole_further (x ∷ xs) h = whole_mark [] mark.Comma refl (whole_and (whole_after blank h.0) (whole_further xs h.1))

whole_commas : {Q : Kind → What → Type 0} (xs : List (List Printed)) → AllByRecursion (IsWhole Q) xs → IsWhole Q (commas xs)
whole_commas [] h = whole_none
whole_commas (x ∷ xs) h = whole_and h.0 (whole_further xs h.1)

-- trees
op_mark-quiet : (o : Op) → wants_word (kind.Mark (op_mark o)) ≡ false
op_mark-quiet op.Add = refl
op_mark-quiet _ = refl

whole_operated : {Q : Kind → What → Type 0} (o : Op) (xs : List (List Printed)) → AllByRecursion (IsWhole Q) xs → IsWhole Q (operated o xs)
whole_operated o [] h = whole_the (op_mark o) (op_mark-quiet o)
whole_operated o (a ∷ []) (x, _) = whole_words (the (op_mark o) ∷ a ∷ []) (whole_the (op_mark o) (op_mark-quiet o), (x, tt))
whole_operated o (a ∷ b ∷ []) (x, (y, _)) = whole_words (a ∷ the (op_mark o) ∷ b ∷ []) (x, (whole_the (op_mark o) (op_mark-quiet o), (y, tt)))
whole_operated o (a ∷ b ∷ c ∷ rest) (x, (y, (z, _))) =
    whole_words (the (op_mark o) ∷ a ∷ the mark.Then ∷ b ∷ the mark.Else ∷ c ∷ []) (whole_the (op_mark o) (op_mark-quiet o), (x, (whole_the mark.Then refl, (y, (whole_the mark.Else refl, (z, tt))))))

whole_operand : {Q : Kind → What → Type 0} {a : List Printed} (t : Tree) → IsWhole Q a → IsWhole Q (operand t a)
whole_operand (literal l span) x = x
whole_operand (variable n) x = x
whole_operand _ x = whole_parens x

whole_sampling : (Q : Kind → What → Type 0) (flip : Bool) (w : Bits) → IsWordBehind Q (when_mark flip) (Some w) → IsWhole Q (in_print blank (what.Mark (when_mark flip)) ∷ in_print blank (what.Word w) ∷ [])
whole_sampling Q flip w q = whole_word blank blank (when_mark flip) w q whole_none

whole_called : (Q : Kind → What → Type 0) (n : name.Name) (at : Option Bits) (args : List Printed) → MayBeNamed Q n → IsWordBehind Q mark.At at → IsWhole Q args → IsWhole Q (called n at args)
whole_called Q n None args p q x = whole_name [] n p (whole_and (whole_after blank x) whole_none)
whole_called Q n (Some w) args p q x = whole_name [] n p (whole_word blank blank mark.At w q (whole_and (whole_after blank x) whole_none))

mutual
  printed_whole : (Q : Kind → What → Type 0) (t : Tree) → IsPrintable Q t → IsWhole Q (printed t)
  printed_whole Q (literal l span) h = whole_lit Q l h
  printed_whole Q (variable n) h = whole_name [] n h whole_none
  printed_whole Q (operator o args span) h = whole_operated o (operands args) (operands_whole Q args h.1)
  printed_whole Q (host n args) h = whole_mark [] mark.Host refl (whole_name blank n h.0 (whole_and (whole_after blank (whole_parens (whole_commas (all_printed args) (all_whole Q args h.1.1)))) whole_none))
  printed_whole Q (sampled flip e w) h = whole_and (whole_operand e (printed_whole Q e h.0)) (whole_sampling Q flip w h.1)
  printed_whole Q (merged w a b span) h =
      whole_word [] blank mark.Merge w h.0 (whole_and (whole_after blank (whole_operand a (printed_whole Q a h.1.0))) (whole_and (whole_after blank (whole_operand b (printed_whole Q b h.1.1))) whole_none))
  printed_whole Q (followed l e span) h = whole_and (whole_lit Q l h.0) (whole_mark blank mark.Fby refl (whole_and (whole_after blank (whole_operand e (printed_whole Q e h.1))) whole_none))
  printed_whole Q (buffered None e span) h = whole_mark [] mark.Buffer refl (whole_and (whole_after blank (whole_operand e (printed_whole Q e h.1))) whole_none)
  printed_whole Q (buffered (Some n) e span) h = whole_mark [] mark.Buffer refl (whole_bound blank n h.0.1 (whole_and (whole_after blank (whole_parens (printed_whole Q e h.1))) whole_none))
  printed_whole Q (call n at args) h = whole_called Q n at (parens (commas (all_printed args))) h.0 h.1.0 (whole_parens (whole_commas (all_printed args) (all_whole Q args h.1.1)))

  all_whole : (Q : Kind → What → Type 0) (ts : Trees) → ArePrintable Q ts → AllByRecursion (IsWhole Q) (all_printed ts)
  all_whole Q no_more h = tt
  all_whole Q (more t ts) h = (printed_whole Q t h.0, all_whole Q ts h.1)

  operands_whole : (Q : Kind → What → Type 0) (ts : Trees) → ArePrintable Q ts → AllByRecursion (IsWhole Q) (operands ts)
  operands_whole Q no_more h = tt
  operands_whole Q (more t ts) h = (whole_operand t (printed_whole Q t h.0), operands_whole Q ts h.1)

-- declarations
whole_clock : (Q : Kind → What → Type 0) (w : Option Bits) → IsWordBehind Q mark.Colons w → IsWhole Q (spaced (clock w))
whole_clock Q None q = whole_none
whole_clock Q (Some w) q = whole_word blank blank mark.Colons w q whole_none

whole_decl_of : (Q : Kind → What → Type 0) (n : name.Name) (t : Option DataType) (w : Option Bits) → MayBeNamed Q n → IsWordBehind Q mark.Colons w → IsWhole Q (printed_decl (record { name = n; holds = t; word = w }))
whole_decl_of Q n None w p q = whole_name [] n p (whole_clock Q w q)
whole_decl_of Q n (Some holds.Int) w p q = whole_name [] n p (whole_mark blank mark.Colon refl (whole_mark blank mark.Int refl (whole_clock Q w q)))
whole_decl_of Q n (Some holds.Bool) w p q = whole_name [] n p (whole_mark blank mark.Colon refl (whole_mark blank mark.Bool refl (whole_clock Q w q)))

whole_decl : (Q : Kind → What → Type 0) (d : decl.Decl) → IsPrintableDecl Q d → IsWhole Q (printed_decl d)
whole_decl Q d h = whole_decl_of Q d.name d.holds d.word h.0 h.1

whole_decls : (Q : Kind → What → Type 0) (ds : List decl.Decl) → AllByRecursion (IsPrintableDecl Q) ds → AllByRecursion (IsWhole Q) (map printed_decl ds)
whole_decls Q [] h = tt
whole_decls Q (d ∷ ds) h = (whole_decl Q d h.0, whole_decls Q ds h.1)

whole_names : (Q : Kind → What → Type 0) (ns : List name.Name) → AllByRecursion (MayBeNamed Q) ns → AllByRecursion (IsWhole Q) (map name_token ns)
whole_names Q [] h = tt
whole_names Q (n ∷ ns) h = (whole_name [] n h.0 whole_none, whole_names Q ns h.1)

whole_results : (Q : Kind → What → Type 0) (ns : List name.Name) → AllOfSome (MayBeNamed Q) ns → AllByRecursion (IsWhole Q) (map name_token ns)
whole_results Q [] h = absurd h
whole_results Q (n ∷ ns) h = whole_names Q (n ∷ ns) h

-- definitions, nodes and programs
whole_left : (Q : Kind → What → Type 0) (ds : List decl.Decl) → AllByRecursion (IsPrintableDecl Q) ds → IsWhole Q (printed_left ds)
whole_left Q [] h = whole_parens whole_none
whole_left Q (d ∷ []) h = whole_decl Q d h.0
whole_left Q (d ∷ e ∷ ds) h = whole_parens (whole_commas (map printed_decl (d ∷ e ∷ ds)) (whole_decls Q (d ∷ e ∷ ds) h))

whole_def : (Q : Kind → What → Type 0) (d : DefTree) → IsPrintableDef Q d → IsWhole Q (printed_def d)
whole_def Q d h = whole_words (printed_left d.left ∷ the mark.Equals ∷ printed d.right ∷ []) (whole_left Q d.left h.left, (whole_the mark.Equals refl, (printed_whole Q d.right h.right, tt)))

whole_more_defs : (Q : Kind → What → Type 0) (ds : List DefTree) → AllByRecursion (IsPrintableDef Q) ds → IsWhole Q (more_defs ds)
whole_more_defs Q [] h = whole_none
whole_more_defs Q (d ∷ ds) h = whole_mark indent mark.And refl (whole_and (whole_after blank (whole_def Q d h.0)) (whole_more_defs Q ds h.1))

whole_body : (Q : Kind → What → Type 0) (ds : List DefTree) → AllByRecursion (IsPrintableDef Q) ds → IsWhole Q (printed_body ds)
whole_body Q [] h = whole_none
whole_body Q (d ∷ ds) h = whole_mark blank mark.Where refl (whole_mark blank mark.Rec refl (whole_and (whole_after indent (whole_def Q d h.0)) (whole_more_defs Q ds h.1)))

whole_node : (Q : Kind → What → Type 0) (n : NodeTree) → IsPrintableNode Q n → IsWhole Q (printed_node n)
whole_node Q n h =
    let head = parens (commas (map printed_decl n.params)) in
    let tail = parens (commas (map name_token n.results)) in
    whole_and (whole_words (the mark.Let ∷ the mark.Node ∷ name_token n.name ∷ head ∷ the mark.Equals ∷ tail ∷ [])
    (whole_the mark.Let refl, (whole_the mark.Node refl, (whole_name [] n.name h.name whole_none, (whole_parens (whole_commas (map printed_decl n.params) (whole_decls Q n.params h.params)), (whole_the mark.Equals refl, (whole_parens (whole_commas (map name_token n.results) (whole_results Q n.results h.results)), tt)))))))
    (whole_body Q n.defs h.defs)

whole_more_nodes : (Q : Kind → What → Type 0) (ns : List NodeTree) → AllByRecursion (IsPrintableNode Q) ns → IsWhole Q (more_nodes ns)
whole_more_nodes Q [] h = whole_none
whole_more_nodes Q (n ∷ ns) h = whole_and (whole_after line (whole_node Q n h.0)) (whole_more_nodes Q ns h.1)

whole_program : (Q : Kind → What → Type 0) (p : ProgramTree) → IsPrintableProgram Q p → IsWhole Q (printed_program p)
whole_program Q [] h = absurd h
whole_program Q (n ∷ ns) h = whole_and (whole_node Q n h.0) (whole_more_nodes Q ns h.1)

pub printed_order : (Q : Kind → What → Type 0) (p : ProgramTree) → IsPrintableProgram Q p → AllMayFollow Q kind.End (whats_of (printed_program p))
printed_order Q p h =
    let P : List What → Type 0 = λ u. AllMayFollow Q kind.End u in
    subst P (append-nil (whats_of (printed_program p))) ((whole_program Q p h).stands kind.End [] refl (λ k f. tt))
