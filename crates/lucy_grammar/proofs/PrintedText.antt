-- The text of what is printed, form by form.
use Rattle.std.proofs.Common.{ℕ, ◌≡◌, Bool, true, false, List, [], ◌∷◌, ◌++◌, Option, Some, None, map, refl, ap, sym, ◌∙◌, append_assoc, append-nil}
use Rattle.std.specs.Prelude.{pos}
use Rattle.std.specs.List.{AllByRecursion}
use Rattle.lucy_word.specs.Bits.{Bits}
use Rattle.lucy_host.specs.declared.op.Op.{Op}
use Rattle.lucy_tree.specs.declared.span.Span.{Span}
use Rattle.lucy_tree.specs.declared.span.Name.{Name}
use Rattle.lucy_tree.specs.declared.decl.Decl.{Decl}
use Rattle.lucy_tree.specs.declared.expr.Lit.{Lit}
use Rattle.lucy_tree.specs.declared.expr.Lit.TheVariants as lit
use Rattle.lucy_tree.specs.Tree.{Tree, Trees, literal, variable, operator, host, sampled, merged, followed, buffered, call, no_more, more}
use Rattle.lucy_tree.specs.View.{DefTree, NodeTree}
use Rattle.lucy_token.specs.declared.mark.Mark.TheVariants as mark
use Rattle.lucy_token.specs.declared.token.What.TheVariants as what
use Rattle.lucy_token.specs.Printed.{Printed, text_of_what}
use Rattle.lucy_token.specs.Marks.{op_mark}
use Rattle.lucy_grammar.specs.Meanings.{two}
use Rattle.lucy_grammar.specs.Sheets.{call_front}
use Rattle.lucy_grammar.specs.PrintTokens.{blank, indent, line, one, the, after, spaced, words, after_commas, commas, parens, name_token, word_token, lit_token, when_mark, operated, called, operand, printed, all_printed, operands, printed_decl, printed_left, printed_def, more_defs, printed_body, printed_node, more_nodes, spaced_text}

pub text-append : (a b : List Printed) → spaced_text (a ++ b) ≡ spaced_text a ++ spaced_text b
text-append [] b = refl
text-append (t ∷ a) b =
    ap (λ u. t.blanks ++ (text_of_what t.what ++ u)) (text-append a b) ∙ ap (λ u. t.blanks ++ u) (sym (append_assoc (text_of_what t.what) (spaced_text a) (spaced_text b))) ∙ sym (append_assoc t.blanks (text_of_what t.what ++ spaced_text a) (spaced_text b))

-- there is a first token, without blanks before it
abbrev pub IsTight : List Printed → Type 0
IsTight [] = ⊥
IsTight (t ∷ ts) = t.blanks ≡ []

pub tight-append : (a b : List Printed) → IsTight a → IsTight (a ++ b)
tight-append [] b h = absurd h
tight-append (t ∷ a) b h = h

pub text-after : (blanks : List ℕ) (a : List Printed) → IsTight a → spaced_text (after blanks a) ≡ blanks ++ spaced_text a
text-after blanks [] h = absurd h
text-after blanks (t ∷ a) h = ap (λ u. blanks ++ (u ++ (text_of_what t.what ++ spaced_text a))) (sym h)

pub text_parens : (a : List Printed) → spaced_text (parens a) ≡ 40 ∷ (spaced_text a ++ 41 ∷ [])
text_parens a = ap (λ u. 40 ∷ u) (text-append a (the mark.Close))

-- texts with a blank, and with a comma and a blank, before each
abbrev pub blanked : List (List Printed) → List ℕ
blanked [] = []
blanked (x ∷ xs) = 32 ∷ (spaced_text x ++ blanked xs)

abbrev pub listed : List (List Printed) → List ℕ
listed [] = []
listed (x ∷ xs) = 44 ∷ 32 ∷ (spaced_text x ++ listed xs)

pub text_spaced : (xs : List (List Printed)) → AllByRecursion IsTight xs → spaced_text (spaced xs) ≡ blanked xs
text_spaced [] h = refl
text_spaced (x ∷ xs) h = text-append (after blank x) (spaced xs) ∙ ap (λ u. u ++ spaced_text (spaced xs)) (text-after blank x h.0) ∙ ap (λ u. 32 ∷ (spaced_text x ++ u)) (text_spaced xs h.1)

pub text_words : (x : List Printed) (xs : List (List Printed)) → AllByRecursion IsTight xs → spaced_text (words (x ∷ xs)) ≡ spaced_text x ++ blanked xs
text_words x xs h = text-append x (spaced xs) ∙ ap (λ u. spaced_text x ++ u) (text_spaced xs h)

text_further : (xs : List (List Printed)) → AllByRecursion IsTight xs → spaced_text (after_commas xs) ≡ listed xs
text_further [] h = refl
text_further (x ∷ xs) h =
    ap (λ u. 44 ∷ u) (text-append (after blank x) (after_commas xs) ∙ ap (λ u. u ++ spaced_text (after_commas xs)) (text-after blank x h.0) ∙ ap (λ u. 32 ∷ (spaced_text x ++ u)) (text_further xs h.1))

pub text_commas : (x : List Printed) (xs : List (List Printed)) → AllByRecursion IsTight xs → spaced_text (commas (x ∷ xs)) ≡ spaced_text x ++ listed xs
text_commas x xs h = text-append x (after_commas xs) ∙ ap (λ u. spaced_text x ++ u) (text_further xs h)

-- what is printed of a tree has a first token, without blanks
tight_lit : (l : Lit) → IsTight (lit_token l)
tight_lit (lit.Int n) = refl
tight_lit (lit.Bool true) = refl
tight_lit (lit.Bool false) = refl

tight_operated : (o : Op) (xs : List (List Printed)) → AllByRecursion IsTight xs → IsTight (operated o xs)
tight_operated o [] h = refl
tight_operated o (a ∷ []) h = refl
tight_operated o (a ∷ b ∷ []) h = tight-append a _ h.0
tight_operated o (a ∷ b ∷ c ∷ rest) h = refl

tight_called : (n : Name) (at : Option Bits) (args : List Printed) → IsTight (called n at args)
tight_called n None args = refl
tight_called n (Some w) args = refl

tight_bare : (t : Tree) (a : List Printed) → IsTight a → IsTight (operand t a)
tight_bare (literal l span) a h = h
tight_bare (variable n) a h = h
tight_bare _ a h = refl

mutual
  pub tight : (t : Tree) → IsTight (printed t)
  tight (literal l span) = tight_lit l
  tight (variable n) = refl
  tight (operator o args span) = tight_operated o (operands args) (tight_operands args)
  tight (host n args) = refl
  tight (sampled flip e w) = tight-append (operand e (printed e)) _ (tight_bare e (printed e) (tight e))
  tight (merged w a b span) = refl
  tight (followed l e span) = tight-append (lit_token l) _ (tight_lit l)
  tight (buffered None e span) = refl
  tight (buffered (Some n) e span) = refl
  tight (call n at args) = tight_called n at (parens (commas (all_printed args)))

  pub tight_operands : (ts : Trees) → AllByRecursion IsTight (operands ts)
  tight_operands no_more = tt
  tight_operands (more t ts) = (tight_bare t (printed t) (tight t), tight_operands ts)

pub tight_all : (ts : Trees) → AllByRecursion IsTight (all_printed ts)
tight_all no_more = tt
tight_all (more t ts) = (tight t, tight_all ts)

pub tight_operand : (t : Tree) → IsTight (operand t (printed t))
tight_operand t = tight_bare t (printed t) (tight t)

-- the text of a tree, and of it as an operand
abbrev pub text_of_tree : Tree → List ℕ
text_of_tree t = spaced_text (printed t)

abbrev pub text_of_operand : Tree → List ℕ
text_of_operand t = spaced_text (operand t (printed t))

pub text_one : (o : Op) (a : Tree) (s : Span) → text_of_tree (operator o (more a no_more) s) ≡ spaced_text (the (op_mark o)) ++ (32 ∷ (text_of_operand a ++ []))
text_one o a s = text_words (the (op_mark o)) (operand a (printed a) ∷ []) (tight_operand a, tt)

pub text_two : (o : Op) (a b : Tree) (s : Span) → text_of_tree (operator o (two a b) s) ≡ text_of_operand a ++ (32 ∷ (spaced_text (the (op_mark o)) ++ (32 ∷ (text_of_operand b ++ []))))
text_two o a b s = text_words (operand a (printed a)) (the (op_mark o) ∷ operand b (printed b) ∷ []) (refl, (tight_operand b, tt))

pub text_three : (o : Op) (a b c : Tree) (s : Span) → text_of_tree (operator o (more a (two b c)) s)
    ≡ spaced_text (the (op_mark o)) ++ (32 ∷ (text_of_operand a ++ (32 ∷ (spaced_text (the mark.Then) ++ (32 ∷ (text_of_operand b ++ (32 ∷ (spaced_text (the mark.Else) ++ (32 ∷ (text_of_operand c ++ []))))))))))
text_three o a b c s = text_words (the (op_mark o)) (operand a (printed a) ∷ the mark.Then ∷ operand b (printed b) ∷ the mark.Else ∷ operand c (printed c) ∷ []) (tight_operand a, (refl, (tight_operand b, (refl, (tight_operand c, tt)))))

pub text_hosted : (n : Name) (args : Trees) → text_of_tree (host n args) ≡ spaced_text (the mark.Host) ++ (32 ∷ (spaced_text (name_token n) ++ (32 ∷ (spaced_text (parens (commas (all_printed args))) ++ []))))
text_hosted n args = text_words (the mark.Host) (name_token n ∷ parens (commas (all_printed args)) ∷ []) (refl, (refl, tt))

-- a call, by what stands before its arguments
pub text_called : (n : Name) (at : Option Bits) (args : Trees) → call_front n at ++ spaced_text (parens (commas (all_printed args))) ≡ text_of_tree (call n at args)
text_called n None args =
    let list = spaced_text (parens (commas (all_printed args))) in
    append_assoc (spaced_text (name_token n)) blank list ∙ ap (λ u. spaced_text (name_token n) ++ (32 ∷ u)) (sym (append-nil list))
    ∙ sym (text_words (name_token n) (parens (commas (all_printed args)) ∷ []) (refl, tt))
text_called n (Some w) args =
    let list = spaced_text (parens (commas (all_printed args))) in
    let word = spaced_text (word_token w) in
    append_assoc (spaced_text (name_token n)) (32 ∷ (spaced_text (the mark.At) ++ (32 ∷ (word ++ blank)))) list
    ∙ ap (λ u. spaced_text (name_token n) ++ (32 ∷ u)) (append_assoc (spaced_text (the mark.At)) (32 ∷ (word ++ blank)) list ∙ ap (λ u. spaced_text (the mark.At) ++ (32 ∷ u)) (append_assoc word blank list ∙ ap (λ u. word ++ (32 ∷ u)) (sym (append-nil list))))
    ∙ sym (text_words (name_token n) (the mark.At ∷ word_token w ∷ parens (commas (all_printed args)) ∷ []) (refl, (refl, (refl, tt))))

pub text_sampled : (flip : Bool) (e : Tree) (w : Bits) → text_of_tree (sampled flip e w) ≡ text_of_operand e ++ (32 ∷ (spaced_text (the (when_mark flip)) ++ (32 ∷ (spaced_text (word_token w) ++ []))))
text_sampled flip e w = text_words (operand e (printed e)) (the (when_mark flip) ∷ word_token w ∷ []) (refl, (refl, tt))

pub text_merged : (w : Bits) (a b : Tree) (s : Span) → text_of_tree (merged w a b s) ≡ spaced_text (the mark.Merge) ++ (32 ∷ (spaced_text (word_token w) ++ (32 ∷ (text_of_operand a ++ (32 ∷ (text_of_operand b ++ []))))))
text_merged w a b s = text_words (the mark.Merge) (word_token w ∷ operand a (printed a) ∷ operand b (printed b) ∷ []) (refl, (tight_operand a, (tight_operand b, tt)))

pub text_followed : (l : Lit) (e : Tree) (s : Span) → text_of_tree (followed l e s) ≡ spaced_text (lit_token l) ++ (32 ∷ (spaced_text (the mark.Fby) ++ (32 ∷ (text_of_operand e ++ []))))
text_followed l e s = text_words (lit_token l) (the mark.Fby ∷ operand e (printed e) ∷ []) (refl, (tight_operand e, tt))

pub text_buffered : (e : Tree) (s : Span) → text_of_tree (buffered None e s) ≡ spaced_text (the mark.Buffer) ++ (32 ∷ (text_of_operand e ++ []))
text_buffered e s = text_words (the mark.Buffer) (operand e (printed e) ∷ []) (tight_operand e, tt)

pub text_bounded : (n : ℕ) (e : Tree) (s : Span) → text_of_tree (buffered (Some n) e s) ≡ spaced_text (the mark.Buffer) ++ (32 ∷ (spaced_text (one (what.Number (pos n))) ++ (32 ∷ (spaced_text (parens (printed e)) ++ []))))
text_bounded n e s = text_words (the mark.Buffer) (one (what.Number (pos n)) ∷ parens (printed e) ∷ []) (refl, (refl, tt))

pub tight_decls : (ds : List Decl) → AllByRecursion IsTight (map printed_decl ds)
tight_decls [] = tt
tight_decls (d ∷ ds) = (refl, tight_decls ds)

pub tight_names : (ns : List Name) → AllByRecursion IsTight (map name_token ns)
tight_names [] = tt
tight_names (n ∷ ns) = (refl, tight_names ns)

pub tight_left : (ds : List Decl) → IsTight (printed_left ds)
tight_left [] = refl
tight_left (d ∷ []) = refl
tight_left (d ∷ e ∷ ds) = refl

pub tight_def : (d : DefTree) → IsTight (printed_def d)
tight_def d = tight-append (printed_left d.left) _ (tight_left d.left)

pub text_def : (d : DefTree) → spaced_text (printed_def d) ≡ spaced_text (printed_left d.left) ++ (32 ∷ (spaced_text (the mark.Equals) ++ (32 ∷ (text_of_tree d.right ++ []))))
text_def d = text_words (printed_left d.left) (the mark.Equals ∷ printed d.right ∷ []) (refl, (tight d.right, tt))

-- each further definition, on a line of its own
pub text_more_defs : (d : DefTree) (ds : List DefTree) → spaced_text (more_defs (d ∷ ds)) ≡ 10 ∷ 32 ∷ 32 ∷ (spaced_text (the mark.And) ++ (32 ∷ (spaced_text (printed_def d) ++ spaced_text (more_defs ds))))
text_more_defs d ds =
    ap (λ u. 10 ∷ 32 ∷ 32 ∷ (spaced_text (the mark.And) ++ u)) (text-append (after blank (printed_def d)) (more_defs ds) ∙ ap (λ u. u ++ spaced_text (more_defs ds)) (text-after blank (printed_def d) (tight_def d)))

pub text_body : (d : DefTree) (ds : List DefTree) →
    spaced_text (printed_body (d ∷ ds)) ≡ 32 ∷ (spaced_text (the mark.Where) ++ (32 ∷ (spaced_text (the mark.Rec) ++ (10 ∷ 32 ∷ 32 ∷ (spaced_text (printed_def d) ++ spaced_text (more_defs ds))))))
text_body d ds =
    ap (λ u. 32 ∷ (spaced_text (the mark.Where) ++ (32 ∷ (spaced_text (the mark.Rec) ++ u)))) (text-append (after indent (printed_def d)) (more_defs ds) ∙ ap (λ u. u ++ spaced_text (more_defs ds)) (text-after indent (printed_def d) (tight_def d)))

pub text_node : (n : NodeTree) → spaced_text (printed_node n)
    ≡ (spaced_text (the mark.Let) ++ blanked (the mark.Node ∷ name_token n.name ∷ parens (commas (map printed_decl n.params)) ∷ the mark.Equals ∷ parens (commas (map name_token n.results)) ∷ [])) ++ spaced_text (printed_body n.defs)
text_node n =
    text-append (words (the mark.Let ∷ the mark.Node ∷ name_token n.name ∷ parens (commas (map printed_decl n.params)) ∷ the mark.Equals ∷ parens (commas (map name_token n.results)) ∷ [])) (printed_body n.defs)
    ∙ ap (λ u. u ++ spaced_text (printed_body n.defs))
    (text_words (the mark.Let) (the mark.Node ∷ name_token n.name ∷ parens (commas (map printed_decl n.params)) ∷ the mark.Equals ∷ parens (commas (map name_token n.results)) ∷ []) (refl, (refl, (refl, (refl, (refl, tt))))))

pub text_more_nodes : (n : NodeTree) (ns : List NodeTree) → spaced_text (more_nodes (n ∷ ns)) ≡ 10 ∷ (spaced_text (printed_node n) ++ spaced_text (more_nodes ns))
text_more_nodes n ns = text-append (after line (printed_node n)) (more_nodes ns) ∙ ap (λ u. u ++ spaced_text (more_nodes ns)) (text-after line (printed_node n) refl)

-- each node ends with the end of a line
abbrev pub ended_nodes : List NodeTree → List ℕ
ended_nodes [] = []
ended_nodes (n ∷ ns) = spaced_text (printed_node n) ++ (10 ∷ ended_nodes ns)
