-- A definition of a program that was read is printed by no more tokens, but for parentheses, than it may have.
use Rattle.std.proofs.Common.{◌≡◌, ℕ, ◌≤◌, Bool, true, false, List, [], ◌∷◌, ◌++◌, length, Option, Some, None, map, refl, ap, sym, ◌∙◌, subst, append_assoc}
use Rattle.std.specs.List.{AllByRecursion}
use Rattle.lucy_word.specs.Limits.{limit_number}
use Rattle.lucy_word.specs.declared.limit.Limit.TheVariants as limit
use Rattle.lucy_word.specs.Bits.{Bits}
use Rattle.lucy_host.specs.declared.op.Op.{Op}
use Rattle.lucy_host.specs.declared.op.Op.TheVariants as op
use Rattle.lucy_host.specs.declared.data_type.DataType.{DataType}
use Rattle.lucy_host.specs.declared.data_type.DataType.TheVariants as holds
use Rattle.lucy_tree.specs.declared.span.Name as name
use Rattle.lucy_tree.specs.declared.decl.Decl as decl
use Rattle.lucy_tree.specs.declared.expr.Lit as lit_type
use Rattle.lucy_tree.specs.declared.expr.Lit.TheVariants as lit
use Rattle.lucy_tree.specs.Tree.{Tree, Trees, literal, variable, operator, host, sampled, merged, followed, buffered, call, no_more, more}
use Rattle.lucy_tree.specs.View.{DefTree, NodeTree, ProgramTree}
use Rattle.lucy_token.specs.declared.mark.Mark.TheVariants as mark
use Rattle.lucy_token.specs.declared.token.Kind.TheVariants as kind
use Rattle.std.specs.Prelude.{pos}
use Rattle.lucy_token.specs.declared.token.What.{What}
use Rattle.lucy_token.specs.declared.token.What.TheVariants as what
use Rattle.lucy_token.specs.Printed.{Printed}
use Rattle.lucy_token.specs.Marks.{op_mark}
use Rattle.lucy_grammar.specs.PrintTokens.{blank, indent, line, the, after, spaced, words, after_commas, commas, parens, name_token, word_token, lit_token, when_mark, operated, called, one, held, operand, printed, all_printed, operands, printed_decl, printed_left, printed_def, more_defs, printed_body, printed_node, more_nodes, printed_program}
use Rattle.lucy_grammar.proofs.Cores.{core, core-append, core-after, core-parens, core-operand, put_after}
use Rattle.lucy_grammar.proofs.Counts.{Count, count_on, AllCount, count_behind, IsCounted, few_tokens}

-- tokens of a definition
abbrev AreOwn : List Printed → Type 0
AreOwn ps = AllByRecursion IsCounted (core ps)

all_append : (a b : List What) → AllByRecursion IsCounted a → AllByRecursion IsCounted b → AllByRecursion IsCounted (a ++ b)
all_append [] b h k = k
all_append (w ∷ a) b h k = (h.0, all_append a b h.1 k)

own_and : (a b : List Printed) → AreOwn a → AreOwn b → AreOwn (a ++ b)
own_and a b h k = subst (AllByRecursion IsCounted) (sym (core-append a b)) (all_append (core a) (core b) h k)

own_blank : (a : List Printed) → AreOwn a → AreOwn (after blank a)
own_blank a h = subst (AllByRecursion IsCounted) (sym (core-after blank a)) h

own_parens : (a : List Printed) → AreOwn a → AreOwn (parens a)
own_parens a h = subst (AllByRecursion IsCounted) (sym (core-parens a)) h

own_operand : (t : Tree) (a : List Printed) → AreOwn a → AreOwn (operand t a)
own_operand t a h = subst (AllByRecursion IsCounted) (sym (core-operand t a)) h

own_spaced : (xs : List (List Printed)) → AllByRecursion AreOwn xs → AreOwn (spaced xs)
own_spaced [] h = tt
own_spaced (x ∷ xs) h = own_and (after blank x) (spaced xs) (own_blank x h.0) (own_spaced xs h.1)

own_words : (xs : List (List Printed)) → AllByRecursion AreOwn xs → AreOwn (words xs)
own_words [] h = tt
own_words (x ∷ xs) h = own_and x (spaced xs) h.0 (own_spaced xs h.1)

own_further : (xs : List (List Printed)) → AllByRecursion AreOwn xs → AreOwn (after_commas xs)
own_further [] h = tt
own_further (x ∷ xs) h = (tt, own_and (after blank x) (after_commas xs) (own_blank x h.0) (own_further xs h.1))

own_list : (xs : List (List Printed)) → AllByRecursion AreOwn xs → AreOwn (parens (commas xs))
own_list [] h = tt
own_list (x ∷ xs) h = own_parens (x ++ after_commas xs) (own_and x (after_commas xs) h.0 (own_further xs h.1))

own_op : (o : Op) → AreOwn (the (op_mark o))
own_op op.Add = (tt, tt)
own_op o = (tt, tt)

own_when : (flip : Bool) → AreOwn (the (when_mark flip))
own_when true = (tt, tt)
own_when false = (tt, tt)

own_lit : (l : lit_type.Lit) → AreOwn (lit_token l)
own_lit (lit.Int n) = (tt, tt)
own_lit (lit.Bool true) = (tt, tt)
own_lit (lit.Bool false) = (tt, tt)

own_operated : (o : Op) (xs : List (List Printed)) → AllByRecursion AreOwn xs → AreOwn (operated o xs)
own_operated o [] h = own_op o
own_operated o (a ∷ []) h = own_words (the (op_mark o) ∷ a ∷ []) (own_op o, h)
own_operated o (a ∷ b ∷ []) h = own_words (a ∷ the (op_mark o) ∷ b ∷ []) (h.0, (own_op o, h.1))
own_operated o (a ∷ b ∷ c ∷ rest) h = own_words (the (op_mark o) ∷ a ∷ the mark.Then ∷ b ∷ the mark.Else ∷ c ∷ []) (own_op o, (h.0, ((tt, tt), (h.1.0, ((tt, tt), (h.1.1.0, tt))))))

own_called : (n : name.Name) (at : Option Bits) (args : List Printed) → AreOwn args → AreOwn (called n at args)
own_called n None args h = own_words (name_token n ∷ args ∷ []) ((tt, tt), (h, tt))
own_called n (Some w) args h = own_words (name_token n ∷ the mark.At ∷ word_token w ∷ args ∷ []) ((tt, tt), ((tt, tt), ((tt, tt), (h, tt))))

own_held : (most : Option ℕ) (a b : List Printed) → AreOwn a → AreOwn b → AreOwn (held most a b)
own_held None a b h k = own_words (the mark.Buffer ∷ a ∷ []) ((tt, tt), (h, tt))
own_held (Some n) a b h k = own_words (the mark.Buffer ∷ one (what.Number (pos n)) ∷ parens b ∷ []) ((tt, tt), ((tt, tt), (own_parens b k, tt)))

mutual
  own_tree : (t : Tree) → AreOwn (printed t)
  own_tree (literal l span) = own_lit l
  own_tree (variable n) = (tt, tt)
  own_tree (operator o args span) = own_operated o (operands args) (own_operands args)
  own_tree (host n args) = own_words (the mark.Host ∷ name_token n ∷ parens (commas (all_printed args)) ∷ []) ((tt, tt), ((tt, tt), (own_list (all_printed args) (own_all args), tt)))
  own_tree (sampled flip e w) = own_words (operand e (printed e) ∷ the (when_mark flip) ∷ word_token w ∷ []) (own_operand e (printed e) (own_tree e), (own_when flip, ((tt, tt), tt)))
  own_tree (merged w a b span) =
      own_words (the mark.Merge ∷ word_token w ∷ operand a (printed a) ∷ operand b (printed b) ∷ []) ((tt, tt), ((tt, tt), (own_operand a (printed a) (own_tree a), (own_operand b (printed b) (own_tree b), tt))))
  own_tree (followed l e span) = own_words (lit_token l ∷ the mark.Fby ∷ operand e (printed e) ∷ []) (own_lit l, ((tt, tt), (own_operand e (printed e) (own_tree e), tt)))
  own_tree (buffered most e span) = own_held most (operand e (printed e)) (printed e) (own_operand e (printed e) (own_tree e)) (own_tree e)
  own_tree (call n at args) = own_called n at (parens (commas (all_printed args))) (own_list (all_printed args) (own_all args))

  own_all : (ts : Trees) → AllByRecursion AreOwn (all_printed ts)
  own_all no_more = tt
  own_all (more t ts) = (own_tree t, own_all ts)

  own_operands : (ts : Trees) → AllByRecursion AreOwn (operands ts)
  own_operands no_more = tt
  own_operands (more t ts) = (own_operand t (printed t) (own_tree t), own_operands ts)

own_decl_of : (n : name.Name) (t : Option DataType) (w : Option Bits) → AreOwn (printed_decl (record { name = n; holds = t; word = w }))
own_decl_of n None None = (tt, tt)
own_decl_of n None (Some w) = (tt, (tt, (tt, tt)))
own_decl_of n (Some holds.Int) None = (tt, (tt, (tt, tt)))
own_decl_of n (Some holds.Bool) None = (tt, (tt, (tt, tt)))
own_decl_of n (Some holds.Int) (Some w) = (tt, (tt, (tt, (tt, (tt, tt)))))
own_decl_of n (Some holds.Bool) (Some w) = (tt, (tt, (tt, (tt, (tt, tt)))))

own_decls : (ds : List decl.Decl) → AllByRecursion AreOwn (map printed_decl ds)
own_decls [] = tt
own_decls (d ∷ ds) = (own_decl_of d.name d.holds d.word, own_decls ds)

own_left : (ds : List decl.Decl) → AreOwn (printed_left ds)
own_left [] = tt
own_left (d ∷ []) = own_decl_of d.name d.holds d.word
own_left (d ∷ e ∷ ds) = own_list (map printed_decl (d ∷ e ∷ ds)) (own_decls (d ∷ e ∷ ds))

own_def : (d : DefTree) → AreOwn (printed_def d)
own_def d = own_words (printed_left d.left ∷ the mark.Equals ∷ printed d.right ∷ []) (own_left d.left, ((tt, tt), (own_tree d.right, tt)))

-- how many tokens there are but for parentheses
abbrev pub weight : List Printed → ℕ
weight ps = length (core ps)

abbrev pub IsLight : DefTree → Type 0
IsLight d = weight (printed_def d) ≤ limit_number limit.Tokens

abbrev pub AreLight : NodeTree → Type 0
AreLight n = AllByRecursion IsLight n.defs

-- what was counted, and what is left
record Counted (P : Type 0) (rest : List What) : Type 0 where
  all : P
  from : Count
  left : AllCount from rest

-- a definition, where the counting begins, and what follows it
light_def : (c : Count) (blanks : List ℕ) (d : DefTree) (b : List Printed) (rest : List What) → c.in_head ≡ false → c.tokens ≡ 0 → AllCount c (core (after blanks (printed_def d) ++ b) ++ rest) → Counted (IsLight d) (core b ++ rest)
light_def c blanks d b rest e f h =
    let P : List What → Type 0 = λ u. AllCount c u in
    let a : List What = core (printed_def d) in
    let whole : P (a ++ (core b ++ rest)) = subst P (ap (λ u. u ++ rest) (put_after blanks (printed_def d) b (core b) refl) ∙ append_assoc a (core b) rest) h in
    let r = count_behind c a (core b ++ rest) whole in
    record { all = few_tokens c a (core b ++ rest) e f (own_def d) whole; from = r.0; left = r.1 }

light_more : (c : Count) (ds : List DefTree) (rest : List What) → AllCount c (core (more_defs ds) ++ rest) → Counted (AllByRecursion IsLight ds) rest
light_more c [] rest h = record { all = tt; from = c; left = h }
light_more c (d ∷ ds) rest h =
    let x = light_def (count_on c (kind.Mark mark.And)) blank d (more_defs ds) rest refl refl h.1 in
    let y = light_more x.from ds rest x.left in
    record { all = (x.all, y.all); from = y.from; left = y.left }

light_body : (c : Count) (ds : List DefTree) (rest : List What) → AllCount c (core (printed_body ds) ++ rest) → Counted (AllByRecursion IsLight ds) rest
light_body c [] rest h = record { all = tt; from = c; left = h }
light_body c (d ∷ ds) rest h =
    let x = light_def (count_on (count_on c (kind.Mark mark.Where)) (kind.Mark mark.Rec)) indent d (more_defs ds) rest refl refl h.1.1 in
    let y = light_more x.from ds rest x.left in
    record { all = (x.all, y.all); from = y.from; left = y.left }

light_node : (c : Count) (n : NodeTree) (rest : List What) → AllCount c (core (printed_node n) ++ rest) → Counted (AreLight n) rest
light_node c n rest h =
    let head : List Printed = words (the mark.Let ∷ the mark.Node ∷ name_token n.name ∷ parens (commas (map printed_decl n.params)) ∷ the mark.Equals ∷ parens (commas (map name_token n.results)) ∷ []) in
    let P : List What → Type 0 = λ u. AllCount c u in
    let whole : P (core head ++ (core (printed_body n.defs) ++ rest)) = subst P (ap (λ u. u ++ rest) (core-append head (printed_body n.defs)) ∙ append_assoc (core head) (core (printed_body n.defs)) rest) h in
    let r = count_behind c (core head) (core (printed_body n.defs) ++ rest) whole in
    light_body r.0 n.defs rest r.1

light_nodes : (c : Count) (ns : List NodeTree) → AllCount c (core (more_nodes ns)) → AllByRecursion AreLight ns
light_nodes c [] h = tt
light_nodes c (n ∷ ns) h =
    let P : List What → Type 0 = λ u. AllCount c u in
    let x = light_node c n (core (more_nodes ns)) (subst P (put_after line (printed_node n) (more_nodes ns) (core (more_nodes ns)) refl) h) in
    (x.all, light_nodes x.from ns x.left)

pub light_program : (c : Count) (p : ProgramTree) → AllCount c (core (printed_program p)) → AllByRecursion AreLight p
light_program c [] h = tt
light_program c (n ∷ ns) h =
    let P : List What → Type 0 = λ u. AllCount c u in
    let x = light_node c n (core (more_nodes ns)) (subst P (core-append (printed_node n) (more_nodes ns)) h) in
    (x.all, light_nodes x.from ns x.left)
