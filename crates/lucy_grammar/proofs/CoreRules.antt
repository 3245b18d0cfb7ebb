-- Each production keeps its tokens but for parentheses when what it stands for is printed.
use Rattle.std.specs.Prelude.{pos, negsuc, unwrap_or}
use Rattle.std.specs.Option.{option_map_or}
use Rattle.lucy_tree.specs.declared.span.Span.{Span}
use Rattle.lucy_token.specs.declared.token.Kind.TheVariants as kind
use Rattle.lucy_token.specs.declared.token.Token.{Token}
use Rattle.lucy_token.specs.Marks.{op_mark}
use Rattle.lucy_grammar.specs.Kinds.{is_bound}
use Rattle.std.proofs.Common.{ℕ, true, ◌≡◌, Bool, List, [], ◌∷◌, ◌++◌, Option, Some, None, map, refl, ap, sym, ◌∙◌, append_assoc}
use Rattle.std.proofs.lemmas.List.{append-nil}
use Rattle.lucy_word.specs.Bits.{Bits}
use Rattle.lucy_host.specs.declared.data_type.DataType.TheVariants as holds
use Rattle.lucy_tree.specs.declared.span.Name as name
use Rattle.lucy_tree.specs.declared.decl.Decl as decl
use Rattle.lucy_tree.specs.Tree.{Tree, Trees, sampled, buffered, call, trees_of, no_more}
use Rattle.lucy_tree.specs.View.{DefTree, NodeTree}
use Rattle.lucy_token.specs.declared.mark.Mark.TheVariants as mark
use Rattle.lucy_token.specs.declared.token.Kind.{Kind}
use Rattle.lucy_token.specs.declared.token.What.{What}
use Rattle.lucy_token.specs.declared.token.What.TheVariants as what
use Rattle.lucy_token.specs.Printed.{Printed, in_print}
use Rattle.lucy_grammar.specs.Printable.{IsPrintableDef, IsPrintableDecl, AllOfSome, Anywhere}
use Rattle.lucy_grammar.proofs.PrintableLaws.{Goods}
use Rattle.lucy_grammar.proofs.Cores.{core, core-append, core-parens, put, put_after, put_operand, put_later, put_parens, first_defs, flat_link, flat, token_of, all_flat, some_flat, flats}
use Rattle.lucy_grammar.specs.Symbols.{Rule, Val, Vals, Operation, Part, Program, Node, Title, Params, Results, Names, Ident, MoreName, Body, Decls, MoreDecl, Decl, Typing, TypeName, ClockOf, Defs, Def, MoreDef, Lefts, Expr, Or, MoreAnd, And, MoreCmp, Cmp, Compared, CmpOp, Sum, MoreProd, SumOp, Prod, MoreSamp, ProdOp, Samp, Sampling, Pre, Followed, Form, Buffered, Held, Other, Atom, Small, Lit, Pair, Call, Applied, Base, Args, MoreExpr}
use Rattle.lucy_grammar.specs.Meanings.{name_bytes, token_name, token_literal, token_word, token_bound, linked, grouped, sampled_by, literal_before, named, held_by}
use Rattle.lucy_grammar.specs.Grammar.{rules}
use Rattle.lucy_grammar.specs.Parens.{kept}
use Rattle.lucy_grammar.specs.PrintTokens.{blank, indent, line, after, after_commas, commas, parens, name_token, lit_token, when_mark, operand, printed, all_printed, printed_decl, printed_left, printed_def, more_defs, printed_body, printed_node, more_nodes}

plus : (a : List What) → a ≡ a ++ []
plus a = sym (append-nil a)

-- lists and groups
nodes_flat : (ns : List NodeTree) → core (more_nodes ns) ≡ all_flat (flat Node) ns
nodes_flat [] = refl
nodes_flat (n ∷ ns) = put_after line (printed_node n) (more_nodes ns) _ (nodes_flat ns)

names_flat : (ns : List name.Name) → core (after_commas (map name_token ns)) ≡ all_flat (flat MoreName) ns
names_flat [] = refl
names_flat (n ∷ ns) = ap (λ u. what.Mark mark.Comma ∷ what.Name n.text ∷ u) (names_flat ns)

decls_flat : (ds : List decl.Decl) → core (after_commas (map printed_decl ds)) ≡ all_flat (flat MoreDecl) ds
decls_flat [] = refl
decls_flat (d ∷ ds) = ap (λ u. what.Mark mark.Comma ∷ u) (put_after blank (printed_decl d) (after_commas (map printed_decl ds)) _ (decls_flat ds))

defs_flat : (ds : List DefTree) → core (more_defs ds) ≡ all_flat (flat MoreDef) ds
defs_flat [] = refl
defs_flat (d ∷ ds) = ap (λ u. what.Mark mark.And ∷ u) (put_after blank (printed_def d) (more_defs ds) _ (defs_flat ds))

exprs_flat : (es : List Tree) → core (after_commas (all_printed (trees_of es))) ≡ all_flat (flat MoreExpr) es
exprs_flat [] = refl
exprs_flat (e ∷ es) = ap (λ u. what.Mark mark.Comma ∷ u) (put_after blank (printed e) (after_commas (all_printed (trees_of es))) _ (exprs_flat es))

linked_flat : (e : Tree) (l : Operation) → core (printed (linked e l)) ≡ core (printed e) ++ flat_link l
linked_flat e l =
    put_operand e (in_print blank (what.Mark (op_mark l.op)) ∷ (after blank (operand l.right (printed l.right)) ++ [])) (flat_link l)
    (ap (λ u. kept (what.Mark (op_mark l.op)) ++ u) (put_later l.right [] [] refl ∙ append-nil (core (printed l.right))))

grouped_flat : (e : Tree) (ls : List Operation) → core (printed (grouped e ls)) ≡ core (printed e) ++ all_flat flat_link ls
grouped_flat e [] = plus (core (printed e))
grouped_flat e (l ∷ ls) = grouped_flat (linked e l) ls ∙ ap (λ u. u ++ all_flat flat_link ls) (linked_flat e l) ∙ append_assoc (core (printed e)) (flat_link l) (all_flat flat_link ls)

sampled_flat : (e : Tree) (ws : List (Bool × Bits)) → core (printed (sampled_by e ws)) ≡ core (printed e) ++ all_flat (flat Sampling) ws
sampled_flat e [] = plus (core (printed e))
sampled_flat e ((flip, w) ∷ ws) =
    let one : core (printed (sampled flip e w)) ≡ core (printed e) ++ flat Sampling (flip, w) = put_operand e (in_print blank (what.Mark (when_mark flip)) ∷ in_print blank (what.Word w) ∷ []) (flat Sampling (flip, w)) refl in
    sampled_flat (sampled flip e w) ws ∙ ap (λ u. u ++ all_flat (flat Sampling) ws) one ∙ append_assoc (core (printed e)) (flat Sampling (flip, w)) (all_flat (flat Sampling) ws)

-- with nothing behind them
grouped_rule : (e : Tree) (ls : List Operation) → core (printed (grouped e ls)) ≡ core (printed e) ++ (all_flat flat_link ls ++ [])
grouped_rule e ls = grouped_flat e ls ∙ ap (λ u. core (printed e) ++ u) (plus (all_flat flat_link ls))

compared_rule : (e : Tree) (o : Option Operation) → core (printed (option_map_or (linked e) o e)) ≡ core (printed e) ++ (some_flat flat_link o ++ [])
compared_rule e None = plus (core (printed e))
compared_rule e (Some l) = linked_flat e l ∙ ap (λ u. core (printed e) ++ u) (plus (flat_link l))

literal_rule : (l : Val Lit) (o : Option (Val Followed)) → core (printed (literal_before l o)) ≡ flat Lit l ++ (some_flat (flat Followed) o ++ [])
literal_rule l None = plus (flat Lit l)
literal_rule l (Some f) =
    put (lit_token l.0) (in_print blank (what.Mark mark.Fby) ∷ (after blank (operand f.1 (printed f.1)) ++ [])) (flat Followed f ++ []) (ap (λ u. what.Mark mark.Fby ∷ u) (put_later f.1 [] [] refl))

buffer_rule : (most : Option ℕ) (e : Tree) (s : Span) → core (printed (buffered most e s)) ≡ what.Mark mark.Buffer ∷ (flat Buffered (most, e) ++ [])
buffer_rule None e s = ap (λ u. what.Mark mark.Buffer ∷ u) (put_later e [] [] refl)
buffer_rule (Some n) e s = ap (λ u. what.Mark mark.Buffer ∷ what.Number (pos n) ∷ u) (put_parens (printed e) [] [] refl)

bound_token : (w : What) → is_bound w ≡ true → what.Number (pos (token_bound w)) ∷ [] ≡ token_of kind.Number w
bound_token (what.Number (pos n)) e = refl
bound_token (what.Number (negsuc n)) e = absurd cc
bound_token (what.Mark m) e = absurd cc
bound_token (what.Name bytes) e = absurd cc
bound_token (what.Word w) e = absurd cc

held_rule : (n : Token) (o : Option (Val Held)) → is_bound n.what ≡ true → flat Buffered (held_by (token_bound n.what) (token_literal n.what, n.span) o) ≡ token_of kind.Number n.what ++ (some_flat (flat Held) o ++ [])
held_rule n None e = plus (core (lit_token (token_literal n.what)))
held_rule n (Some (Some fby, t)) e = literal_rule (token_literal n.what, n.span) (Some (fby, t))
held_rule n (Some (None, t)) e = ap (λ u. u ++ core (printed t)) (bound_token n.what e) ∙ ap (λ u. token_of kind.Number n.what ++ u) (plus (core (printed t)))

call_flat : (n : name.Name) (at : Option Bits) (ts : Trees) → core (printed (call n at ts)) ≡ what.Name n.text ∷ (flat Applied (at, ts) ++ [])
call_flat n None ts = ap (λ u. what.Name n.text ∷ u) (put_parens (commas (all_printed ts)) [] [] refl)
call_flat n (Some w) ts = ap (λ u. what.Name n.text ∷ what.Mark mark.At ∷ what.Word w ∷ u) (put_parens (commas (all_printed ts)) [] [] refl)

named_rule : (n : name.Name) (o : Option (Val Applied)) → core (printed (named n o)) ≡ what.Name n.text ∷ (some_flat (flat Applied) o ++ [])
named_rule n None = refl
named_rule n (Some a) = call_flat n a.0 a.1

decl_rule : (n : name.Name) (t : Option (Val Typing)) (w : Option Bits) →
    core (printed_decl (record { name = n; holds = t; word = w })) ≡ what.Name n.text ∷ (some_flat (flat Typing) t ++ (some_flat (flat ClockOf) w ++ []))
decl_rule n None None = refl
decl_rule n None (Some w) = refl
decl_rule n (Some holds.Int) None = refl
decl_rule n (Some holds.Int) (Some w) = refl
decl_rule n (Some holds.Bool) None = refl
decl_rule n (Some holds.Bool) (Some w) = refl

left_flat : (ds : List decl.Decl) → core (printed_left ds) ≡ core (commas (map printed_decl ds))
left_flat [] = refl
left_flat (d ∷ []) = sym (ap core (append-nil (printed_decl d)))
left_flat (d ∷ e ∷ ds) = core-parens (commas (map printed_decl (d ∷ e ∷ ds)))

lefts_rule : (d : decl.Decl) (ds : List decl.Decl) → AllOfSome (IsPrintableDecl Anywhere) ds →
    core (commas (map printed_decl (d ∷ ds))) ≡ core (printed_decl d) ++ (what.Mark mark.Comma ∷ (core (commas (map printed_decl ds)) ++ []))
lefts_rule d [] h = absurd h
lefts_rule d (e ∷ ds) h =
    put (printed_decl d) (after_commas (map printed_decl (e ∷ ds))) _
    (ap (λ u. what.Mark mark.Comma ∷ u) (put_after blank (printed_decl e) (after_commas (map printed_decl ds)) _ refl ∙ sym (core-append (printed_decl e) (after_commas (map printed_decl ds))) ∙ plus (core (commas (map printed_decl (e ∷ ds))))))

body_rule : (ds : List DefTree) → AllOfSome (IsPrintableDef Anywhere) ds → core (printed_body ds) ≡ what.Mark mark.Where ∷ what.Mark mark.Rec ∷ (first_defs ds ++ [])
body_rule [] h = absurd h
body_rule (d ∷ ds) h = ap (λ u. what.Mark mark.Where ∷ what.Mark mark.Rec ∷ u) (put_after indent (printed_def d) (more_defs ds) _ refl ∙ plus (first_defs (d ∷ ds)))

bodies_flat : (o : Option (List DefTree)) → core (printed_body (unwrap_or o [])) ≡ some_flat (flat Body) o ++ []
bodies_flat None = refl
bodies_flat (Some ds) = plus (core (printed_body ds))

params_rule : (o : Option (List decl.Decl)) → core (commas (map printed_decl (unwrap_or o []))) ≡ some_flat (flat Decls) o ++ []
params_rule None = refl
params_rule (Some ds) = plus (flat Decls ds)

applied_rule : (at : Option Bits) (o : Option Trees) → flat Applied (at, unwrap_or o no_more) ≡ some_flat (flat Base) at ++ (some_flat (flat Args) o ++ [])
applied_rule None None = refl
applied_rule None (Some ts) = plus (flat Args ts)
applied_rule (Some w) None = refl
applied_rule (Some w) (Some ts) = ap (λ u. what.Mark mark.At ∷ what.Word w ∷ u) (plus (flat Args ts))

node_rule : (n : name.Name) (ps : List decl.Decl) (rs : List name.Name) (o : Option (List DefTree)) → core (printed_node (record { name = n; params = ps; results = rs; defs = unwrap_or o [] }))
    ≡ what.Mark mark.Let ∷ what.Mark mark.Node ∷ what.Name n.text ∷ (flat Params ps ++ (what.Mark mark.Equals ∷ (flat Results rs ++ (some_flat (flat Body) o ++ []))))
node_rule n ps rs o =
    let head = commas (map printed_decl ps) in
    let tail = commas (map name_token rs) in
    let both : List Printed = after blank (parens head) ++ (in_print blank (what.Mark mark.Equals) ∷ (after blank (parens tail) ++ [])) in
    let first : core both ≡ core head ++ (what.Mark mark.Equals ∷ (core tail ++ [])) = put_parens head _ _ (ap (λ u. what.Mark mark.Equals ∷ u) (put_parens tail [] [] refl)) in
    let whole : core (both ++ printed_body (unwrap_or o [])) ≡ (core head ++ (what.Mark mark.Equals ∷ (core tail ++ []))) ++ (some_flat (flat Body) o ++ []) =
    put both (printed_body (unwrap_or o [])) _ (bodies_flat o) ∙ ap (λ u. u ++ (some_flat (flat Body) o ++ [])) first in
    let last : (core head ++ (what.Mark mark.Equals ∷ (core tail ++ []))) ++ (some_flat (flat Body) o ++ []) ≡ core head ++ (what.Mark mark.Equals ∷ (core tail ++ (some_flat (flat Body) o ++ []))) =
    append_assoc (core head) (what.Mark mark.Equals ∷ (core tail ++ [])) (some_flat (flat Body) o ++ []) ∙ ap (λ u. core head ++ (what.Mark mark.Equals ∷ (u ++ (some_flat (flat Body) o ++ [])))) (append-nil (core tail)) in
    ap (λ u. what.Mark mark.Let ∷ what.Mark mark.Node ∷ what.Name n.text ∷ u) (whole ∙ last)

-- each production's tokens are, but for parentheses, those that are printed of what it stands for
abbrev pub IsFlat : (X : Part) → Rule X → Type 0
IsFlat X p = (k : Kind) (vs : Vals p.syms) → Goods Anywhere k p.syms vs → flat X (p.meaning vs) ≡ flats p.syms vs

abbrev pub AreFlat : (X : Part) → List (Rule X) → Type 0
AreFlat X [] = Unit {0}
AreFlat X (p ∷ ps) = IsFlat X p × AreFlat X ps

pub all_are_flat : (X : Part) → AreFlat X (rules X)
unfolding rules
all_are_flat Program = (λ k vs h. put (printed_node vs.0) (more_nodes vs.1.0) _ (nodes_flat vs.1.0 ∙ plus (all_flat (flat Node) vs.1.0)), tt)
all_are_flat Node = (λ k vs h. node_rule vs.0 vs.1.0 vs.1.1.1.0 vs.1.1.1.1.0, tt)
all_are_flat Title = (λ k vs h. refl, tt)
all_are_flat Params = (λ k vs h. refl, (λ k vs h. params_rule vs.1.0, tt))
all_are_flat Results = (λ k vs h. refl, (λ k vs h. plus (flat Names vs.1.0), tt))
all_are_flat Names = (λ k vs h. ap (λ u. what.Name vs.0.text ∷ u) (names_flat vs.1.0 ∙ plus (all_flat (flat MoreName) vs.1.0)), tt)
all_are_flat Ident = (λ k vs h. refl, tt)
all_are_flat MoreName = (λ k vs h. refl, tt)
all_are_flat Body = (λ k vs h. body_rule vs.1.1.0 h.1.1.1.1.0, tt)
all_are_flat Decls = (λ k vs h. put (printed_decl vs.0) (after_commas (map printed_decl vs.1.0)) _ (decls_flat vs.1.0 ∙ plus (all_flat (flat MoreDecl) vs.1.0)), tt)
all_are_flat MoreDecl = (λ k vs h. ap (λ u. what.Mark mark.Comma ∷ u) (plus (flat Decl vs.1.0)), tt)
all_are_flat Decl = (λ k vs h. decl_rule (token_name vs.0) vs.1.0 vs.1.1.0, tt)
all_are_flat Typing = (λ k vs h. refl, tt)
all_are_flat TypeName = (λ k vs h. refl, (λ k vs h. refl, tt))
all_are_flat ClockOf = (λ k vs h. refl, tt)
all_are_flat Defs = (λ k vs h. ap (λ u. core (printed_def vs.0) ++ u) (defs_flat vs.1.0 ∙ plus (all_flat (flat MoreDef) vs.1.0)), tt)
all_are_flat Def = (
  λ k vs h. put (printed_decl vs.0) (in_print blank (what.Mark mark.Equals) ∷ (after blank (printed vs.1.1.0) ++ [])) _ (ap (λ u. what.Mark mark.Equals ∷ u) (put_after blank (printed vs.1.1.0) [] [] refl)),
  (
    λ k vs h. put (printed_left vs.0) (in_print blank (what.Mark mark.Equals) ∷ (after blank (printed vs.1.1.0) ++ [])) _ (ap (λ u. what.Mark mark.Equals ∷ u) (put_after blank (printed vs.1.1.0) [] [] refl))
        ∙ ap (λ u. u ++ (what.Mark mark.Equals ∷ (core (printed vs.1.1.0) ++ []))) (left_flat vs.0),
    tt,
  ),
)
all_are_flat MoreDef = (λ k vs h. ap (λ u. what.Mark mark.And ∷ u) (plus (flat Def vs.1.0)), tt)
all_are_flat Lefts = (λ k vs h. lefts_rule vs.1.0 vs.1.1.1.0 h.1.1.1.1.1.1.0, tt)
all_are_flat Expr = (
  λ k vs h. ap (λ u. what.Mark mark.If ∷ u) (put_later vs.1.0 _ _ (ap (λ u. what.Mark mark.Then ∷ u) (put_later vs.1.1.1.0 _ _ (ap (λ u. what.Mark mark.Else ∷ u) (put_later vs.1.1.1.1.1.0 [] [] refl))))),
  (λ k vs h. plus (core (printed vs.0)), tt),
)
all_are_flat Or = (λ k vs h. grouped_rule vs.0 vs.1.0, tt)
all_are_flat MoreAnd = (λ k vs h. ap (λ u. what.Mark mark.Either ∷ u) (plus (core (printed vs.1.0))), tt)
all_are_flat And = (λ k vs h. grouped_rule vs.0 vs.1.0, tt)
all_are_flat MoreCmp = (λ k vs h. ap (λ u. what.Mark mark.Both ∷ u) (plus (core (printed vs.1.0))), tt)
all_are_flat Cmp = (λ k vs h. compared_rule vs.0 vs.1.0, tt)
all_are_flat Compared = (λ k vs h. ap (λ u. kept (what.Mark (op_mark vs.0.0)) ++ u) (plus (core (printed vs.1.0))), tt)
all_are_flat CmpOp = (λ k vs h. refl, (λ k vs h. refl, (λ k vs h. refl, (λ k vs h. refl, (λ k vs h. refl, (λ k vs h. refl, tt))))))
all_are_flat Sum = (λ k vs h. grouped_rule vs.0 vs.1.0, tt)
all_are_flat MoreProd = (λ k vs h. ap (λ u. kept (what.Mark (op_mark vs.0.0)) ++ u) (plus (core (printed vs.1.0))), tt)
all_are_flat SumOp = (λ k vs h. refl, (λ k vs h. refl, tt))
all_are_flat Prod = (λ k vs h. grouped_rule vs.0 vs.1.0, tt)
all_are_flat MoreSamp = (λ k vs h. ap (λ u. kept (what.Mark (op_mark vs.0.0)) ++ u) (plus (core (printed vs.1.0))), tt)
all_are_flat ProdOp = (λ k vs h. refl, (λ k vs h. refl, (λ k vs h. refl, tt)))
all_are_flat Samp = (λ k vs h. sampled_flat vs.0 vs.1.0 ∙ ap (λ u. core (printed vs.0) ++ u) (plus (all_flat (flat Sampling) vs.1.0)), tt)
all_are_flat Sampling = (λ k vs h. refl, (λ k vs h. refl, tt))
all_are_flat Pre = (λ k vs h. literal_rule vs.0 vs.1.0, (λ k vs h. plus (core (printed vs.0)), tt))
all_are_flat Followed = (λ k vs h. ap (λ u. what.Mark mark.Fby ∷ u) (plus (core (printed vs.1.0))), tt)
all_are_flat Form = (
  λ k vs h. ap (λ u. what.Mark mark.Not ∷ u) (put_later vs.1.0 [] [] refl),
  (
    λ k vs h. buffer_rule vs.1.0.0 vs.1.0.1 vs.0.span,
    (λ k vs h. ap (λ u. what.Mark mark.Merge ∷ what.Word (token_word vs.1.0.what) ∷ u) (put_later vs.1.1.0 _ _ (put_later vs.1.1.1.0 [] [] refl)), (λ k vs h. plus (core (printed vs.0)), tt)),
  ),
)
all_are_flat Buffered = (λ k vs h. held_rule vs.0 vs.1.0 h.0, (λ k vs h. literal_rule vs.0 vs.1.0, (λ k vs h. plus (core (printed vs.0)), tt)))
all_are_flat Held = (λ k vs h. plus (flat Followed vs.0), (λ k vs h. plus (core (printed vs.1.0)), tt))
all_are_flat Other = (λ k vs h. plus (core (lit_token (token_literal vs.0.what))), (λ k vs h. refl, (λ k vs h. refl, tt)))
all_are_flat Atom = (
  λ k vs h. named_rule (token_name vs.0) vs.1.0,
  (λ k vs h. ap (λ u. what.Mark mark.Host ∷ what.Name (name_bytes vs.1.0.what) ∷ u) (put_parens (commas (all_printed vs.1.1.0)) [] [] refl), (λ k vs h. plus (core (printed vs.1.0)), tt)),
)
all_are_flat Small = (λ k vs h. plus (flat Lit vs.0), (λ k vs h. refl, (λ k vs h. plus (core (printed vs.1.0)), tt)))
all_are_flat Lit = (λ k vs h. plus (core (lit_token (token_literal vs.0.what))), (λ k vs h. refl, (λ k vs h. refl, tt)))
all_are_flat Pair = (λ k vs h. put (printed vs.1.0) _ _ (ap (λ u. what.Mark mark.Comma ∷ u) (put_after blank (printed vs.1.1.1.0) [] [] refl)), tt)
all_are_flat Call = (λ k vs h. call_flat (token_name vs.0) vs.1.0.0 vs.1.0.1, tt)
all_are_flat Applied = (λ k vs h. applied_rule vs.0 vs.1.1.0, tt)
all_are_flat Base = (λ k vs h. refl, tt)
all_are_flat Args = (λ k vs h. put (printed vs.0) (after_commas (all_printed (trees_of vs.1.0))) _ (exprs_flat vs.1.0 ∙ plus (all_flat (flat MoreExpr) vs.1.0)), tt)
all_are_flat MoreExpr = (λ k vs h. ap (λ u. what.Mark mark.Comma ∷ u) (plus (core (printed vs.1.0))), tt)
