-- The grammar: each part's productions and their meanings. It is
--
--   program ::= node { node }
--   node    ::= let node name params = results [ where rec def { and def } ]
--   params  ::= name | ( [ decl { , decl } ] )
--   decl    ::= name [ : type ] [ :: word ]
--   type    ::= int | bool
--   results ::= name | ( name { , name } )
--   def     ::= decl = expr | ( decl , decl { , decl } ) = call
--   expr    ::= if expr then expr else expr | or
--   or      ::= and { || and }
--   and     ::= cmp { && cmp }
--   cmp     ::= sum [ ( == | != | < | <= | > | >= ) sum ]
--   sum     ::= prod { ( + | - ) prod }
--   prod    ::= samp { ( * | / | % ) samp }
--   samp    ::= pre { ( when | whenot ) word }
--   pre     ::= not pre | buffer pre | buffer number ( expr ) | merge word small small | lit fby pre | atom
--   atom    ::= lit | name | call | host name ( expr , expr ) | ( expr )
--   call    ::= name [ at word ] ( [ expr { , expr } ] )
--   small   ::= lit | name | ( expr )
--   lit     ::= number | true | false
--
-- with a number from 0 to 4,095 in the third form of pre, and where one token ahead decides between productions. So what begins
-- alike is one production here: `name` and `call` of atom are `name [ [ at word ] ( .. ) ]`; what is repeated, or may be left
-- out, is a part of its own; and pre, whose `lit` is also in atom, is
--
--   pre      ::= lit [ fby pre ] | form
--   form     ::= not pre | buffer buffered | merge word small small | atom
--   buffered ::= bound [ fby pre | ( expr ) ] | other [ fby pre ] | form
--   lit      ::= bound | other
--
-- with atom but for its `lit`, where a bound is a number from 0 to 4,095 and other is any other literal: behind `buffer` the
-- first literal alone tells whether a `(` may follow it.
use Rattle.std.specs.Prelude.{true, false, List, [], ◌∷◌, Some, None, unwrap_or}
use Rattle.std.specs.Option.{option_map_or}
use Rattle.lucy_host.specs.declared.op.Op.TheVariants as op
use Rattle.lucy_host.specs.declared.data_type.DataType.TheVariants as holds
use Rattle.lucy_tree.specs.declared.expr.Lit.TheVariants as lit
use Rattle.lucy_tree.specs.Tree.{operator, host, merged, buffered, call, literal, variable, no_more, more, trees_of}
use Rattle.lucy_token.specs.declared.mark.Mark.{Mark}
use Rattle.lucy_token.specs.declared.mark.Mark.TheVariants as mark
use Rattle.lucy_token.specs.declared.token.Kind.TheVariants as kind
use Rattle.lucy_grammar.specs.Kinds.{bound, unbound}
use Rattle.lucy_grammar.specs.Symbols.{Part, Sym, token, any, part, many, perhaps, Val, Vals, Rule, Program, Node, Title, Params, Results, Names, Ident, MoreName, Body, Decls, MoreDecl, Decl, Typing, TypeName, ClockOf, Defs, Def, MoreDef, Lefts, Expr, Or, MoreAnd, And, MoreCmp, Cmp, Compared, CmpOp, Sum, MoreProd, SumOp, Prod, MoreSamp, ProdOp, Samp, Sampling, Pre, Followed, Form, Buffered, Held, Other, Atom, Small, Lit, Pair, Call, Applied, Base, Args, MoreExpr}
use Rattle.lucy_grammar.specs.Meanings.{token_name, token_literal, token_word, two, grouped, sampled_by, literal_before, held_by, named, linked, token_bound}

-- a keyword or a sign
abbrev pub sign : Mark → Sym
sign m = any (kind.Mark m)

-- a production
abbrev pub says : {X : Part} (syms : List Sym) → (Vals syms → Val X) → Rule X
says syms meaning = record { syms = syms; meaning = meaning }

-- the productions of each part
unfoldable pub rules : (X : Part) → List (Rule X)
rules Program = says (part Node ∷ many Node ∷ []) (λ (n, (ns, _)). n ∷ ns) ∷ []
rules Node = says (part Title ∷ part Params ∷ sign mark.Equals ∷ part Results ∷ perhaps Body ∷ [])
    (λ (name, (params, (_, (results, (body, _))))). record { name = name; params = params; results = results; defs = unwrap_or body [] }) ∷ []
rules Title = says (sign mark.Let ∷ sign mark.Node ∷ any kind.Name ∷ []) (λ (_, (_, (n, _))). token_name n) ∷ []
rules Params = says (any kind.Name ∷ []) (λ (n, _). record { name = token_name n; holds = None; word = None } ∷ [])
    ∷ says (sign mark.Open ∷ perhaps Decls ∷ sign mark.Close ∷ []) (λ (_, (ds, _)). unwrap_or ds []) ∷ []
rules Results = says (any kind.Name ∷ []) (λ (n, _). token_name n ∷ [])
    ∷ says (sign mark.Open ∷ part Names ∷ sign mark.Close ∷ []) (λ (_, (ns, _)). ns) ∷ []
rules Names = says (part Ident ∷ many MoreName ∷ []) (λ (n, (ns, _)). n ∷ ns) ∷ []
rules Ident = says (any kind.Name ∷ []) (λ (n, _). token_name n) ∷ []
rules MoreName = says (sign mark.Comma ∷ part Ident ∷ []) (λ (_, (n, _)). n) ∷ []
rules Body = says (sign mark.Where ∷ sign mark.Rec ∷ part Defs ∷ []) (λ (_, (_, (ds, _))). ds) ∷ []
rules Decls = says (part Decl ∷ many MoreDecl ∷ []) (λ (d, (ds, _)). d ∷ ds) ∷ []
rules MoreDecl = says (sign mark.Comma ∷ part Decl ∷ []) (λ (_, (d, _)). d) ∷ []
rules Decl = says (any kind.Name ∷ perhaps Typing ∷ perhaps ClockOf ∷ []) (λ (n, (t, (w, _))). record { name = token_name n; holds = t; word = w }) ∷ []
rules Typing = says (sign mark.Colon ∷ part TypeName ∷ []) (λ (_, (t, _)). t) ∷ []
rules TypeName = says (sign mark.Int ∷ []) (λ _. holds.Int) ∷ says (sign mark.Bool ∷ []) (λ _. holds.Bool) ∷ []
rules ClockOf = says (sign mark.Colons ∷ any kind.Word ∷ []) (λ (_, (w, _)). token_word w.what) ∷ []
rules Defs = says (part Def ∷ many MoreDef ∷ []) (λ (d, (ds, _)). d ∷ ds) ∷ []
rules Def = says (part Decl ∷ sign mark.Equals ∷ part Expr ∷ []) (λ (d, (_, (e, _))). record { left = d ∷ []; right = e })
    ∷ says (part Lefts ∷ sign mark.Equals ∷ part Call ∷ []) (λ (ds, (_, (e, _))). record { left = ds; right = e }) ∷ []
rules MoreDef = says (sign mark.And ∷ part Def ∷ []) (λ (_, (d, _)). d) ∷ []
rules Lefts = says (sign mark.Open ∷ part Decl ∷ sign mark.Comma ∷ part Decls ∷ sign mark.Close ∷ []) (λ (_, (d, (_, (ds, _)))). d ∷ ds) ∷ []
rules Expr = says (sign mark.If ∷ part Expr ∷ sign mark.Then ∷ part Expr ∷ sign mark.Else ∷ part Expr ∷ [])
    (λ (i, (c, (_, (a, (_, (b, _)))))). operator op.If (more c (two a b)) i.span)
    ∷ says (part Or ∷ []) (λ (e, _). e) ∷ []
rules Or = says (part And ∷ many MoreAnd ∷ []) (λ (e, (ls, _)). grouped e ls) ∷ []
rules MoreAnd = says (sign mark.Either ∷ part And ∷ []) (λ (o, (e, _)). record { op = op.Or; span = o.span; right = e }) ∷ []
rules And = says (part Cmp ∷ many MoreCmp ∷ []) (λ (e, (ls, _)). grouped e ls) ∷ []
rules MoreCmp = says (sign mark.Both ∷ part Cmp ∷ []) (λ (o, (e, _)). record { op = op.And; span = o.span; right = e }) ∷ []
rules Cmp = says (part Sum ∷ perhaps Compared ∷ []) (λ (e, (l, _)). option_map_or (linked e) l e) ∷ []
rules Compared = says (part CmpOp ∷ part Sum ∷ []) (λ ((o, s), (e, _)). record { op = o; span = s; right = e }) ∷ []
rules CmpOp = says (sign mark.Same ∷ []) (λ (o, _). (op.Eq, o.span))
    ∷ says (sign mark.Differs ∷ []) (λ (o, _). (op.Ne, o.span))
    ∷ says (sign mark.Less ∷ []) (λ (o, _). (op.Lt, o.span))
    ∷ says (sign mark.AtMost ∷ []) (λ (o, _). (op.Le, o.span))
    ∷ says (sign mark.Greater ∷ []) (λ (o, _). (op.Gt, o.span))
    ∷ says (sign mark.AtLeast ∷ []) (λ (o, _). (op.Ge, o.span)) ∷ []
rules Sum = says (part Prod ∷ many MoreProd ∷ []) (λ (e, (ls, _)). grouped e ls) ∷ []
rules MoreProd = says (part SumOp ∷ part Prod ∷ []) (λ ((o, s), (e, _)). record { op = o; span = s; right = e }) ∷ []
rules SumOp = says (sign mark.Plus ∷ []) (λ (o, _). (op.Add, o.span)) ∷ says (sign mark.Minus ∷ []) (λ (o, _). (op.Sub, o.span)) ∷ []
rules Prod = says (part Samp ∷ many MoreSamp ∷ []) (λ (e, (ls, _)). grouped e ls) ∷ []
rules MoreSamp = says (part ProdOp ∷ part Samp ∷ []) (λ ((o, s), (e, _)). record { op = o; span = s; right = e }) ∷ []
rules ProdOp = says (sign mark.Star ∷ []) (λ (o, _). (op.Mul, o.span))
    ∷ says (sign mark.Slash ∷ []) (λ (o, _). (op.Div, o.span))
    ∷ says (sign mark.Percent ∷ []) (λ (o, _). (op.Rem, o.span)) ∷ []
rules Samp = says (part Pre ∷ many Sampling ∷ []) (λ (e, (ws, _)). sampled_by e ws) ∷ []
rules Sampling = says (sign mark.When ∷ any kind.Word ∷ []) (λ (_, (w, _)). (false, token_word w.what))
    ∷ says (sign mark.Whenot ∷ any kind.Word ∷ []) (λ (_, (w, _)). (true, token_word w.what)) ∷ []
rules Pre = says (part Lit ∷ perhaps Followed ∷ []) (λ (l, (f, _)). literal_before l f)
    ∷ says (part Form ∷ []) (λ (e, _). e) ∷ []
rules Followed = says (sign mark.Fby ∷ part Pre ∷ []) (λ (o, (e, _)). (o.span, e)) ∷ []
rules Form = says (sign mark.Not ∷ part Pre ∷ []) (λ (o, (e, _)). operator op.Not (more e no_more) o.span)
    ∷ says (sign mark.Buffer ∷ part Buffered ∷ []) (λ (o, ((most, e), _)). buffered most e o.span)
    ∷ says (sign mark.Merge ∷ any kind.Word ∷ part Small ∷ part Small ∷ []) (λ (o, (w, (a, (b, _)))). merged (token_word w.what) a b o.span)
    ∷ says (part Atom ∷ []) (λ (e, _). e) ∷ []
rules Buffered = says (token bound ∷ perhaps Held ∷ []) (λ (n, (h, _)). held_by (token_bound n.what) (token_literal n.what, n.span) h)
    ∷ says (part Other ∷ perhaps Followed ∷ []) (λ (l, (f, _)). (None, literal_before l f))
    ∷ says (part Form ∷ []) (λ (e, _). (None, e)) ∷ []
rules Held = says (part Followed ∷ []) (λ ((fby, e), _). (Some fby, e))
    ∷ says (sign mark.Open ∷ part Expr ∷ sign mark.Close ∷ []) (λ (_, (e, _)). (None, e)) ∷ []
rules Other = says (token unbound ∷ []) (λ (n, _). (token_literal n.what, n.span))
    ∷ says (sign mark.True ∷ []) (λ (t, _). (lit.Bool true, t.span))
    ∷ says (sign mark.False ∷ []) (λ (t, _). (lit.Bool false, t.span)) ∷ []
rules Atom = says (any kind.Name ∷ perhaps Applied ∷ []) (λ (n, (a, _)). named (token_name n) a)
    ∷ says (sign mark.Host ∷ any kind.Name ∷ part Pair ∷ []) (λ (_, (n, (args, _))). host (token_name n) args)
    ∷ says (sign mark.Open ∷ part Expr ∷ sign mark.Close ∷ []) (λ (_, (e, _)). e) ∷ []
rules Small = says (part Lit ∷ []) (λ ((l, s), _). literal l s)
    ∷ says (any kind.Name ∷ []) (λ (n, _). variable (token_name n))
    ∷ says (sign mark.Open ∷ part Expr ∷ sign mark.Close ∷ []) (λ (_, (e, _)). e) ∷ []
rules Lit = says (any kind.Number ∷ []) (λ (n, _). (token_literal n.what, n.span))
    ∷ says (sign mark.True ∷ []) (λ (t, _). (lit.Bool true, t.span))
    ∷ says (sign mark.False ∷ []) (λ (t, _). (lit.Bool false, t.span)) ∷ []
rules Pair = says (sign mark.Open ∷ part Expr ∷ sign mark.Comma ∷ part Expr ∷ sign mark.Close ∷ []) (λ (_, (a, (_, (b, _)))). two a b) ∷ []
rules Call = says (any kind.Name ∷ part Applied ∷ []) (λ (n, (a, _)). call (token_name n) a.0 a.1) ∷ []
rules Applied = says (perhaps Base ∷ sign mark.Open ∷ perhaps Args ∷ sign mark.Close ∷ []) (λ (at, (_, (args, _))). (at, unwrap_or args no_more)) ∷ []
rules Base = says (sign mark.At ∷ any kind.Word ∷ []) (λ (_, (w, _)). token_word w.what) ∷ []
rules Args = says (part Expr ∷ many MoreExpr ∷ []) (λ (e, (es, _)). more e (trees_of es)) ∷ []
rules MoreExpr = says (sign mark.Comma ∷ part Expr ∷ []) (λ (_, (e, _)). e) ∷ []
