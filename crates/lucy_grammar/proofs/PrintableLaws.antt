-- Every program of the grammar can be printed.
use Rattle.std.specs.Prelude.{pos, negsuc, unwrap_or}
use Rattle.std.specs.Option.{option_map_or}
use Rattle.std.proofs.lemmas.Bool.Decides.{nat_tests}
use Rattle.std.proofs.Common.{◌≤◌, nat_le, true, arith, ℕ, zero, suc, ◌≡◌, Bool, List, [], ◌∷◌, ◌++◌, length, Option, Some, None, refl, sym, subst}
use Rattle.std.specs.List.{AllByRecursion}
use Rattle.std.specs.List.{slice_get}
use Rattle.lucy_word.specs.Bits.{Bits}
use Rattle.lucy_tree.specs.declared.decl.Decl as decl
use Rattle.lucy_tree.specs.Tree.{Tree, Trees, trees_of, list_of, no_more}
use Rattle.lucy_tree.specs.View.{ProgramTree}
use Rattle.lucy_token.specs.declared.mark.Mark.TheVariants as mark
use Rattle.lucy_token.specs.declared.token.Kind.{Kind}
use Rattle.lucy_token.specs.declared.token.Kind.TheVariants as kind
use Rattle.lucy_token.specs.declared.token.What.{What}
use Rattle.lucy_token.specs.declared.token.What.TheVariants as what
use Rattle.lucy_token.specs.declared.token.Token.{Token}
use Rattle.lucy_token.specs.Tokens.{kind_of}
use Rattle.lucy_grammar.specs.Kinds.{is_bound, Fits, bound, sort_kind}
use Rattle.lucy_grammar.proofs.Numbers.{fits_kind}
use Rattle.lucy_grammar.specs.Symbols.{Sym, token, part, many, perhaps, Rule, Val, Vals, Operation, Part, Program, Node, Title, Params, Results, Names, Ident, MoreName, Body, Decls, MoreDecl, Decl, Typing, TypeName, ClockOf, Defs, Def, MoreDef, Lefts, Expr, Or, MoreAnd, And, MoreCmp, Cmp, Compared, CmpOp, Sum, MoreProd, SumOp, Prod, MoreSamp, ProdOp, Samp, Sampling, Pre, Followed, Form, Buffered, Held, Other, Atom, Small, Lit, Pair, Call, Applied, Base, Args, MoreExpr}
use Rattle.lucy_grammar.specs.Meanings.{name_bytes, token_name, token_literal, token_word, token_bound, linked, grouped, sampled_by, literal_before, named, held_by}
use Rattle.lucy_grammar.specs.Grammar.{rules}
use Rattle.lucy_grammar.specs.Deriving.{Deriv, done, take, by_rule, enough, again, absent, present, spelled, value}
use Rattle.lucy_grammar.specs.Programs.{IsProgram}
use Rattle.lucy_grammar.specs.PrintTokens.{when_mark}
use Rattle.lucy_host.specs.Arity.{arity}
use Rattle.lucy_tree.specs.Shaped.{most_bound, IsCall, Defines}
use Rattle.lucy_grammar.specs.Printable.{MayBeNamed, IsLit, MayHaveBound, IsWordBehind, IsPrintable, ArePrintable, AllOfSome, IsPrintableDecl, IsPrintableDef, IsPrintableNode, IsPrintableProgram, StandAfter, Anywhere}
use Rattle.lucy_grammar.proofs.Deriving.{derived}

-- an operator and its right operand, a list of two or more, and an entry that may be missing
abbrev pub IsLink : (Kind → What → Type 0) → Operation → Type 0
IsLink Q l = (2 ≡ arity l.op) × IsPrintable Q l.right

abbrev pub AreSeveral : List decl.Decl → Type 0
AreSeveral [] = ⊥
AreSeveral (d ∷ []) = ⊥
AreSeveral (d ∷ e ∷ ds) = Unit {0}

abbrev pub InOption : {A : Type 0} → (A → Type 0) → Option A → Type 0
InOption P None = Unit {0}
InOption P (Some x) = P x

-- what a part stands for can be printed
abbrev pub Good : (Kind → What → Type 0) → (X : Part) → Val X → Type 0
Good Q Program v = IsPrintableProgram Q v
Good Q Node v = IsPrintableNode Q v
Good Q Title v = MayBeNamed Q v
Good Q Params v = AllByRecursion (IsPrintableDecl Q) v
Good Q Results v = AllOfSome (MayBeNamed Q) v
Good Q Names v = AllOfSome (MayBeNamed Q) v
Good Q Ident v = MayBeNamed Q v
Good Q MoreName v = MayBeNamed Q v
Good Q Body v = AllOfSome (IsPrintableDef Q) v
Good Q Decls v = AllOfSome (IsPrintableDecl Q) v
Good Q MoreDecl v = IsPrintableDecl Q v
Good Q Decl v = IsPrintableDecl Q v
Good Q Typing v = Unit {0}
Good Q TypeName v = Unit {0}
Good Q ClockOf v = IsWordBehind Q mark.Colons (Some v)
Good Q Defs v = AllOfSome (IsPrintableDef Q) v
Good Q Def v = IsPrintableDef Q v
Good Q MoreDef v = IsPrintableDef Q v
Good Q Lefts v = AreSeveral v × AllByRecursion (IsPrintableDecl Q) v
Good Q MoreAnd v = IsLink Q v
Good Q MoreCmp v = IsLink Q v
Good Q Compared v = IsLink Q v
Good Q CmpOp v = 2 ≡ arity v.0
Good Q MoreProd v = IsLink Q v
Good Q SumOp v = 2 ≡ arity v.0
Good Q MoreSamp v = IsLink Q v
Good Q ProdOp v = 2 ≡ arity v.0
Good Q Expr v = IsPrintable Q v
Good Q Or v = IsPrintable Q v
Good Q And v = IsPrintable Q v
Good Q Cmp v = IsPrintable Q v
Good Q Sum v = IsPrintable Q v
Good Q Prod v = IsPrintable Q v
Good Q Samp v = IsPrintable Q v
Good Q Sampling v = IsWordBehind Q (when_mark v.0) (Some v.1)
Good Q Pre v = IsPrintable Q v
Good Q Followed v = IsPrintable Q v.1
Good Q Form v = IsPrintable Q v
Good Q Buffered v = MayHaveBound Q v.0 × IsPrintable Q v.1
Good Q Held v = IsPrintable Q v.1
Good Q Other v = IsLit Q v.0
Good Q Atom v = IsPrintable Q v
Good Q Small v = IsPrintable Q v
Good Q Lit v = IsLit Q v.0
Good Q Pair v = (length (list_of v) ≡ 2) × ArePrintable Q v
Good Q Call v = IsCall v × IsPrintable Q v
Good Q Applied v = IsWordBehind Q mark.At v.0 × ArePrintable Q v.1
Good Q Base v = IsWordBehind Q mark.At (Some v)
Good Q Args v = ArePrintable Q v
Good Q MoreExpr v = IsPrintable Q v

-- what symbols stand for, behind a token of a kind, is so, and each token may stand after the one before it
abbrev pub Goods : (Kind → What → Type 0) → Kind → (syms : List Sym) → Vals syms → Type 0
Goods Q before [] vs = Unit {0}
Goods Q before (token s ∷ syms) vs = Fits s vs.0.what × (Q before vs.0.what × Goods Q (sort_kind s) syms vs.1)
Goods Q before (part X ∷ syms) vs = Good Q X vs.0 × ((k : Kind) × Goods Q k syms vs.1)
Goods Q before (many X ∷ syms) vs = AllByRecursion (Good Q X) vs.0 × ((k : Kind) × Goods Q k syms vs.1)
Goods Q before (perhaps X ∷ syms) vs = InOption (Good Q X) vs.0 × ((k : Kind) × Goods Q k syms vs.1)

-- a production keeps this
abbrev Keeps : (Kind → What → Type 0) → (X : Part) → Rule X → Type 0
Keeps Q X p = (before : Kind) (vs : Vals p.syms) → Goods Q before p.syms vs → Good Q X (p.meaning vs)

abbrev Keep : (Kind → What → Type 0) → (X : Part) → List (Rule X) → Type 0
Keep Q X [] = Unit {0}
Keep Q X (p ∷ ps) = Keeps Q X p × Keep Q X ps

-- names, numbers and words are what their tokens are
named_from : (Q : Kind → What → Type 0) (k : Kind) (w : What) → kind_of w ≡ kind.Name → Q k w → (j : Kind) × Q j (what.Name (name_bytes w))
named_from Q k (what.Name bytes) e q = (k, q)
named_from Q k (what.Mark m) e q = absurd cc
named_from Q k (what.Number n) e q = absurd cc
named_from Q k (what.Word w) e q = absurd cc

lit_from : (Q : Kind → What → Type 0) (k : Kind) (w : What) → kind_of w ≡ kind.Number → Q k w → IsLit Q (token_literal w)
lit_from Q k (what.Number n) e q = (k, q)
lit_from Q k (what.Mark m) e q = absurd cc
lit_from Q k (what.Name bytes) e q = absurd cc
lit_from Q k (what.Word w) e q = absurd cc

word_from : (Q : Kind → What → Type 0) (k : Kind) (w : What) → kind_of w ≡ kind.Word → Q k w → Q k (what.Word (token_word w))
word_from Q k (what.Word w) e q = q
word_from Q k (what.Mark m) e q = absurd cc
word_from Q k (what.Name bytes) e q = absurd cc
word_from Q k (what.Number n) e q = absurd cc

-- lists, options and groups
all_good : {A : Type 0} (P : A → Type 0) (o : Option (List A)) → InOption (AllOfSome P) o → AllByRecursion P (unwrap_or o [])
all_good P None h = tt
all_good P (Some []) h = absurd h
all_good P (Some (x ∷ xs)) h = h

clock_good : (Q : Kind → What → Type 0) (o : Option Bits) → InOption (Good Q ClockOf) o → IsWordBehind Q mark.Colons o
clock_good Q None h = tt
clock_good Q (Some w) h = h

base_good : (Q : Kind → What → Type 0) (o : Option Bits) → InOption (Good Q Base) o → IsWordBehind Q mark.At o
base_good Q None h = tt
base_good Q (Some w) h = h

args_good : (Q : Kind → What → Type 0) (o : Option Trees) → InOption (Good Q Args) o → ArePrintable Q (unwrap_or o no_more)
args_good Q None h = tt
args_good Q (Some ts) h = h

trees_good : (Q : Kind → What → Type 0) (es : List Tree) → AllByRecursion (IsPrintable Q) es → ArePrintable Q (trees_of es)
trees_good Q [] h = tt
trees_good Q (e ∷ es) h = (h.0, trees_good Q es h.1)

grouped_good : (Q : Kind → What → Type 0) (e : Tree) (ls : List Operation) → IsPrintable Q e → AllByRecursion (IsLink Q) ls → IsPrintable Q (grouped e ls)
grouped_good Q e [] g h = g
grouped_good Q e (l ∷ ls) g h = grouped_good Q (linked e l) ls (h.0.0, (g, (h.0.1, tt))) h.1

sampled_good : (Q : Kind → What → Type 0) (e : Tree) (ws : List (Bool × Bits)) → IsPrintable Q e → AllByRecursion (Good Q Sampling) ws → IsPrintable Q (sampled_by e ws)
sampled_good Q e [] g h = g
sampled_good Q e ((flip, w) ∷ ws) g h = sampled_good Q _ ws (g, h.0) h.1

compared_good : (Q : Kind → What → Type 0) (e : Tree) (o : Option Operation) → IsPrintable Q e → InOption (IsLink Q) o → IsPrintable Q (option_map_or (linked e) o e)
compared_good Q e None g h = g
compared_good Q e (Some l) g h = (h.0, (g, (h.1, tt)))

literal_good : (Q : Kind → What → Type 0) (l : Val Lit) (o : Option (Val Followed)) → IsLit Q l.0 → InOption (Good Q Followed) o → IsPrintable Q (literal_before l o)
literal_good Q l None g h = g
literal_good Q l (Some f) g h = (g, h)

few_enough : (n : ℕ) → nat_le n most_bound ≡ true → n ≤ most_bound
few_enough n e = grind (arith, nat_tests)

bound_from : (Q : Kind → What → Type 0) (k : Kind) (w : What) → is_bound w ≡ true → Q k w → MayHaveBound Q (Some (token_bound w))
bound_from Q k (what.Number (pos n)) e q = (few_enough n e, (k, q))
bound_from Q k (what.Number (negsuc n)) e q = absurd cc
bound_from Q k (what.Mark m) e q = absurd cc
bound_from Q k (what.Name bytes) e q = absurd cc
bound_from Q k (what.Word w) e q = absurd cc

held_good : (Q : Kind → What → Type 0) (k : Kind) (n : Token) (o : Option (Val Held)) → is_bound n.what ≡ true → Q k n.what → InOption (Good Q Held) o → Good Q Buffered (held_by (token_bound n.what) (token_literal n.what, n.span) o)
held_good Q k n None e q h = (tt, lit_from Q k n.what (fits_kind bound n.what e) q)
held_good Q k n (Some (Some fby, t)) e q h = (tt, (lit_from Q k n.what (fits_kind bound n.what e) q, h))
held_good Q k n (Some (None, t)) e q h = (bound_from Q k n.what e q, h)

named_good : (Q : Kind → What → Type 0) (n : Val Title) (o : Option (Val Applied)) → MayBeNamed Q n → InOption (Good Q Applied) o → IsPrintable Q (named n o)
named_good Q n None g h = g
named_good Q n (Some a) g h = (g, h)

lefts_good : (Q : Kind → What → Type 0) (d : decl.Decl) (ds : List decl.Decl) → IsPrintableDecl Q d → AllOfSome (IsPrintableDecl Q) ds → Good Q Lefts (d ∷ ds)
lefts_good Q d [] g h = absurd h
lefts_good Q d (e ∷ ds) g h = (tt, (g, h))

several_define : (ds : List decl.Decl) (e : Tree) → AreSeveral ds → IsCall e → Defines ds e
several_define [] e s c = s
several_define (d ∷ []) e s c = tt
several_define (d ∷ f ∷ ds) e s c = c

all_keep : (Q : Kind → What → Type 0) (X : Part) → Keep Q X (rules X)
unfolding rules
all_keep Q Program = (λ k vs h. (h.0, h.1.1.0), tt)
all_keep Q Node = (λ k vs (n, (_, (ps, (_, (_, (_, (rs, (_, (b, _))))))))). record { name = n; params = ps; results = rs; defs = all_good (IsPrintableDef Q) vs.1.1.1.1.0 b }, tt)
all_keep Q Title = (λ k vs (_, (_, (_, (_, (e, (q, _)))))). named_from Q _ vs.1.1.0.what e q, tt)
all_keep Q Params = (λ k vs (e, (q, _)). ((named_from Q k vs.0.what e q, tt), tt), (λ k vs (_, (_, (ds, _))). all_good (IsPrintableDecl Q) vs.1.0 ds, tt))
all_keep Q Results = (λ k vs (e, (q, _)). (named_from Q k vs.0.what e q, tt), (λ k vs (_, (_, (ns, _))). ns, tt))
all_keep Q Names = (λ k vs h. (h.0, h.1.1.0), tt)
all_keep Q Ident = (λ k vs (e, (q, _)). named_from Q k vs.0.what e q, tt)
all_keep Q MoreName = (λ k vs (_, (_, (n, _))). n, tt)
all_keep Q Body = (λ k vs (_, (_, (_, (_, (ds, _))))). ds, tt)
all_keep Q Decls = (λ k vs h. (h.0, h.1.1.0), tt)
all_keep Q MoreDecl = (λ k vs (_, (_, (d, _))). d, tt)
all_keep Q Decl = (λ k vs (e, (q, (_, (_, (w, _))))). (named_from Q k vs.0.what e q, clock_good Q vs.1.1.0 w), tt)
all_keep Q Typing = (λ k vs h. tt, tt)
all_keep Q TypeName = (λ k vs h. tt, (λ k vs h. tt, tt))
all_keep Q ClockOf = (λ k vs (_, (_, (e, (q, _)))). word_from Q _ vs.1.0.what e q, tt)
all_keep Q Defs = (λ k vs h. (h.0, h.1.1.0), tt)
all_keep Q Def = (
  λ k vs (d, (_, (_, (_, (e, _))))). record { left = (d, tt); right = e; defines = tt },
  (λ k vs (ds, (_, (_, (_, (e, _))))). record { left = ds.1; right = e.1; defines = several_define vs.0 vs.1.1.0 ds.0 e.0 }, tt),
)
all_keep Q MoreDef = (λ k vs (_, (_, (d, _))). d, tt)
all_keep Q Lefts = (λ k vs (_, (_, (d, (_, (_, (_, (ds, _))))))). lefts_good Q vs.1.0 vs.1.1.1.0 d ds, tt)
all_keep Q Expr = (λ k vs (_, (_, (c, (_, (_, (_, (a, (_, (_, (_, (b, _))))))))))). (refl, (c, (a, (b, tt)))), (λ k vs h. h.0, tt))
all_keep Q Or = (λ k vs h. grouped_good Q vs.0 vs.1.0 h.0 h.1.1.0, tt)
all_keep Q MoreAnd = (λ k vs (_, (_, (e, _))). (refl, e), tt)
all_keep Q And = (λ k vs h. grouped_good Q vs.0 vs.1.0 h.0 h.1.1.0, tt)
all_keep Q MoreCmp = (λ k vs (_, (_, (e, _))). (refl, e), tt)
all_keep Q Cmp = (λ k vs h. compared_good Q vs.0 vs.1.0 h.0 h.1.1.0, tt)
all_keep Q Compared = (λ k vs h. (h.0, h.1.1.0), tt)
all_keep Q CmpOp = (λ k vs h. refl, (λ k vs h. refl, (λ k vs h. refl, (λ k vs h. refl, (λ k vs h. refl, (λ k vs h. refl, tt))))))
all_keep Q Sum = (λ k vs h. grouped_good Q vs.0 vs.1.0 h.0 h.1.1.0, tt)
all_keep Q MoreProd = (λ k vs h. (h.0, h.1.1.0), tt)
all_keep Q SumOp = (λ k vs h. refl, (λ k vs h. refl, tt))
all_keep Q Prod = (λ k vs h. grouped_good Q vs.0 vs.1.0 h.0 h.1.1.0, tt)
all_keep Q MoreSamp = (λ k vs h. (h.0, h.1.1.0), tt)
all_keep Q ProdOp = (λ k vs h. refl, (λ k vs h. refl, (λ k vs h. refl, tt)))
all_keep Q Samp = (λ k vs h. sampled_good Q vs.0 vs.1.0 h.0 h.1.1.0, tt)
all_keep Q Sampling = (λ k vs (_, (_, (e, (q, _)))). word_from Q _ vs.1.0.what e q, (λ k vs (_, (_, (e, (q, _)))). word_from Q _ vs.1.0.what e q, tt))
all_keep Q Pre = (λ k vs h. literal_good Q vs.0 vs.1.0 h.0 h.1.1.0, (λ k vs h. h.0, tt))
all_keep Q Followed = (λ k vs (_, (_, (e, _))). e, tt)
all_keep Q Form = (
  λ k vs (_, (_, (e, _))). (refl, (e, tt)),
  (λ k vs (_, (_, (e, _))). e, (λ k vs (_, (_, (e, (q, (a, (_, (b, _))))))). (word_from Q _ vs.1.0.what e q, (a, b)), (λ k vs h. h.0, tt))),
)
all_keep Q Buffered = (
  λ k vs (e, (q, (h, _))). held_good Q k vs.0 vs.1.0 e q h,
  (λ k vs h. (tt, literal_good Q vs.0 vs.1.0 h.0 h.1.1.0), (λ k vs h. (tt, h.0), tt)),
)
all_keep Q Held = (λ k vs h. h.0, (λ k vs (_, (_, (e, _))). e, tt))
all_keep Q Other = (λ k vs (e, (q, _)). lit_from Q k vs.0.what e.0 q, (λ k vs h. tt, (λ k vs h. tt, tt)))
all_keep Q Atom = (
  λ k vs (e, (q, (a, _))). named_good Q (token_name vs.0) vs.1.0 (named_from Q k vs.0.what e q) a,
  (λ k vs (_, (_, (e, (q, (p, _))))). (named_from Q _ vs.1.0.what e q, p), (λ k vs (_, (_, (e, _))). e, tt)),
)
all_keep Q Small = (λ k vs h. h.0, (λ k vs (e, (q, _)). named_from Q k vs.0.what e q, (λ k vs (_, (_, (e, _))). e, tt)))
all_keep Q Lit = (λ k vs (e, (q, _)). lit_from Q k vs.0.what e q, (λ k vs h. tt, (λ k vs h. tt, tt)))
all_keep Q Pair = (λ k vs (_, (_, (a, (_, (_, (_, (b, _))))))). (refl, (a, (b, tt))), tt)
all_keep Q Call = (λ k vs (e, (q, (a, _))). (tt, (named_from Q k vs.0.what e q, a)), tt)
all_keep Q Applied = (λ k vs (at, (_, (_, (_, (args, _))))). (base_good Q vs.0 at, args_good Q vs.1.1.0 args), tt)
all_keep Q Base = (λ k vs (_, (_, (e, (q, _)))). word_from Q _ vs.1.0.what e q, tt)
all_keep Q Args = (λ k vs h. (h.0, trees_good Q vs.1.0 h.1.1.0), tt)
all_keep Q MoreExpr = (λ k vs (_, (_, (e, _))). e, tt)

keeps_in : (Q : Kind → What → Type 0) (X : Part) (ps : List (Rule X)) (i : ℕ) (p : Rule X) → Keep Q X ps → slice_get ps i ≡ Some p → Keeps Q X p
keeps_in Q X [] i p h e = absurd cc
keeps_in Q X (q ∷ ps) zero p h e =
    let same : q ≡ p = cc in
    subst (λ (r : Rule X). Keeps Q X r) same h.0
keeps_in Q X (q ∷ ps) (suc i) p h e = keeps_in Q X ps i p h.1 e

halves : (Q : Kind → What → Type 0) (k : Kind) (x y : List Token) → StandAfter Q k (x ++ y) → StandAfter Q k x × ((j : Kind) × StandAfter Q j y)
halves Q k [] y h = (tt, (k, h))
halves Q k (t ∷ x) y h = let r = halves Q (kind_of t.what) x y h.1 in ((h.0, r.0), r.1)

-- what a derivation stands for can be printed
pub goods : (Q : Kind → What → Type 0) (k : Kind) (syms : List Sym) (d : Deriv syms) → StandAfter Q k (spelled d) → Goods Q k syms (value d)
goods Q k [] done h = tt
goods Q k (token s ∷ syms) (take t e d) h = (e, (h.0, goods Q (sort_kind s) syms d (subst (λ (i : Kind). StandAfter Q i (spelled d)) (fits_kind s t.what e) h.1)))
goods Q k (part X ∷ syms) (by_rule i p m a b) h =
    let r = halves Q k (spelled a) (spelled b) h in
    (keeps_in Q X (rules X) i p (all_keep Q X) m k (value a) (goods Q k p.syms a r.0), (r.1.0, goods Q r.1.0 syms b r.1.1))
goods Q k (many X ∷ syms) (enough b) h = (tt, (k, goods Q k syms b h))
goods Q k (many X ∷ syms) (again i p m a b) h =
    let r = halves Q k (spelled a) (spelled b) h in
    let rest = goods Q r.1.0 (many X ∷ syms) b r.1.1 in
    ((keeps_in Q X (rules X) i p (all_keep Q X) m k (value a) (goods Q k p.syms a r.0), rest.0), rest.1)
goods Q k (perhaps X ∷ syms) (absent b) h = (tt, (k, goods Q k syms b h))
goods Q k (perhaps X ∷ syms) (present i p m a b) h =
    let r = halves Q k (spelled a) (spelled b) h in
    (keeps_in Q X (rules X) i p (all_keep Q X) m k (value a) (goods Q k p.syms a r.0), (r.1.0, goods Q r.1.0 syms b r.1.1))

-- every program of the grammar can be printed
pub printable : (Q : Kind → What → Type 0) (k : Kind) (ts : List Token) (p : ProgramTree) → IsProgram ts p → StandAfter Q k ts → IsPrintableProgram Q p
printable Q k ts p program h =
    let d = derived program in
    let g = goods Q k (part Program ∷ []) d.0 (subst (λ (u : List Token). StandAfter Q k u) (sym d.1) h) in
    subst (λ (v : ProgramTree × Unit {0}). IsPrintableProgram Q v.0) d.2 g.0

pub all_stand : (k : Kind) (ts : List Token) → StandAfter Anywhere k ts
all_stand k [] = tt
all_stand k (t ∷ ts) = (tt, all_stand (kind_of t.what) ts)
