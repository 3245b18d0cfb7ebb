-- Each part has a derivation, a short one: so what begins symbols can be completed.
use Rattle.std.proofs.Common.{◌≡◌, true, List, [], ◌∷◌, refl}
use Rattle.std.specs.Prelude.{pos, negsuc}
use Rattle.lucy_token.specs.declared.mark.Mark.{Mark}
use Rattle.lucy_token.specs.declared.mark.Mark.TheVariants as mark
use Rattle.lucy_token.specs.declared.token.Kind.TheVariants as kind
use Rattle.lucy_token.specs.declared.token.What.{What}
use Rattle.lucy_token.specs.declared.token.What.TheVariants as what
use Rattle.lucy_grammar.specs.Kinds.{Sort, of, bound, unbound, sort_kind, Fits}
use Rattle.lucy_grammar.specs.Symbols.{Part, Sym, token, any, part, many, perhaps, Program, Node, Title, Params, Results, Names, Ident, MoreName, Body, Decls, MoreDecl, Decl, Typing, TypeName, ClockOf, Defs, Def, MoreDef, Lefts, Expr, Or, MoreAnd, And, MoreCmp, Cmp, Compared, CmpOp, Sum, MoreProd, SumOp, Prod, MoreSamp, ProdOp, Samp, Sampling, Pre, Followed, Form, Buffered, Held, Other, Atom, Small, Lit, Pair, Call, Applied, Base, Args, MoreExpr}
use Rattle.lucy_grammar.specs.Grammar.{rules, sign}
use Rattle.lucy_grammar.specs.Deriving.{Deriv, done, take, by_rule, enough, absent}
use Rattle.lucy_grammar.proofs.Table.{is_kind, good, token_kind, past_token, past_part, past_many, past_perhaps}

-- a derivation of a part, and then one of what comes after it
abbrev pub join : {X : Part} {syms : List Sym} → Deriv (part X ∷ []) → Deriv syms → Deriv (part X ∷ syms)
join (by_rule i p e a rest) b = by_rule i p e a b

-- a token of a sort
some_what : Sort → What
some_what (of kind.End) = what.Mark mark.Let
some_what (of kind.Name) = what.Name []
some_what (of kind.Number) = what.Number (pos 0)
some_what (of kind.Word) = what.Word (record { prefix = []; period = [] })
some_what (of (kind.Mark m)) = what.Mark m
some_what bound = what.Number (pos 0)
some_what unbound = what.Number (negsuc 0)

some_what-fits : (s : Sort) → is_kind (sort_kind s) ≡ true → Fits s (some_what s)
unfolding some_what
some_what-fits (of kind.End) e = absurd cc
some_what-fits (of kind.Name) e = refl
some_what-fits (of kind.Number) e = refl
some_what-fits (of kind.Word) e = refl
some_what-fits (of (kind.Mark m)) e = refl
some_what-fits bound e = refl
some_what-fits unbound e = (refl, refl)

one_token : {syms : List Sym} (s : Sort) → is_kind (sort_kind s) ≡ true → Deriv syms → Deriv (token s ∷ syms)
one_token s e d = take (record { what = some_what s; span = record { from = 0; to = 0 } }) (some_what-fits s e) d

one : {syms : List Sym} (m : Mark) → Deriv syms → Deriv (sign m ∷ syms)
one m d = one_token (of (kind.Mark m)) refl d

name : {syms : List Sym} → Deriv syms → Deriv (any kind.Name ∷ syms)
name d = one_token (of kind.Name) refl d

word : {syms : List Sym} → Deriv syms → Deriv (any kind.Word ∷ syms)
word d = one_token (of kind.Word) refl d

lit : Deriv (part Lit ∷ [])
unfolding rules
lit = by_rule 1 _ refl (one mark.True done) done

pre : Deriv (part Pre ∷ [])
unfolding rules
pre = by_rule 0 _ refl (join lit (absent done)) done

samp : Deriv (part Samp ∷ [])
unfolding rules
samp = by_rule 0 _ refl (join pre (enough done)) done

prod : Deriv (part Prod ∷ [])
unfolding rules
prod = by_rule 0 _ refl (join samp (enough done)) done

sum : Deriv (part Sum ∷ [])
unfolding rules
sum = by_rule 0 _ refl (join prod (enough done)) done

cmp : Deriv (part Cmp ∷ [])
unfolding rules
cmp = by_rule 0 _ refl (join sum (absent done)) done

and : Deriv (part And ∷ [])
unfolding rules
and = by_rule 0 _ refl (join cmp (enough done)) done

or : Deriv (part Or ∷ [])
unfolding rules
or = by_rule 0 _ refl (join and (enough done)) done

expr : Deriv (part Expr ∷ [])
unfolding rules
expr = by_rule 1 _ refl or done

cmp_op : Deriv (part CmpOp ∷ [])
unfolding rules
cmp_op = by_rule 0 _ refl (one mark.Same done) done

sum_op : Deriv (part SumOp ∷ [])
unfolding rules
sum_op = by_rule 0 _ refl (one mark.Plus done) done

prod_op : Deriv (part ProdOp ∷ [])
unfolding rules
prod_op = by_rule 0 _ refl (one mark.Star done) done

type_name : Deriv (part TypeName ∷ [])
unfolding rules
type_name = by_rule 0 _ refl (one mark.Int done) done

decl : Deriv (part Decl ∷ [])
unfolding rules
decl = by_rule 0 _ refl (name (absent (absent done))) done

def : Deriv (part Def ∷ [])
unfolding rules
def = by_rule 0 _ refl (join decl (one mark.Equals expr)) done

defs : Deriv (part Defs ∷ [])
unfolding rules
defs = by_rule 0 _ refl (join def (enough done)) done

ident : Deriv (part Ident ∷ [])
unfolding rules
ident = by_rule 0 _ refl (name done) done

decls : Deriv (part Decls ∷ [])
unfolding rules
decls = by_rule 0 _ refl (join decl (enough done)) done

title : Deriv (part Title ∷ [])
unfolding rules
title = by_rule 0 _ refl (one mark.Let (one mark.Node (name done))) done

params : Deriv (part Params ∷ [])
unfolding rules
params = by_rule 0 _ refl (name done) done

results : Deriv (part Results ∷ [])
unfolding rules
results = by_rule 0 _ refl (name done) done

node : Deriv (part Node ∷ [])
unfolding rules
node = by_rule 0 _ refl (join title (join params (one mark.Equals (join results (absent done))))) done

atom : Deriv (part Atom ∷ [])
unfolding rules
atom = by_rule 0 _ refl (name (absent done)) done

form : Deriv (part Form ∷ [])
unfolding rules
form = by_rule 3 _ refl atom done

followed : Deriv (part Followed ∷ [])
unfolding rules
followed = by_rule 0 _ refl (one mark.Fby pre) done

applied : Deriv (part Applied ∷ [])
unfolding rules
applied = by_rule 0 _ refl (absent (one mark.Open (absent (one mark.Close done)))) done

pub some_part : (X : Part) → Deriv (part X ∷ [])
unfolding rules
some_part Program = by_rule 0 _ refl (join node (enough done)) done
some_part Node = node
some_part Title = title
some_part Params = params
some_part Results = results
some_part Names = by_rule 0 _ refl (join ident (enough done)) done
some_part Ident = ident
some_part MoreName = by_rule 0 _ refl (one mark.Comma ident) done
some_part Body = by_rule 0 _ refl (one mark.Where (one mark.Rec defs)) done
some_part Decls = decls
some_part MoreDecl = by_rule 0 _ refl (one mark.Comma decl) done
some_part Decl = decl
some_part Typing = by_rule 0 _ refl (one mark.Colon type_name) done
some_part TypeName = type_name
some_part ClockOf = by_rule 0 _ refl (one mark.Colons (word done)) done
some_part Defs = defs
some_part Def = def
some_part MoreDef = by_rule 0 _ refl (one mark.And def) done
some_part Lefts = by_rule 0 _ refl (one mark.Open (join decl (one mark.Comma (join decls (one mark.Close done))))) done
some_part Expr = expr
some_part Or = or
some_part MoreAnd = by_rule 0 _ refl (one mark.Either and) done
some_part And = and
some_part MoreCmp = by_rule 0 _ refl (one mark.Both cmp) done
some_part Cmp = cmp
some_part Compared = by_rule 0 _ refl (join cmp_op sum) done
some_part CmpOp = cmp_op
some_part Sum = sum
some_part MoreProd = by_rule 0 _ refl (join sum_op prod) done
some_part SumOp = sum_op
some_part Prod = prod
some_part MoreSamp = by_rule 0 _ refl (join prod_op samp) done
some_part ProdOp = prod_op
some_part Samp = samp
some_part Sampling = by_rule 0 _ refl (one mark.When (word done)) done
some_part Pre = pre
some_part Followed = followed
some_part Form = form
some_part Buffered = by_rule 2 _ refl form done
some_part Held = by_rule 0 _ refl followed done
some_part Other = by_rule 1 _ refl (one mark.True done) done
some_part Atom = atom
some_part Small = by_rule 1 _ refl (name done) done
some_part Lit = lit
some_part Pair = by_rule 0 _ refl (one mark.Open (join expr (one mark.Comma (join expr (one mark.Close done))))) done
some_part Call = by_rule 0 _ refl (name applied) done
some_part Applied = applied
some_part Base = by_rule 0 _ refl (one mark.At (word done)) done
some_part Args = by_rule 0 _ refl (join expr (enough done)) done
some_part MoreExpr = by_rule 0 _ refl (one mark.Comma expr) done

-- and so have symbols
pub some : (X : Part) (syms : List Sym) → good X syms ≡ true → Deriv syms
some X [] g = done
some X (token s ∷ syms) g = one_token s (token_kind X s syms g) (some X syms (past_token X s syms g))
some X (part Y ∷ syms) g = join (some_part Y) (some X syms (past_part X Y syms g))
some X (many Y ∷ syms) g = enough (some X syms (past_many X Y syms g))
some X (perhaps Y ∷ syms) g = absent (some X syms (past_perhaps X Y syms g))
