-- What tokens are a program for doesn't depend on where they stand.
use Rattle.std.proofs.Common.{ℕ, zero, suc, ◌≡◌, Bool, List, [], ◌∷◌, ◌++◌, Option, Some, None, map, refl, ap, sym, ◌∙◌, subst}
use Rattle.std.specs.Option.{option_map_or}
use Rattle.std.specs.Prelude.{unwrap_or}
use Rattle.std.specs.List.{slice_get}
use Rattle.lucy_word.specs.Bits.{Bits}
use Rattle.lucy_tree.specs.Tree.{Tree, Trees, trees_of, more, no_more}
use Rattle.lucy_token.specs.declared.token.Token.{Token}
use Rattle.lucy_grammar.specs.Kinds.{Fits}
use Rattle.lucy_grammar.specs.Symbols.{Part, Sym, token, part, many, perhaps, Rule, Val, Vals, Operation, Program, Node, Title, Params, Results, Names, Ident, MoreName, Body, Decls, MoreDecl, Decl, Typing, TypeName, ClockOf, Defs, Def, MoreDef, Lefts, Expr, Or, MoreAnd, And, MoreCmp, Cmp, Compared, CmpOp, Sum, MoreProd, SumOp, Prod, MoreSamp, ProdOp, Samp, Sampling, Pre, Followed, Form, Buffered, Held, Other, Atom, Small, Lit, Pair, Call, Applied, Base, Args, MoreExpr}
use Rattle.lucy_grammar.specs.Meanings.{linked, grouped, sampled_by, literal_before, named, token_name, held_by, token_bound, token_literal}
use Rattle.lucy_grammar.specs.Grammar.{rules}
use Rattle.lucy_grammar.specs.Deriving.{Deriv, done, take, by_rule, enough, again, absent, present, spelled, value}
use Rattle.lucy_grammar.proofs.Tokens.{same_pair}
use Rattle.lucy_grammar.specs.Spans.{nowhere, unplaced_token, unplaced_name, unplaced_decl, unplaced, all_unplaced, unplaced_def, unplaced_node, unplaced_program}

abbrev pub unplaced_link : Operation → Operation
unplaced_link l = record { op = l.op; span = nowhere; right = unplaced l.right }

abbrev pub in_option : {A B : Type 0} → (A → B) → Option A → Option B
in_option f None = None
in_option f (Some x) = Some (f x)

-- what a part stands for, but for places
abbrev pub bare : (X : Part) → Val X → Val X
bare Program v = unplaced_program v
bare Node v = unplaced_node v
bare Title v = unplaced_name v
bare Params v = map unplaced_decl v
bare Results v = map unplaced_name v
bare Names v = map unplaced_name v
bare Ident v = unplaced_name v
bare MoreName v = unplaced_name v
bare Body v = map unplaced_def v
bare Decls v = map unplaced_decl v
bare MoreDecl v = unplaced_decl v
bare Decl v = unplaced_decl v
bare Typing v = v
bare TypeName v = v
bare ClockOf v = v
bare Defs v = map unplaced_def v
bare Def v = unplaced_def v
bare MoreDef v = unplaced_def v
bare Lefts v = map unplaced_decl v
bare Expr v = unplaced v
bare Or v = unplaced v
bare MoreAnd v = unplaced_link v
bare And v = unplaced v
bare MoreCmp v = unplaced_link v
bare Cmp v = unplaced v
bare Compared v = unplaced_link v
bare CmpOp v = (v.0, nowhere)
bare Sum v = unplaced v
bare MoreProd v = unplaced_link v
bare SumOp v = (v.0, nowhere)
bare Prod v = unplaced v
bare MoreSamp v = unplaced_link v
bare ProdOp v = (v.0, nowhere)
bare Samp v = unplaced v
bare Sampling v = v
bare Pre v = unplaced v
bare Followed v = (nowhere, unplaced v.1)
bare Form v = unplaced v
bare Buffered v = (v.0, unplaced v.1)
bare Held v = (in_option (λ s. nowhere) v.0, unplaced v.1)
bare Other v = (v.0, nowhere)
bare Atom v = unplaced v
bare Small v = unplaced v
bare Lit v = (v.0, nowhere)
bare Pair v = all_unplaced v
bare Call v = unplaced v
bare Applied v = (v.0, all_unplaced v.1)
bare Base v = v
bare Args v = all_unplaced v
bare MoreExpr v = unplaced v

-- what symbols stand for, but for places
abbrev pub all_bare : (syms : List Sym) → Vals syms → Vals syms
all_bare [] vs = tt
all_bare (token s ∷ syms) vs = (unplaced_token vs.0, all_bare syms vs.1)
all_bare (part X ∷ syms) vs = (bare X vs.0, all_bare syms vs.1)
all_bare (many X ∷ syms) vs = (map (bare X) vs.0, all_bare syms vs.1)
all_bare (perhaps X ∷ syms) vs = (in_option (bare X) vs.0, all_bare syms vs.1)

-- a production makes the same of them
abbrev pub IsBlind : (X : Part) → Rule X → Type 0
IsBlind X p = (vs : Vals p.syms) → bare X (p.meaning vs) ≡ p.meaning (all_bare p.syms vs)

abbrev AreBlind : (X : Part) → List (Rule X) → Type 0
AreBlind X [] = Unit {0}
AreBlind X (p ∷ ps) = IsBlind X p × AreBlind X ps

grouped_bare : (e : Tree) (ls : List Operation) → unplaced (grouped e ls) ≡ grouped (unplaced e) (map unplaced_link ls)
grouped_bare e [] = refl
grouped_bare e (l ∷ ls) = grouped_bare (linked e l) ls

sampled_bare : (e : Tree) (ws : List (Bool × Bits)) → unplaced (sampled_by e ws) ≡ sampled_by (unplaced e) (map (bare Sampling) ws)
sampled_bare e [] = refl
sampled_bare e ((flip, w) ∷ ws) = sampled_bare _ ws

trees_bare : (es : List Tree) → all_unplaced (trees_of es) ≡ trees_of (map unplaced es)
trees_bare [] = refl
trees_bare (e ∷ es) = ap (λ u. more (unplaced e) u) (trees_bare es)

compared_blind : (e : Tree) (l : Option Operation) → unplaced (option_map_or (linked e) l e) ≡ option_map_or (linked (unplaced e)) (in_option unplaced_link l) (unplaced e)
compared_blind e None = refl
compared_blind e (Some l) = refl

literal_blind : (l : Val Lit) (f : Option (Val Followed)) → unplaced (literal_before l f) ≡ literal_before (bare Lit l) (in_option (bare Followed) f)
literal_blind l None = refl
literal_blind l (Some f) = refl

held_blind : (n : Token) (h : Option (Val Held)) → bare Buffered (held_by (token_bound n.what) (token_literal n.what, n.span) h) ≡ held_by (token_bound (unplaced_token n).what) (token_literal (unplaced_token n).what, (unplaced_token n).span) (in_option (bare Held) h)
held_blind n None = refl
held_blind n (Some (Some fby, e)) = refl
held_blind n (Some (None, e)) = refl

named_blind : (n : Val Title) (a : Option (Val Applied)) → unplaced (named n a) ≡ named (unplaced_name n) (in_option (bare Applied) a)
named_blind n None = refl
named_blind n (Some a) = refl

all_blind : {A : Type 0} (f : A → A) (o : Option (List A)) → map f (unwrap_or o []) ≡ unwrap_or (in_option (map f) o) []
all_blind f None = refl
all_blind f (Some l) = refl

decl_blind : (n : Val Title) (t : Option (Val Typing)) (w : Option (Val ClockOf)) →
    unplaced_decl (record { name = n; holds = t; word = w }) ≡ record { name = unplaced_name n; holds = in_option (bare Typing) t; word = in_option (bare ClockOf) w }
decl_blind n None None = refl
decl_blind n None (Some w) = refl
decl_blind n (Some t) None = refl
decl_blind n (Some t) (Some w) = refl

node_blind : (name : Val Title) (params : Val Params) (results : Val Results) (body : Option (Val Body)) →
    unplaced_node (record { name = name; params = params; results = results; defs = unwrap_or body [] })
    ≡ record { name = unplaced_name name; params = map unplaced_decl params; results = map unplaced_name results; defs = unwrap_or (in_option (bare Body) body) [] }
node_blind name params results None = refl
node_blind name params results (Some body) = refl

applied_blind : (at : Option (Val Base)) (args : Option Trees) → ◌≡◌ {A = Val Applied} (at, all_unplaced (unwrap_or args no_more)) (in_option (bare Base) at, unwrap_or (in_option all_unplaced args) no_more)
applied_blind None None = refl
applied_blind None (Some ts) = refl
applied_blind (Some w) None = refl
applied_blind (Some w) (Some ts) = refl

-- the productions make the same of what stands elsewhere
rules_blind : (X : Part) → AreBlind X (rules X)
unfolding rules
rules_blind Program = (λ vs. refl, tt)
rules_blind Node = (λ vs. node_blind vs.0 vs.1.0 vs.1.1.1.0 vs.1.1.1.1.0, tt)
rules_blind Title = (λ vs. refl, tt)
rules_blind Params = (λ vs. refl, (λ vs. all_blind unplaced_decl vs.1.0, tt))
rules_blind Results = (λ vs. refl, (λ vs. refl, tt))
rules_blind Names = (λ vs. refl, tt)
rules_blind Ident = (λ vs. refl, tt)
rules_blind MoreName = (λ vs. refl, tt)
rules_blind Body = (λ vs. refl, tt)
rules_blind Decls = (λ vs. refl, tt)
rules_blind MoreDecl = (λ vs. refl, tt)
rules_blind Decl = (λ vs. decl_blind (token_name vs.0) vs.1.0 vs.1.1.0, tt)
rules_blind Typing = (λ vs. refl, tt)
rules_blind TypeName = (λ vs. refl, (λ vs. refl, tt))
rules_blind ClockOf = (λ vs. refl, tt)
rules_blind Defs = (λ vs. refl, tt)
rules_blind Def = (λ vs. refl, (λ vs. refl, tt))
rules_blind MoreDef = (λ vs. refl, tt)
rules_blind Lefts = (λ vs. refl, tt)
rules_blind Expr = (λ vs. refl, (λ vs. refl, tt))
rules_blind Or = (λ vs. grouped_bare vs.0 vs.1.0, tt)
rules_blind MoreAnd = (λ vs. refl, tt)
rules_blind And = (λ vs. grouped_bare vs.0 vs.1.0, tt)
rules_blind MoreCmp = (λ vs. refl, tt)
rules_blind Cmp = (λ vs. compared_blind vs.0 vs.1.0, tt)
rules_blind Compared = (λ vs. refl, tt)
rules_blind CmpOp = (λ vs. refl, (λ vs. refl, (λ vs. refl, (λ vs. refl, (λ vs. refl, (λ vs. refl, tt))))))
rules_blind Sum = (λ vs. grouped_bare vs.0 vs.1.0, tt)
rules_blind MoreProd = (λ vs. refl, tt)
rules_blind SumOp = (λ vs. refl, (λ vs. refl, tt))
rules_blind Prod = (λ vs. grouped_bare vs.0 vs.1.0, tt)
rules_blind MoreSamp = (λ vs. refl, tt)
rules_blind ProdOp = (λ vs. refl, (λ vs. refl, (λ vs. refl, tt)))
rules_blind Samp = (λ vs. sampled_bare vs.0 vs.1.0, tt)
rules_blind Sampling = (λ vs. refl, (λ vs. refl, tt))
rules_blind Pre = (λ vs. literal_blind vs.0 vs.1.0, (λ vs. refl, tt))
rules_blind Followed = (λ vs. refl, tt)
rules_blind Form = (λ vs. refl, (λ vs. refl, (λ vs. refl, (λ vs. refl, tt))))
rules_blind Buffered = (λ vs. held_blind vs.0 vs.1.0, (λ vs. ap (λ (e : Tree). let p : Val Buffered = (None, e) in p) (literal_blind vs.0 vs.1.0), (λ vs. refl, tt)))
rules_blind Held = (λ vs. refl, (λ vs. refl, tt))
rules_blind Other = (λ vs. refl, (λ vs. refl, (λ vs. refl, tt)))
rules_blind Atom = (λ vs. named_blind (token_name vs.0) vs.1.0, (λ vs. refl, (λ vs. refl, tt)))
rules_blind Small = (λ vs. refl, (λ vs. refl, (λ vs. refl, tt)))
rules_blind Lit = (λ vs. refl, (λ vs. refl, (λ vs. refl, tt)))
rules_blind Pair = (λ vs. refl, tt)
rules_blind Call = (λ vs. refl, tt)
rules_blind Applied = (λ vs. applied_blind vs.0 vs.1.1.0, tt)
rules_blind Base = (λ vs. refl, tt)
rules_blind Args = (λ vs. ap (λ u. more (unplaced vs.0) u) (trees_bare vs.1.0), tt)
rules_blind MoreExpr = (λ vs. refl, tt)

blind_in : (X : Part) (ps : List (Rule X)) (i : ℕ) (p : Rule X) → AreBlind X ps → slice_get ps i ≡ Some p → IsBlind X p
blind_in X [] i p h e = absurd cc
blind_in X (q ∷ ps) zero p h e =
    let same : q ≡ p = cc in
    subst (λ (r : Rule X). IsBlind X r) same h.0
blind_in X (q ∷ ps) (suc i) p h e = blind_in X ps i p h.1 e

pub rule_blind : (X : Part) (i : ℕ) (p : Rule X) → slice_get (rules X) i ≡ Some p → IsBlind X p
rule_blind X i p e = blind_in X (rules X) i p (rules_blind X) e

-- tokens that are two lists one after the other, but for places, are two lists
pub record Halved (ts a b : List Token) : Type 0 where
  pub left : List Token
  pub right : List Token
  pub whole : ts ≡ left ++ right
  pub is_left : map unplaced_token left ≡ a
  pub is_right : map unplaced_token right ≡ b

halved : (a b ts : List Token) → a ++ b ≡ map unplaced_token ts → Halved ts a b
halved [] b ts e = record { left = []; right = ts; whole = refl; is_left = refl; is_right = sym e }
halved (t ∷ a) b [] e = absurd cc
halved (t ∷ a) b (u ∷ ts) e =
    let same : t ≡ unplaced_token u = cc in
    let rest : a ++ b ≡ map unplaced_token ts = cc in
    let h = halved a b ts rest in
    record { left = u ∷ h.left; right = h.right; whole = ap (λ v. u ∷ v) h.whole; is_left = ap (λ v. unplaced_token u ∷ v) h.is_left ∙ ap (λ v. v ∷ a) (sym same); is_right = h.is_right }

-- a derivation of tokens but for places is one of the tokens, and stands for the same but for places
pub record Placed (syms : List Sym) (d : Deriv syms) (ts : List Token) : Type 0 where
  pub deriv : Deriv syms
  pub spells : spelled deriv ≡ ts
  pub means : all_bare syms (value deriv) ≡ value d

pub placed : (syms : List Sym) (d : Deriv syms) (ts : List Token) → spelled d ≡ map unplaced_token ts → Placed syms d ts
placed [] done [] e = record { deriv = done; spells = refl; means = refl }
placed [] done (t ∷ ts) e = absurd cc
placed (token s ∷ syms) (take t h d) [] e = absurd cc
placed (token s ∷ syms) (take t h d) (u ∷ ts) e =
    let same : t ≡ unplaced_token u = cc in
    let rest : spelled d ≡ map unplaced_token ts = cc in
    let p = placed syms d ts rest in
    record { deriv = take u (subst (λ (v : Token). Fits s v.what) same h) p.deriv; spells = ap (λ v. u ∷ v) p.spells; means = same_pair Token (Vals syms) (unplaced_token u) t _ _ (sym same) p.means }
placed (part X ∷ syms) (by_rule i p m a b) ts e =
    let h = halved (spelled a) (spelled b) ts e in
    let one = placed p.syms a h.left (sym h.is_left) in
    let two = placed syms b h.right (sym h.is_right) in
    record {
      deriv = by_rule i p m one.deriv two.deriv;
      spells = ap (λ v. v ++ spelled two.deriv) one.spells ∙ ap (λ v. h.left ++ v) two.spells ∙ sym h.whole;
      means = same_pair (Val X) (Vals syms) _ _ _ _ (rule_blind X i p m (value one.deriv) ∙ ap p.meaning one.means) two.means;
    }
placed (many X ∷ syms) (enough b) ts e =
    let two = placed syms b ts e in
    record { deriv = enough two.deriv; spells = two.spells; means = same_pair (List (Val X)) (Vals syms) [] [] _ _ refl two.means }
placed (many X ∷ syms) (again i p m a b) ts e =
    let h = halved (spelled a) (spelled b) ts e in
    let one = placed p.syms a h.left (sym h.is_left) in
    let two = placed (many X ∷ syms) b h.right (sym h.is_right) in
    let at : bare X (p.meaning (value one.deriv)) ≡ p.meaning (value a) = rule_blind X i p m (value one.deriv) ∙ ap p.meaning one.means in
    record {
      deriv = again i p m one.deriv two.deriv;
      spells = ap (λ v. v ++ spelled two.deriv) one.spells ∙ ap (λ v. h.left ++ v) two.spells ∙ sym h.whole;
      means = ap (λ (v : Val X). (v ∷ map (bare X) (value two.deriv).0, all_bare syms (value two.deriv).1)) at ∙ ap (λ (v : Vals (many X ∷ syms)). (p.meaning (value a) ∷ v.0, v.1)) two.means;
    }
placed (perhaps X ∷ syms) (absent b) ts e =
    let two = placed syms b ts e in
    record { deriv = absent two.deriv; spells = two.spells; means = same_pair (Option (Val X)) (Vals syms) None None _ _ refl two.means }
placed (perhaps X ∷ syms) (present i p m a b) ts e =
    let h = halved (spelled a) (spelled b) ts e in
    let one = placed p.syms a h.left (sym h.is_left) in
    let two = placed syms b h.right (sym h.is_right) in
    let at : bare X (p.meaning (value one.deriv)) ≡ p.meaning (value a) = rule_blind X i p m (value one.deriv) ∙ ap p.meaning one.means in
    record {
      deriv = present i p m one.deriv two.deriv;
      spells = ap (λ v. v ++ spelled two.deriv) one.spells ∙ ap (λ v. h.left ++ v) two.spells ∙ sym h.whole;
      means = same_pair (Option (Val X)) (Vals syms) _ _ _ _ (ap (λ (v : Val X). Some v) at) two.means;
    }
