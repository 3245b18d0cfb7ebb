-- What tests of the first token's kind tell.
use Rattle.std.proofs.Common.{ℕ, ◌≡◌, Bool, true, false, List, [], ◌∷◌, Option, Some, None, refl, ap, sym, ◌∙◌, map, ◌++◌, length, suc, arith}
use Rattle.std.proofs.lemmas.List.{map-append}
use Rattle.std.specs.Prelude.{MatchOption, ◌==◌}
use Rattle.std.proofs.lemmas.Bool.{both_ways}
use Rattle.std.proofs.lemmas.Bool.Decides.{nat_tests}
use Rattle.lucy_token.specs.declared.token.Kind.{Kind}
use Rattle.lucy_token.specs.declared.token.Kind.TheVariants as kind
use Rattle.lucy_token.specs.declared.mark.Mark.TheVariants as mark
use Rattle.lucy_token.specs.declared.token.Token.{Token}
use Rattle.lucy_token.specs.Tokens.{kind_of, first}
use Rattle.lucy_grammar.specs.Sets.{within, subset}
use Rattle.lucy_grammar.specs.Kinds.{number, class_number, kind_class, bound_class, what_number, ahead, is_bound}
use Rattle.lucy_tree.specs.Shaped.{most_bound}
use Rattle.lucy_token.specs.declared.token.What.{What}
use Rattle.lucy_token.specs.declared.token.What.TheVariants as what
use Rattle.std.specs.Prelude.{pos, negsuc, nat_le, if◌then◌else◌}
use Rattle.lucy_host.specs.declared.op.Op.{Op}
use Rattle.lucy_tree.specs.declared.span.Span.{Span}
use Rattle.lucy_token.specs.declared.mark.Mark.{Mark}
use Rattle.std.specs.List.{slice_get}
use Rattle.lucy_grammar.specs.Kinds.{mark_number}
use Rattle.lucy_grammar.specs.Symbols.{Part, Val}
use Rattle.lucy_grammar.specs.Grammar.{rules, says, sign}
use Rattle.lucy_grammar.specs.Reading.{begins, IsBoundAhead, Begins, IsBegun, Reads}
use Rattle.lucy_grammar.proofs.Numbers.{is_in, same_kind}
use Rattle.lucy_grammar.proofs.Steps.{end, tok, rule, led_by, as_value}
use Rattle.lucy_tree.specs.Tree.{Tree}
use Rattle.lucy_tree.specs.View.{DefTree, NodeTree}
use Rattle.lucy_tree.specs.declared.span.Name as name
use Rattle.lucy_tree.specs.declared.decl.Decl as decl
use Rattle.lucy_syntax.specs.Refusals.{begins_expr}

-- a test that failed
pub fails : {b : Bool} {P : Type 0} → (P → b ≡ true) → b ≡ false → P → ⊥
fails {b = b} back missed p = both_ways b missed (back p)

-- the first token of some that begin with a token
pub is_first : {ts more : List Token} {t : Token} {k : Kind} → Begins ts t k more → first ts ≡ k
is_first b = ap first b.0 ∙ b.1

-- what holds of an option, made into something else
pub match_to : {A N M : Type 0} {P Q : A → Type 0} (o : Option A) → MatchOption o N P → (N → M) → ((a : A) → P a → Q a) → MatchOption o M Q
match_to None h f g = f h
match_to (Some a) h f g = g a h

pub pair_of : {A B : Type 0} {p : A × B} {a : A} {b : B} → p.0 ≡ a → p.1 ≡ b → p ≡ (a, b)
pair_of {A = A} {B = B} {p = p} {a = a} {b = b} e f =
    let one : ◌≡◌ {A = A × B} (p.0, p.1) (a, p.1) = ap (λ (x : A). let q : A × B = (x, p.1) in q) e in
    let two : ◌≡◌ {A = A × B} (a, p.1) (a, b) = ap (λ (y : B). let q : A × B = (a, y) in q) f in
    one ∙ two

-- an operator's sign is read
pub signed : (X : Part) (made : Op × Span → Val X) (i : ℕ) (m : Mark) (o : Op) {ts more : List Token} {t : Token} {v : Op × Span} →
    slice_get (rules X) i ≡ Some (says (sign m ∷ []) (λ (s, _). made (o, s.span))) → subset (mark_number m ∷ []) (begins X) ≡ true →
    Begins ts t (kind.Mark m) more → v.0 ≡ o → v.1 ≡ t.span → IsBegun X ts × Reads X ts (made v) more
signed X made i m o {ts = ts} {t = t} {v = v} e w b one two = (
  is_in ts (begins X) (ap first b.0 ∙ b.1) w,
  as_value (ap made (pair_of one two)) (rule i e (led_by i e (same_kind (kind.Mark m)) b) (tok b (end _))),
)

begins_expr_by : (k : Kind) → begins_expr k ≡ within (number k) (begins Part.Args)
unfolding begins
begins_expr_by kind.End = refl
begins_expr_by (kind.Mark mark.Let) = refl
begins_expr_by _ = refl

either_expr : (b : Bool) → true ≡ within (class_number (if b then bound_class else kind_class kind.Number)) (begins Part.Args)
unfolding begins
either_expr true = refl
either_expr false = refl

begins_expr_so : (ts : List Token) → begins_expr (first ts) ≡ within (ahead ts) (begins Part.Args)
unfolding begins
begins_expr_so [] = refl
begins_expr_so (t ∷ ts) = go t.what
  where
    go : (w : What) → begins_expr (kind_of w) ≡ within (what_number w) (begins Part.Args)
    go (what.Mark m) = begins_expr_by (kind.Mark m)
    go (what.Name bytes) = refl
    go (what.Word w) = refl
    go (what.Number (pos n)) = either_expr (nat_le n most_bound)
    go (what.Number (negsuc n)) = refl

pub not_expr : (ts : List Token) {b : Bool} → b ≡ begins_expr (first ts) → (b ≡ true → IsBegun Part.Args ts) × (IsBegun Part.Args ts → b ≡ true)
not_expr ts e = (λ h. sym (begins_expr_so ts) ∙ sym e ∙ h, λ w. e ∙ begins_expr_so ts ∙ w)

-- one more entry, as it is seen
pub put_mapped : {A B : Type 0} (f : A → B) (list : List A) (x : A) {new : List A} → new ≡ list ++ x ∷ [] → map f new ≡ map f list ++ f x ∷ []
put_mapped f list x p = ap (map f) p ∙ map-append f list (x ∷ [])

-- a node is what its parts are
pub node_of : {n : name.Name} {a b : List decl.Decl} {r s : List name.Name} {d e : List DefTree} → a ≡ b → r ≡ s → d ≡ e →
    ◌≡◌ {A = NodeTree} (record { name = n; params = a; results = r; defs = d }) (record { name = n; params = b; results = s; defs = e })
node_of {n = n} {a = a} {b = b} {r = r} {s = s} {d = d} {e = e} p q u =
    let N : List decl.Decl → List name.Name → List DefTree → NodeTree = λ x y z. record { name = n; params = x; results = y; defs = z } in
    ap (λ x. N x r d) p ∙ ap (λ y. N b y d) q ∙ ap (λ z. N b s z) u

-- and a definition
pub def_of : {a b : List decl.Decl} {t u : Tree} → a ≡ b → t ≡ u → ◌≡◌ {A = DefTree} (record { left = a; right = t }) (record { left = b; right = u })
def_of {b = b} {t = t} p q =
    let D : List decl.Decl → Tree → DefTree = λ x y. record { left = x; right = y } in
    ap (λ x. D x t) p ∙ ap (λ y. D b y) q

-- a slice that a test found empty, or not
pub is_none : {A : Type 0} (list : List A) → true ≡ (length list == 0) → list ≡ []
is_none [] h = refl
is_none (x ∷ xs) h = absurd (both_ways true (h ∙ zero_not (length xs)) refl)
  where
    zero_not : (n : ℕ) → (suc n == 0) ≡ false
    zero_not n = grind (arith, nat_tests)

pub is_some : {A : Type 0} (list : List A) → false ≡ (length list == 0) → list ≡ [] → ⊥
is_some [] h e = both_ways true (sym h) refl
is_some (x ∷ xs) h e = cc
