-- What is put on a pile, and what is made of what lies there.
use Rattle.std.proofs.Common.{ℕ, ◌≡◌, ◌≤◌, ◌<◌, ◌+◌, List, [], ◌∷◌, ◌++◌, length, map, take, drop, sym, subst, ap, ◌∙◌, arith, append_assoc, length-append}
use Rattle.std.specs.Prelude.{Result}
use Rattle.std.specs.Borrow.{Bor}
use Rattle.std.specs.List.{take-map, drop-map}
use Rattle.std.proofs.lemmas.List.{length-map, append-nil, map-append, same_from_push}
use Rattle.std.proofs.lemmas.Result.{MatchResult-weaker}
use Rattle.std.proofs.Math.Seq.{take-append_seam, drop-append_seam}
use Rattle.lucy_tree.specs.declared.expr.Lit as lits
use Rattle.lucy_tree.specs.declared.expr.Expr.{Expr}
use Rattle.lucy_tree.specs.declared.expr.Expr.TheOpen as layer
use Rattle.lucy_tree.specs.declared.expr.Expr.TheVariants as expr
use Rattle.lucy_tree.specs.declared.expr.Exprs.{Exprs}
use Rattle.lucy_tree.specs.Tree.{Tree, Trees, trees_of}
use Rattle.lucy_tree.specs.View.{tree_of, all_trees, expr_list}
use Rattle.lucy_token.specs.declared.token.Token.{Token}
use Rattle.lucy_syntax.specs.Piles.{trees, Lies, Makes, Puts, PutsAll}
use Rattle.lucy_syntax.specs.declared.refusal.Refusal.{Refusal}

-- more is put on what was put before
pub over : {a b c : List Expr} {es fs : List Tree} → Lies a es b → Lies b fs c → Lies a (es ++ fs) c
over {a = a} {es = es} {fs = fs} p q = record { is = q.is ∙ ap (λ u. u ++ fs) p.is ∙ append_assoc (trees a) es fs }

-- the same trees
pub lies_as : {a b : List Expr} {es fs : List Tree} → Lies a es b → es ≡ fs → Lies a fs b
lies_as {a = a} p e = record { is = p.is ∙ ap (λ u. trees a ++ u) e }

-- the pile is so much higher
pub higher : {a b : List Expr} {es : List Tree} → Lies a es b → length b ≡ length a + length es
higher {a = a} {b = b} {es = es} p = sym (length-map b tree_of) ∙ ap length p.is ∙ length-append (trees a) es ∙ ap (λ n. n + length es) (length-map a tree_of)

-- and so it isn't empty
pub some_there : {a b : List Expr} {e : Tree} → Lies a (e ∷ []) b → 0 < length b
some_there p = omega (arith, higher p)

pub two_there : {a b : List Expr} {d e : Tree} → Lies a (d ∷ e ∷ []) b → 2 ≤ length b
two_there p = omega (arith, higher p)

-- what was put there is so too
pub puts_as : {P P' : Tree → List Token → Type 0} {n n' : ℕ} {old new : List Expr} {rest : List Token} → (p : Puts P n old new rest) → n ≤ n' → (P p.tree rest → P' p.tree rest) → Puts P' n' old new rest
puts_as p m f = record { tree = p.tree; reads = f p.reads; put = p.put; shorter = omega (arith, m, p.shorter) }

pub puts_at : {P : Tree → List Token → Type 0} {n : ℕ} {old new : List Expr} {ts us : List Token} → us ≡ ts → Puts P n old new ts → Puts P n old new us
puts_at {P = P} {n = n} {old = old} {new = new} e p = subst (λ (m : List Token). Puts P n old new m) (sym e) p

pub puts_all_as : {P P' : List Tree → List Token → Type 0} {n n' : ℕ} {old new : List Expr} {rest : List Token} → (p : PutsAll P n old new rest) → n ≤ n' → (P p.list rest → P' p.list rest) → PutsAll P' n' old new rest
puts_all_as p m f = record { list = p.list; reads = f p.reads; put = p.put; shorter = omega (arith, m, p.shorter) }

-- nothing is put there
pub puts_none : {P : List Tree → List Token → Type 0} {n : ℕ} {pile : List Expr} {rest : List Token} → P [] rest → length rest < n → PutsAll P n pile pile rest
puts_none {pile = pile} h m = record { list = []; reads = h; put = record { is = sym (append-nil (trees pile)) }; shorter = m }

-- one expression is pushed
pub pushed : {a b : List Expr} (e : Expr) → b ≡ a ++ e ∷ [] → Lies a (tree_of e ∷ []) b
pushed {a = a} e p = record { is = ap trees p ∙ map-append tree_of a (e ∷ []) }

-- the only expression of a pile
pub only_put : {a b : List Expr} {e x : Tree} → Lies a (e ∷ []) b → a ≡ [] → trees b ≡ x ∷ [] → x ≡ e
only_put {e = e} {x = x} p none is =
    let one : x ∷ [] ≡ e ∷ [] = sym is ∙ p.is ∙ ap (λ u. trees u ++ e ∷ []) none in
    cc

-- what is made is so too
pub makes_as : {G H : Type 0} (ts : List Token) (r : Result (Bor (List Token)) Refusal) → Makes G ts r → (G → H) → Makes H ts r
makes_as ts r h f = MatchResult-weaker r h (λ rest g. (f g.0, g.1)) (λ e is. is)

-- one that is taken off, and another put in its place
pub wrapped : {under a b c : List Expr} {e x made : Tree} (F : Tree → Tree) → Lies under (e ∷ []) a → Lies b (x ∷ []) a → Lies b (made ∷ []) c → made ≡ F x → Lies under (F e ∷ []) c
wrapped {under = under} {b = b} {e = e} {x = x} {made = made} F p q put is =
    let last = same_from_push (trees b) (trees under) x e (sym q.is ∙ p.is) in
    record { is = put.is ∙ ap (λ u. u ++ made ∷ []) last.0 ∙ ap (λ t. trees under ++ t ∷ []) (is ∙ ap F last.1) }

-- the same of two
pub joined : {under u0 u1 u2 u3 : List Expr} {a b x y made : Tree} (F : Tree → Tree → Tree) → Lies under (a ∷ b ∷ []) u0 → Lies u1 (y ∷ []) u0 → Lies u2 (x ∷ []) u1 → Lies u2 (made ∷ []) u3 → made ≡ F x y → Lies under (F a b ∷ []) u3
joined {under = under} {u1 = u1} {u2 = u2} {a = a} {b = b} {x = x} {y = y} {made = made} F p q r put is =
    let first = same_from_push (trees u1) (trees under ++ a ∷ []) y b (sym q.is ∙ p.is ∙ sym (append_assoc (trees under) (a ∷ []) (b ∷ []))) in
    let second = same_from_push (trees u2) (trees under) x a (sym r.is ∙ first.0) in
    record { is = put.is ∙ ap (λ u. u ++ made ∷ []) second.0 ∙ ap (λ t. trees under ++ t ∷ []) (is ∙ ap (λ z. F z y) second.1 ∙ ap (λ z. F a z) first.1) }

-- the same of all from a place on
pub grouped : {pile mid new under : List Expr} {made : Tree} {es : List Tree} (F : Trees → Tree) (args : Exprs) (from : ℕ) → from + length es ≡ length pile → Lies under es pile →
    (expr_list args ≡ drop from pile) × (mid ≡ take from pile) → Lies mid (made ∷ []) new → made ≡ F (all_trees (expr_list args)) → Lies under (F (trees_of es) ∷ []) new
grouped {pile = pile} {mid = mid} {under = under} {made = made} {es = es} F args from n p cut put is =
    let f : from ≡ length (trees under) = omega (arith, n, higher p, length-map under tree_of) in
    let above : trees (drop from pile) ≡ es = sym (drop-map tree_of from pile) ∙ ap (drop from) p.is ∙ ap (λ k. drop k (trees under ++ es)) f ∙ drop-append_seam (trees under) es in
    let below : trees (take from pile) ≡ trees under = sym (take-map tree_of from pile) ∙ ap (take from) p.is ∙ ap (λ k. take k (trees under ++ es)) f ∙ take-append_seam (trees under) es in
    record { is = put.is ∙ ap (λ u. u ++ made ∷ []) (ap trees cut.1 ∙ below) ∙ ap (λ t. trees under ++ t ∷ []) (is ∙ ap (λ u. F (trees_of u)) (ap trees cut.0 ∙ above)) }
