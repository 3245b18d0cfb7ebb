-- An error that is passed on, an answer that is handed on, and what is put on the pile.
use Rattle.std.proofs.Common.{ℕ, ◌≡◌, ◌≤◌, ◌<◌, List, [], ◌∷◌, length, sym, subst, arith}
use Rattle.std.specs.Prelude.{Result, IfErr, MatchResult}
use Rattle.std.specs.Result.{IsErrAnd}
use Rattle.std.specs.Borrow.{Bor}
use Rattle.std.proofs.lemmas.Result.{err_from_is_err_and, IfErr-weaker, MatchResult-weaker}
use Rattle.lucy_tree.specs.Tree.{Tree}
use Rattle.lucy_tree.specs.declared.expr.Expr.{Expr}
use Rattle.lucy_token.specs.declared.token.Token.{Token}
use Rattle.lucy_syntax.specs.Refusals.{RefusedBy}
use Rattle.lucy_syntax.specs.Piles.{Makes, Puts, PutsAll, Descends, DescendsAll}
use Rattle.lucy_syntax.proofs.OnPiles.{lies_as}
use Rattle.lucy_syntax.specs.declared.refusal.Refusal.{Refusal}
use Rattle.lucy_syntax.specs.declared.refusal.Refusal.TheVariants.{At, OutOfMemory}

pass : (P Q : List Token → Type 0) (e : Refusal) → RefusedBy P e → ((rest : List Token) → P rest → Q rest) → RefusedBy Q e
pass P Q (At rest) h f = f rest.now h
pass P Q OutOfMemory h f = tt

no_memory : (Q : List Token → Type 0) (e : Refusal) → e ≡ OutOfMemory → RefusedBy Q e
no_memory Q e is = subst (RefusedBy Q) (sym is) tt

-- the error of a call goes out of the function by `?`
pub leaves : {T : Type 0} {Q : List Token → Type 0} (P : List Token → Type 0) (e : Refusal) (r : Result T Refusal) →
    IsErrAnd r (λ y. y ≡ e) → RefusedBy P e → ((rest : List Token) → P rest → Q rest) → IfErr r (RefusedBy Q)
leaves {Q = Q} P e r i h f =
    let p = err_from_is_err_and r i in
    rw (p.1, p.2) (pass P Q e h f)

-- the answer of a last call is that of the function
pub hands_on : {T : Type 0} {P Q : List Token → Type 0} (r : Result T Refusal) → IfErr r (RefusedBy P) → ((rest : List Token) → P rest → Q rest) → IfErr r (RefusedBy Q)
hands_on {P = P} {Q = Q} r h f = IfErr-weaker r (RefusedBy P) (RefusedBy Q) (λ e u. pass P Q e u f) h

-- the same of functions of the descent: the error of a call
pub goes_out : {T : Type 0} {Q : List Token → Type 0} (P : T → Type 0) (U : List Token → Type 0) (e : Refusal) (r : Result T Refusal) →
    IsErrAnd r (λ y. y ≡ e) → RefusedBy U e → ((rest : List Token) → U rest → Q rest) → MatchResult r P (RefusedBy Q)
goes_out {Q = Q} P U e r i h f =
    let p = err_from_is_err_and r i in
    rw (p.1, p.2) (pass U Q e h f)

-- or want of memory
pub runs_out : {T : Type 0} (P : T → Type 0) (Q : List Token → Type 0) (e : Refusal) (r : Result T Refusal) → IsErrAnd r (λ y. y ≡ e) → e ≡ OutOfMemory → MatchResult r P (RefusedBy Q)
runs_out P Q e r i is =
    let p = err_from_is_err_and r i in
    rw (p.1, p.2) (no_memory Q e is)

-- a last call
pub hands : {P P' : Tree → List Token → Type 0} {Q Q' : List Token → Type 0} {n n' : ℕ} (old new : List Expr) (r : Result (Bor (List Token)) Refusal) → Descends P Q n old new r → n ≤ n' →
    ((e : Tree) (rest : List Token) → P e rest → P' e rest) → ((rest : List Token) → Q rest → Q' rest) → Descends P' Q' n' old new r
hands {P = P} {P' = P'} {Q = Q} {Q' = Q'} {n = n} {n' = n'} old new r h m f g = MatchResult-weaker r h (λ rest p. on rest.now p) (λ e u. pass Q Q' e u g)
  where
    on : (rest : List Token) → Puts P n old new rest → Puts P' n' old new rest
    on rest p = record { tree = p.tree; reads = f p.tree rest p.reads; put = p.put; shorter = omega (arith, m, p.shorter) }

-- one that puts a list of one tree on the pile
pub hands_only : {P : List Tree → List Token → Type 0} {P' : Tree → List Token → Type 0} {Q Q' : List Token → Type 0} (n : ℕ) (old new : List Expr) (r : Result (Bor (List Token)) Refusal) → DescendsAll P Q n old new r →
    ((es : List Tree) (rest : List Token) → P es rest → (e : Tree) × (es ≡ e ∷ []) × P' e rest) → ((rest : List Token) → Q rest → Q' rest) → Descends P' Q' n old new r
hands_only {P = P} {P' = P'} {Q = Q} {Q' = Q'} n old new r h f g = MatchResult-weaker r h (λ rest p. on rest.now p) (λ e u. pass Q Q' e u g)
  where
    on : (rest : List Token) → PutsAll P n old new rest → Puts P' n old new rest
    on rest p =
        let one = f p.list rest p.reads in
        record { tree = one.0; reads = one.2; put = lies_as p.put one.1; shorter = p.shorter }

-- one that puts more there
pub hands_all : {Q Q' : List Token → Type 0} {P P' : List Tree → List Token → Type 0} {n n' : ℕ} {old mid new : List Expr} (r : Result (Bor (List Token)) Refusal) → DescendsAll P Q n mid new r →
    ((rest : List Token) → PutsAll P n mid new rest → PutsAll P' n' old new rest) → ((rest : List Token) → Q rest → Q' rest) → DescendsAll P' Q' n' old new r
hands_all {Q = Q} {Q' = Q'} r h f g = MatchResult-weaker r h (λ rest p. f rest.now p) (λ e u. pass Q Q' e u g)

-- and one that makes an expression of those on top
pub made_so : {G : Type 0} {ts : List Token} (P : List Token → Type 0) (Q : List Token → Type 0) (r : Result (Bor (List Token)) Refusal) → Makes G ts r → (G → P ts) → MatchResult r (λ rest. P rest.now) (RefusedBy Q)
made_so P Q r h f = MatchResult-weaker r h (λ rest g. subst P (sym g.1) (f g.0)) (λ e is. no_memory Q e is)

pub made : {P : Tree → List Token → Type 0} {n : ℕ} {old new : List Expr} {G : Type 0} {ts : List Token} (Q : List Token → Type 0) (r : Result (Bor (List Token)) Refusal) → Makes G ts r →
    (G → Puts P n old new ts) → Descends P Q n old new r
made {P = P} {n = n} {old = old} {new = new} Q r h f = made_so (λ m. Puts P n old new m) Q r h f
