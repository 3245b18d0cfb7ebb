-- What is printed one after another.
use Rattle.std.proofs.Common.{ℕ, ◌≡◌, List, [], ◌∷◌, ◌++◌, Option, Some, None, ap, sym, ◌∙◌, append_assoc, append-nil}
use Rattle.lucy_token.specs.declared.mark.Mark.{Mark}
use Rattle.lucy_grammar.specs.PrintTokens.{blank, spaced_text, the}
use Rattle.lucy_grammar.specs.Sheets.{Adds}

-- a text, and then another
pub behind : {a b : List ℕ} {r s t : Option (List ℕ)} → Adds a r s → Adds b s t → Adds (a ++ b) r t
behind {a = a} {b = b} p q = record {
  is = λ n e.
      let x = q.is n e in
      let y = p.is x.0 x.1 in
      (y.0, y.1, x.2 ∙ ap (λ u. u ++ b) y.2 ∙ append_assoc y.0 a b);
}

-- the same text
pub adds_as : {a b : List ℕ} {r s : Option (List ℕ)} → Adds a r s → a ≡ b → Adds b r s
adds_as p e = record { is = λ n h. let x = p.is n h in (x.0, x.1, x.2 ∙ ap (λ u. x.0 ++ u) e) }

-- nothing more
pub ended : {a : List ℕ} {r s : Option (List ℕ)} → Adds a r s → Adds (a ++ []) r s
ended {a = a} p = adds_as p (sym (append-nil a))

pub nothing : (r : Option (List ℕ)) → Adds [] r r
nothing r = record { is = λ n e. (n, e, sym (append-nil n)) }

-- a sign with a blank behind it, and one with a blank before it too
pub led : (m : Mark) {b : List ℕ} {r s t : Option (List ℕ)} → Adds (spaced_text (the m) ++ blank) r s → Adds b s t → Adds (spaced_text (the m) ++ (32 ∷ b)) r t
led m {b = b} p q = adds_as (behind p q) (append_assoc (spaced_text (the m)) blank b)

pub between : (m : Mark) {b : List ℕ} {r s t : Option (List ℕ)} → Adds (32 ∷ (spaced_text (the m) ++ blank)) r s → Adds b s t → Adds (32 ∷ (spaced_text (the m) ++ (32 ∷ b))) r t
between m {b = b} p q = adds_as (behind p q) (ap (λ u. 32 ∷ u) (append_assoc (spaced_text (the m)) blank b))

-- a sign, and a text with a blank on either side
pub fronted : (m : Mark) (a : List ℕ) {b : List ℕ} {r s t : Option (List ℕ)} → Adds (spaced_text (the m) ++ (32 ∷ (a ++ blank))) r s → Adds b s t → Adds (spaced_text (the m) ++ (32 ∷ (a ++ (32 ∷ b)))) r t
fronted m a {b = b} p q =
    adds_as (behind p q) (append_assoc (spaced_text (the m)) (32 ∷ (a ++ blank)) b ∙ ap (λ u. spaced_text (the m) ++ (32 ∷ u)) (append_assoc a blank b))

-- memory ran out, or the bytes are behind the others
pub runs_out : {a : List ℕ} {r s : Option (List ℕ)} → s ≡ None → Adds a r s
runs_out e = record { is = λ n h. absurd cc }

pub put : {a o n : List ℕ} {r s : Option (List ℕ)} → r ≡ Some o → s ≡ Some n → n ≡ o ++ a → Adds a r s
put {o = o} {n = n} p q e = record { is = λ m h. (o, p, let same : m ≡ n = cc in same ∙ e) }
