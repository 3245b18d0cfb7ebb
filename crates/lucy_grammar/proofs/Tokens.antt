-- A token that is wanted, and nothing more that is wanted.
use Rattle.std.proofs.Common.{ℕ, ◌≡◌, true, List, [], ◌∷◌, ◌++◌, refl, ap, sym, subst}
use Rattle.lucy_token.specs.declared.token.Token.{Token}
use Rattle.lucy_grammar.specs.Kinds.{ahead, Sort, Fits, sort_numbers}
use Rattle.lucy_grammar.specs.Symbols.{Part, Sym, token, Vals}
use Rattle.lucy_grammar.specs.Deriving.{Deriv, done, take, spelled, value}
use Rattle.lucy_grammar.specs.Reading.{Takes, BreaksAt}
use Rattle.lucy_grammar.specs.Sets.{within}
use Rattle.lucy_grammar.proofs.Numbers.{fits_number}
use Rattle.lucy_grammar.proofs.Table.{good}
use Rattle.lucy_grammar.proofs.Completions.{some}

-- nothing is wanted
only_nothing : (d : Deriv []) (z tail : List Token) → z ≡ spelled d ++ tail → (value d ≡ tt) × (tail ≡ z)
only_nothing done z tail e = (refl, sym e)

pub nothing_taken : (X : Part) (ts : List Token) → Takes X [] ts tt ts
nothing_taken X ts = record { front = []; whole = refl; deriv = done; spells = refl; means = refl; only = λ z s d tail f e. only_nothing d z tail e }

pub same_pair : (A B : Type 0) (a c : A) (b d : B) → a ≡ c → b ≡ d → ◌≡◌ {A = A × B} (a, b) (c, d)
same_pair A B a c b d e f = cc

-- a token is wanted, and there
only_token : (X : Part) (k : Sort) (syms : List Sym) (t : Token) (front : List Token) (vs : Vals syms) (z : List Token) (d : Deriv (token k ∷ syms)) (tail : List Token) →
    ((b : Deriv syms) → front ++ z ≡ spelled b ++ tail → (value b ≡ vs) × (tail ≡ z)) → t ∷ (front ++ z) ≡ spelled d ++ tail → (value d ≡ (t, vs)) × (tail ≡ z)
only_token X k syms t front vs z (take u h b) tail rest e =
    let same : u ≡ t = cc in
    let more : front ++ z ≡ spelled b ++ tail = cc in
    let r = rest b more in
    (same_pair Token (Vals syms) u t (value b) vs same r.0, r.1)

pub token_taken : (X : Part) (k : Sort) (syms : List Sym) (t : Token) (ts : List Token) (vs : Vals syms) (rest : List Token) → Fits k t.what →
    Takes X syms ts vs rest → Takes X (token k ∷ syms) (t ∷ ts) (t, vs) rest
token_taken X k syms t ts vs rest e r = record {
  front = t ∷ r.front;
  whole = ap (λ u. t ∷ u) r.whole;
  deriv = take t e r.deriv;
  spells = ap (λ u. t ∷ u) r.spells;
  means = ap (λ (v : Vals syms). (t, v)) r.means;
  only = λ z s d tail f same. only_token X k syms t r.front vs z d tail (λ b more. r.only z s b tail f more) same;
}

never_token : (k : Sort) (syms : List Sym) (t : Token) (front z : List Token) (d : Deriv (token k ∷ syms)) (tail : List Token) →
    ((b : Deriv syms) → front ++ z ≡ spelled b ++ tail → ⊥) → t ∷ (front ++ z) ≡ spelled d ++ tail → ⊥
never_token k syms t front z (take u h b) tail rest e = let more : front ++ z ≡ spelled b ++ tail = cc in rest b more

pub token_then_refused : (X : Part) (k : Sort) (syms : List Sym) (t : Token) (ts rest : List Token) → Fits k t.what →
    BreaksAt X syms ts rest → BreaksAt X (token k ∷ syms) (t ∷ ts) rest
token_then_refused X k syms t ts rest e r = record {
  front = t ∷ r.front;
  whole = ap (λ u. t ∷ u) r.whole;
  completes = (take t e r.completes.0, r.completes.1, ap (λ u. t ∷ u) r.completes.2);
  never = λ z s d tail f same. never_token k syms t r.front z d tail (λ b more. r.never z s b tail f more) same;
}

-- another token is there
never_other : (k : Sort) (syms : List Sym) (z : List Token) (d : Deriv (token k ∷ syms)) (tail : List Token) → z ≡ spelled d ++ tail → within (ahead z) (sort_numbers k) ≡ true
never_other k syms z (take u h b) tail e = subst (λ (x : List Token). within (ahead x) (sort_numbers k) ≡ true) (sym e) (fits_number k u.what h)

pub token_refused : (X : Part) (k : Sort) (syms : List Sym) (ts : List Token) → good X (token k ∷ syms) ≡ true → (within (ahead ts) (sort_numbers k) ≡ true → ⊥) → BreaksAt X (token k ∷ syms) ts ts
token_refused X k syms ts g other = record {
  front = [];
  whole = refl;
  completes = (some X (token k ∷ syms) g, spelled (some X (token k ∷ syms) g), refl);
  never = λ z s d tail f same. other (subst (λ (n : ℕ). within n (sort_numbers k) ≡ true) s (never_other k syms z d tail same));
}
