-- The table of the grammar is LL(1): after each part comes only what may follow it, and no kind begins two productions.
use Rattle.std.proofs.Common.{ℕ, zero, suc, ◌≡◌, Bool, true, false, List, [], ◌∷◌, ◌++◌, Some, ◌&&◌, refl, subst}
use Rattle.std.specs.List.{slice_get}
use Rattle.lucy_token.specs.declared.token.Kind.{Kind}
use Rattle.lucy_token.specs.declared.token.Kind.TheVariants as kind
use Rattle.lucy_grammar.specs.Sets.{within, subset, apart}
use Rattle.lucy_grammar.specs.Kinds.{Sort, sort_kind, sort_numbers}
use Rattle.lucy_grammar.specs.Symbols.{Part, Sym, token, part, many, perhaps, Rule, Program}
use Rattle.lucy_grammar.specs.Grammar.{rules}
use Rattle.lucy_grammar.specs.Reading.{follows, begins}
use Rattle.lucy_grammar.proofs.Sets.{and_left, and_right, within_apart}

-- tokens can have this kind
abbrev pub is_kind : Kind → Bool
is_kind kind.End = false
is_kind _ = true

-- the kinds with which the symbols, and then what follows X, begin
abbrev pub look : Part → List Sym → List ℕ
look X [] = follows X
look X (token s ∷ syms) = sort_numbers s
look X (part Y ∷ syms) = begins Y
look X (many Y ∷ syms) = begins Y ++ look X syms
look X (perhaps Y ∷ syms) = begins Y ++ look X syms

-- what comes after each part of the symbols may follow it, and doesn't begin it where it may be left out
abbrev pub good : Part → List Sym → Bool
good X [] = true
good X (token s ∷ syms) = is_kind (sort_kind s) && good X syms
good X (part Y ∷ syms) = subset (look X syms) (follows Y) && good X syms
good X (many Y ∷ syms) = (apart (begins Y) (look X syms) && subset (begins Y ++ look X syms) (follows Y)) && good X syms
good X (perhaps Y ∷ syms) = (apart (begins Y) (look X syms) && subset (look X syms) (follows Y)) && good X syms

-- what that says of the first symbol, and of those behind it
pub token_kind : (X : Part) (s : Sort) (syms : List Sym) → good X (token s ∷ syms) ≡ true → is_kind (sort_kind s) ≡ true
token_kind X s syms g = and_left _ (good X syms) g

pub past_token : (X : Part) (s : Sort) (syms : List Sym) → good X (token s ∷ syms) ≡ true → good X syms ≡ true
past_token X s syms g = and_right (is_kind (sort_kind s)) _ g

pub part_fits : (X Y : Part) (syms : List Sym) → good X (part Y ∷ syms) ≡ true → subset (look X syms) (follows Y) ≡ true
part_fits X Y syms g = and_left _ (good X syms) g

pub past_part : (X Y : Part) (syms : List Sym) → good X (part Y ∷ syms) ≡ true → good X syms ≡ true
past_part X Y syms g = and_right (subset (look X syms) (follows Y)) _ g

pub many_apart : (X Y : Part) (syms : List Sym) → good X (many Y ∷ syms) ≡ true → apart (begins Y) (look X syms) ≡ true
many_apart X Y syms g = and_left _ (subset (begins Y ++ look X syms) (follows Y)) (and_left _ (good X syms) g)

pub many_fits : (X Y : Part) (syms : List Sym) → good X (many Y ∷ syms) ≡ true → subset (begins Y ++ look X syms) (follows Y) ≡ true
many_fits X Y syms g = and_right (apart (begins Y) (look X syms)) _ (and_left _ (good X syms) g)

pub past_many : (X Y : Part) (syms : List Sym) → good X (many Y ∷ syms) ≡ true → good X syms ≡ true
past_many X Y syms g = and_right (apart (begins Y) (look X syms) && subset (begins Y ++ look X syms) (follows Y)) _ g

pub perhaps_apart : (X Y : Part) (syms : List Sym) → good X (perhaps Y ∷ syms) ≡ true → apart (begins Y) (look X syms) ≡ true
perhaps_apart X Y syms g = and_left _ (subset (look X syms) (follows Y)) (and_left _ (good X syms) g)

pub perhaps_fits : (X Y : Part) (syms : List Sym) → good X (perhaps Y ∷ syms) ≡ true → subset (look X syms) (follows Y) ≡ true
perhaps_fits X Y syms g = and_right (apart (begins Y) (look X syms)) _ (and_left _ (good X syms) g)

pub past_perhaps : (X Y : Part) (syms : List Sym) → good X (perhaps Y ∷ syms) ≡ true → good X syms ≡ true
past_perhaps X Y syms g = and_right (apart (begins Y) (look X syms) && subset (look X syms) (follows Y)) _ g

abbrev good_rules : (X : Part) → List (Rule X) → Bool
good_rules X [] = true
good_rules X (p ∷ ps) = (good X p.syms && subset (look X p.syms) (begins X)) && good_rules X ps

abbrev apart_all : (X : Part) → List ℕ → List (Rule X) → Bool
apart_all X ks [] = true
apart_all X ks (p ∷ ps) = apart ks (look X p.syms) && apart_all X ks ps

abbrev apart_rules : (X : Part) → List (Rule X) → Bool
apart_rules X [] = true
apart_rules X (p ∷ ps) = apart_all X (look X p.syms) ps && apart_rules X ps

all_good : (X : Part) → good_rules X (rules X) ≡ true
unfolding rules follows begins
all_good Program = refl
all_good _ = refl

all_apart : (X : Part) → apart_rules X (rules X) ≡ true
unfolding rules follows begins
all_apart Program = refl
all_apart _ = refl

good_from : (X : Part) (ps : List (Rule X)) (i : ℕ) (p : Rule X) → good_rules X ps ≡ true → slice_get ps i ≡ Some p →
    (good X p.syms ≡ true) × (subset (look X p.syms) (begins X) ≡ true)
good_from X [] i p g e = absurd cc
good_from X (q ∷ ps) zero p g e =
    let h : (good X q.syms && subset (look X q.syms) (begins X)) ≡ true = and_left _ (good_rules X ps) g in
    let same : q ≡ p = cc in
    subst (λ (r : Rule X). (good X r.syms ≡ true) × (subset (look X r.syms) (begins X) ≡ true)) same (and_left _ _ h, and_right (good X q.syms) _ h)
good_from X (q ∷ ps) (suc i) p g e = good_from X ps i p (and_right (good X q.syms && subset (look X q.syms) (begins X)) _ g) e

pub rule_good : (X : Part) (i : ℕ) (p : Rule X) → slice_get (rules X) i ≡ Some p → (good X p.syms ≡ true) × (subset (look X p.syms) (begins X) ≡ true)
rule_good X i p e = good_from X (rules X) i p (all_good X) e

apart_one : (X : Part) (ks : List ℕ) (ps : List (Rule X)) (i : ℕ) (p : Rule X) → apart_all X ks ps ≡ true → slice_get ps i ≡ Some p → apart ks (look X p.syms) ≡ true
apart_one X ks [] i p g e = absurd cc
apart_one X ks (q ∷ ps) zero p g e =
    let same : q ≡ p = cc in
    subst (λ (r : Rule X). apart ks (look X r.syms) ≡ true) same (and_left _ _ g)
apart_one X ks (q ∷ ps) (suc i) p g e = apart_one X ks ps i p (and_right (apart ks (look X q.syms)) _ g) e

alone_from : (X : Part) (ps : List (Rule X)) (i j : ℕ) (p q : Rule X) (k : ℕ) → apart_rules X ps ≡ true → slice_get ps i ≡ Some p → slice_get ps j ≡ Some q →
    within k (look X p.syms) ≡ true → within k (look X q.syms) ≡ true → p ≡ q
alone_from X [] i j p q k g e f a b = absurd cc
alone_from X (r ∷ ps) zero zero p q k g e f a b = cc
alone_from X (r ∷ ps) zero (suc j) p q k g e f a b =
    let h = apart_one X (look X r.syms) ps j q (and_left _ _ g) f in
    let same : p ≡ r = cc in
    absurd (within_apart (look X r.syms) (look X q.syms) k h (subst (λ (s : Rule X). within k (look X s.syms) ≡ true) same a) b)
alone_from X (r ∷ ps) (suc i) zero p q k g e f a b =
    let h = apart_one X (look X r.syms) ps i p (and_left _ _ g) e in
    let same : q ≡ r = cc in
    absurd (within_apart (look X r.syms) (look X p.syms) k h (subst (λ (s : Rule X). within k (look X s.syms) ≡ true) same b) a)
alone_from X (r ∷ ps) (suc i) (suc j) p q k g e f a b = alone_from X ps i j p q k (and_right (apart_all X (look X r.syms) ps) _ g) e f a b

-- one production fits a first kind
pub rule_alone : (X : Part) (i j : ℕ) (p q : Rule X) (k : ℕ) → slice_get (rules X) i ≡ Some p → slice_get (rules X) j ≡ Some q →
    within k (look X p.syms) ≡ true → within k (look X q.syms) ≡ true → p ≡ q
rule_alone X i j p q k e f a b = alone_from X (rules X) i j p q k (all_apart X) e f a b
