-- The first token of what a derivation spells, and then of what may follow, is of a kind of the table.
use Rattle.std.proofs.Common.{ℕ, ◌≡◌, true, List, [], ◌∷◌, ◌++◌, Some, refl, sym, subst, append_assoc}
use Rattle.std.specs.List.{slice_get}
use Rattle.lucy_token.specs.declared.token.Token.{Token}
use Rattle.lucy_grammar.specs.Sets.{within}
use Rattle.lucy_grammar.specs.Kinds.{ahead}
use Rattle.lucy_grammar.specs.Symbols.{Part, Sym, token, part, many, perhaps, Rule}
use Rattle.lucy_grammar.specs.Grammar.{rules}
use Rattle.lucy_grammar.specs.Deriving.{Deriv, done, take, by_rule, enough, again, absent, present, spelled}
use Rattle.lucy_grammar.specs.Reading.{follows, begins, Follows}
use Rattle.lucy_grammar.proofs.Sets.{within_subset, within_left, within_right}
use Rattle.lucy_grammar.proofs.Numbers.{fits_number}
use Rattle.lucy_grammar.proofs.Table.{look, good, rule_good, part_fits, past_part, many_fits, past_many, perhaps_fits, past_perhaps}

pub ahead_append : (front y z : List Token) → ahead y ≡ ahead z → ahead (front ++ y) ≡ ahead (front ++ z)
ahead_append [] y z e = e
ahead_append (t ∷ front) y z e = refl

-- tokens with a part in front begin with one of its kinds
part_first : (Y : Part) (i : ℕ) (p : Rule Y) → slice_get (rules Y) i ≡ Some p → (a b tail : List Token) → within (ahead (a ++ (b ++ tail))) (look Y p.syms) ≡ true → within (ahead ((a ++ b) ++ tail)) (begins Y) ≡ true
part_first Y i p e a b tail w =
    subst (λ (u : List Token). within (ahead u) (begins Y) ≡ true) (sym (append_assoc a b tail)) (within_subset (look Y p.syms) (begins Y) _ (rule_good Y i p e).1 w)

pub first_fits : (X : Part) (syms : List Sym) → good X syms ≡ true → (d : Deriv syms) (tail : List Token) → Follows X tail → within (ahead (spelled d ++ tail)) (look X syms) ≡ true
first_fits X [] g done tail f = f
first_fits X (token s ∷ syms) g (take t e d) tail f = fits_number s t.what e
first_fits X (part Y ∷ syms) g (by_rule i p e a b) tail f =
    let behind = within_subset (look X syms) (follows Y) _ (part_fits X Y syms g) (first_fits X syms (past_part X Y syms g) b tail f) in
    part_first Y i p e (spelled a) (spelled b) tail (first_fits Y p.syms (rule_good Y i p e).0 a (spelled b ++ tail) behind)
first_fits X (many Y ∷ syms) g (enough d) tail f = within_right (begins Y) (look X syms) _ (first_fits X syms (past_many X Y syms g) d tail f)
first_fits X (many Y ∷ syms) g (again i p e a b) tail f =
    let behind = within_subset (begins Y ++ look X syms) (follows Y) _ (many_fits X Y syms g) (first_fits X (many Y ∷ syms) g b tail f) in
    within_left (begins Y) (look X syms) _ (part_first Y i p e (spelled a) (spelled b) tail (first_fits Y p.syms (rule_good Y i p e).0 a (spelled b ++ tail) behind))
first_fits X (perhaps Y ∷ syms) g (absent d) tail f = within_right (begins Y) (look X syms) _ (first_fits X syms (past_perhaps X Y syms g) d tail f)
first_fits X (perhaps Y ∷ syms) g (present i p e a b) tail f =
    let behind = within_subset (look X syms) (follows Y) _ (perhaps_fits X Y syms g) (first_fits X syms (past_perhaps X Y syms g) b tail f) in
    within_left (begins Y) (look X syms) _ (part_first Y i p e (spelled a) (spelled b) tail (first_fits Y p.syms (rule_good Y i p e).0 a (spelled b ++ tail) behind))

-- a part that is there begins with one of its kinds
pub begins_so : (Y : Part) (i : ℕ) (p : Rule Y) → slice_get (rules Y) i ≡ Some p → (d : Deriv p.syms) (t : List Token) → Follows Y t → within (ahead (spelled d ++ t)) (begins Y) ≡ true
begins_so Y i p e d t f = within_subset (look Y p.syms) (begins Y) _ (rule_good Y i p e).1 (first_fits Y p.syms (rule_good Y i p e).0 d t f)

-- what comes after a part of the symbols may follow it
pub follows_part : (X Y : Part) (syms : List Sym) → good X (part Y ∷ syms) ≡ true → (d : Deriv syms) (tail : List Token) → Follows X tail → Follows Y (spelled d ++ tail)
follows_part X Y syms g d tail f = within_subset (look X syms) (follows Y) _ (part_fits X Y syms g) (first_fits X syms (past_part X Y syms g) d tail f)

pub follows_many : (X Y : Part) (syms : List Sym) → good X (many Y ∷ syms) ≡ true → (d : Deriv (many Y ∷ syms)) (tail : List Token) → Follows X tail → Follows Y (spelled d ++ tail)
follows_many X Y syms g d tail f = within_subset (begins Y ++ look X syms) (follows Y) _ (many_fits X Y syms g) (first_fits X (many Y ∷ syms) g d tail f)

pub follows_perhaps : (X Y : Part) (syms : List Sym) → good X (perhaps Y ∷ syms) ≡ true → (d : Deriv syms) (tail : List Token) → Follows X tail → Follows Y (spelled d ++ tail)
follows_perhaps X Y syms g d tail f = within_subset (look X syms) (follows Y) _ (perhaps_fits X Y syms g) (first_fits X syms (past_perhaps X Y syms g) d tail f)
