-- A part, a repeat and a part that may be left out, by what is ahead.
use Rattle.std.proofs.Common.{ℕ, ◌≡◌, true, List, [], ◌∷◌, ◌++◌, Some, None, refl, ap, sym, subst, append_assoc}
use Rattle.std.proofs.lemmas.List.{append-nil}
use Rattle.lucy_token.specs.declared.token.Token.{Token}
use Rattle.lucy_grammar.specs.Sets.{within}
use Rattle.lucy_grammar.specs.Kinds.{ahead}
use Rattle.lucy_grammar.specs.Symbols.{Part, Sym, part, many, perhaps, Val, Vals}
use Rattle.lucy_grammar.specs.Deriving.{Deriv, done, by_rule, enough, again, absent, present, spelled, value}
use Rattle.lucy_grammar.specs.Reading.{begins, Follows}
use Rattle.lucy_grammar.proofs.Sets.{within_apart}
use Rattle.lucy_grammar.proofs.Table.{look, good, past_part, many_apart, past_many, perhaps_apart, past_perhaps}
use Rattle.lucy_grammar.proofs.Completions.{join, some}
use Rattle.lucy_grammar.proofs.Ahead.{first_fits, begins_so, follows_part, follows_many, follows_perhaps}
use Rattle.lucy_grammar.proofs.Leads.{Split, Leads, Past, Skips}

-- what stands for a part and what follows; for one more of a repeat; for a part that is there; and where none is there
abbrev pub with_part : (Y : Part) (syms : List Sym) → Val Y → Vals syms → Vals (part Y ∷ syms)
with_part Y syms v vs = (v, vs)

abbrev pub with_more : (Y : Part) (syms : List Sym) → Val Y → Vals (many Y ∷ syms) → Vals (many Y ∷ syms)
with_more Y syms v vs = (v ∷ vs.0, vs.1)

abbrev pub with_it : (Y : Part) (syms : List Sym) → Val Y → Vals syms → Vals (perhaps Y ∷ syms)
with_it Y syms v vs = (Some v, vs)

abbrev pub with_none : (Y : Part) (syms : List Sym) → Vals syms → Vals (many Y ∷ syms)
with_none Y syms vs = ([], vs)

abbrev pub without_it : (Y : Part) (syms : List Sym) → Vals syms → Vals (perhaps Y ∷ syms)
without_it Y syms vs = (None, vs)

-- a part
pub spelled-join : (Y : Part) (syms : List Sym) (a : Deriv (part Y ∷ [])) (b : Deriv syms) → spelled (join a b) ≡ spelled a ++ spelled b
spelled-join Y syms (by_rule i p e a done) b = ap (λ u. u ++ spelled b) (sym (append-nil (spelled a)))

pub value-join : (Y : Part) (syms : List Sym) (a : Deriv (part Y ∷ [])) (b : Deriv syms) → value (join a b) ≡ ((value a).0, value b)
value-join Y syms (by_rule i p e a rest) b = refl

part_split : (Y : Part) (syms : List Sym) (d : Deriv (part Y ∷ syms)) → Split Y (part Y ∷ syms) syms (with_part Y syms) d
part_split Y syms (by_rule i p e a b) = record { head = by_rule i p e a done; rest = b; spells = ap (λ u. u ++ spelled b) (sym (append-nil (spelled a))); means = refl }

pub part_leads : (X Y : Part) (syms : List Sym) (kind : ℕ) → good X (part Y ∷ syms) ≡ true → Leads X Y (part Y ∷ syms) syms (with_part Y syms) kind
part_leads X Y syms kind g = record {
  make = λ a b. join a b;
  spells = λ a b. spelled-join Y syms a b;
  means = λ a b. value-join Y syms a b;
  split = λ d tail f e. part_split Y syms d;
  fits = λ d tail f. follows_part X Y syms g d tail f;
  completes = some X syms (past_part X Y syms g);
}

-- a repeat of one more
pub cons : (Y : Part) (syms : List Sym) → Deriv (part Y ∷ []) → Deriv (many Y ∷ syms) → Deriv (many Y ∷ syms)
cons Y syms (by_rule i p e a rest) b = again i p e a b

pub spelled-cons : (Y : Part) (syms : List Sym) (a : Deriv (part Y ∷ [])) (b : Deriv (many Y ∷ syms)) → spelled (cons Y syms a b) ≡ spelled a ++ spelled b
unfolding cons
spelled-cons Y syms (by_rule i p e a done) b = ap (λ u. u ++ spelled b) (sym (append-nil (spelled a)))

pub value-cons : (Y : Part) (syms : List Sym) (a : Deriv (part Y ∷ [])) (b : Deriv (many Y ∷ syms)) → value (cons Y syms a b) ≡ ((value a).0 ∷ (value b).0, (value b).1)
unfolding cons
value-cons Y syms (by_rule i p e a rest) b = refl

more_split : (X Y : Part) (syms : List Sym) → good X (many Y ∷ syms) ≡ true → (d : Deriv (many Y ∷ syms)) (tail : List Token) → Follows X tail →
    within (ahead (spelled d ++ tail)) (begins Y) ≡ true → Split Y (many Y ∷ syms) (many Y ∷ syms) (with_more Y syms) d
more_split X Y syms g (enough d) tail f w = absurd (within_apart (begins Y) (look X syms) _ (many_apart X Y syms g) w (first_fits X syms (past_many X Y syms g) d tail f))
more_split X Y syms g (again i p e a b) tail f w = record { head = by_rule i p e a done; rest = b; spells = ap (λ u. u ++ spelled b) (sym (append-nil (spelled a))); means = refl }

pub more_leads : (X Y : Part) (syms : List Sym) (kind : ℕ) → good X (many Y ∷ syms) ≡ true → within kind (begins Y) ≡ true → Leads X Y (many Y ∷ syms) (many Y ∷ syms) (with_more Y syms) kind
more_leads X Y syms kind g w = record {
  make = λ a b. cons Y syms a b;
  spells = λ a b. spelled-cons Y syms a b;
  means = λ a b. value-cons Y syms a b;
  split = λ d tail f e. more_split X Y syms g d tail f (subst (λ (n : ℕ). within n (begins Y) ≡ true) (sym e) w);
  fits = λ d tail f. follows_many X Y syms g d tail f;
  completes = some X (many Y ∷ syms) g;
}

-- a repeat of no more
many_past : (X Y : Part) (syms : List Sym) → good X (many Y ∷ syms) ≡ true → (d : Deriv (many Y ∷ syms)) (tail : List Token) → Follows X tail →
    (within (ahead (spelled d ++ tail)) (begins Y) ≡ true → ⊥) → Past (many Y ∷ syms) syms (with_none Y syms) d
many_past X Y syms g (enough d) tail f w = record { rest = d; spells = refl; means = refl }
many_past X Y syms g (again i p e a b) tail f w =
    let front = begins_so Y i p e a (spelled b ++ tail) (follows_many X Y syms g b tail f) in
    absurd (w (subst (λ (u : List Token). within (ahead u) (begins Y) ≡ true) (sym (append_assoc (spelled a) (spelled b) tail)) front))

pub many_skips : (X Y : Part) (syms : List Sym) (kind : ℕ) → good X (many Y ∷ syms) ≡ true → (within kind (begins Y) ≡ true → ⊥) → Skips X (many Y ∷ syms) syms (with_none Y syms) kind
many_skips X Y syms kind g w = record {
  make = λ b. enough b;
  spells = λ b. refl;
  means = λ b. refl;
  past = λ d tail f e. many_past X Y syms g d tail f (λ v. w (subst (λ (n : ℕ). within n (begins Y) ≡ true) e v));
}

-- a part that is there
pub here : (Y : Part) (syms : List Sym) → Deriv (part Y ∷ []) → Deriv syms → Deriv (perhaps Y ∷ syms)
here Y syms (by_rule i p e a rest) b = present i p e a b

pub spelled-here : (Y : Part) (syms : List Sym) (a : Deriv (part Y ∷ [])) (b : Deriv syms) → spelled (here Y syms a b) ≡ spelled a ++ spelled b
unfolding here
spelled-here Y syms (by_rule i p e a done) b = ap (λ u. u ++ spelled b) (sym (append-nil (spelled a)))

pub value-here : (Y : Part) (syms : List Sym) (a : Deriv (part Y ∷ [])) (b : Deriv syms) → value (here Y syms a b) ≡ (Some (value a).0, value b)
unfolding here
value-here Y syms (by_rule i p e a rest) b = refl

perhaps_split : (X Y : Part) (syms : List Sym) → good X (perhaps Y ∷ syms) ≡ true → (d : Deriv (perhaps Y ∷ syms)) (tail : List Token) → Follows X tail →
    within (ahead (spelled d ++ tail)) (begins Y) ≡ true → Split Y (perhaps Y ∷ syms) syms (with_it Y syms) d
perhaps_split X Y syms g (absent d) tail f w = absurd (within_apart (begins Y) (look X syms) _ (perhaps_apart X Y syms g) w (first_fits X syms (past_perhaps X Y syms g) d tail f))
perhaps_split X Y syms g (present i p e a b) tail f w = record { head = by_rule i p e a done; rest = b; spells = ap (λ u. u ++ spelled b) (sym (append-nil (spelled a))); means = refl }

pub perhaps_leads : (X Y : Part) (syms : List Sym) (kind : ℕ) → good X (perhaps Y ∷ syms) ≡ true → within kind (begins Y) ≡ true → Leads X Y (perhaps Y ∷ syms) syms (with_it Y syms) kind
perhaps_leads X Y syms kind g w = record {
  make = λ a b. here Y syms a b;
  spells = λ a b. spelled-here Y syms a b;
  means = λ a b. value-here Y syms a b;
  split = λ d tail f e. perhaps_split X Y syms g d tail f (subst (λ (n : ℕ). within n (begins Y) ≡ true) (sym e) w);
  fits = λ d tail f. follows_perhaps X Y syms g d tail f;
  completes = some X syms (past_perhaps X Y syms g);
}

-- a part that is left out
perhaps_past : (X Y : Part) (syms : List Sym) → good X (perhaps Y ∷ syms) ≡ true → (d : Deriv (perhaps Y ∷ syms)) (tail : List Token) → Follows X tail →
    (within (ahead (spelled d ++ tail)) (begins Y) ≡ true → ⊥) → Past (perhaps Y ∷ syms) syms (without_it Y syms) d
perhaps_past X Y syms g (absent d) tail f w = record { rest = d; spells = refl; means = refl }
perhaps_past X Y syms g (present i p e a b) tail f w =
    let front = begins_so Y i p e a (spelled b ++ tail) (follows_perhaps X Y syms g b tail f) in
    absurd (w (subst (λ (u : List Token). within (ahead u) (begins Y) ≡ true) (sym (append_assoc (spelled a) (spelled b) tail)) front))

pub perhaps_skips : (X Y : Part) (syms : List Sym) (kind : ℕ) → good X (perhaps Y ∷ syms) ≡ true → (within kind (begins Y) ≡ true → ⊥) → Skips X (perhaps Y ∷ syms) syms (without_it Y syms) kind
perhaps_skips X Y syms kind g w = record {
  make = λ b. absent b;
  spells = λ b. refl;
  means = λ b. refl;
  past = λ d tail f e. perhaps_past X Y syms g d tail f (λ v. w (subst (λ (n : ℕ). within n (begins Y) ≡ true) e v));
}
