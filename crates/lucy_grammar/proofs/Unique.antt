-- Tokens have at most one derivation's meaning.
use Rattle.std.proofs.Common.{ℕ, ◌≡◌, true, List, [], ◌∷◌, ◌++◌, Option, Some, None, refl, ap, sym, ◌∙◌, subst, append_assoc}
use Rattle.std.specs.List.{slice_get}
use Rattle.lucy_token.specs.declared.token.Token.{Token}
use Rattle.lucy_grammar.specs.Sets.{within}
use Rattle.lucy_grammar.specs.Kinds.{ahead}
use Rattle.lucy_grammar.specs.Symbols.{Part, Sym, token, part, many, perhaps, Rule, Val, Vals}
use Rattle.lucy_grammar.specs.Grammar.{rules}
use Rattle.lucy_grammar.specs.Deriving.{Deriv, done, take, by_rule, enough, again, absent, present, spelled, value}
use Rattle.lucy_grammar.specs.Reading.{begins, Follows}
use Rattle.lucy_grammar.proofs.Sets.{within_apart}
use Rattle.lucy_grammar.proofs.Table.{look, good, rule_good, rule_alone, past_token, past_part, many_apart, past_many, perhaps_apart, past_perhaps}
use Rattle.lucy_grammar.proofs.Tokens.{same_pair}
use Rattle.lucy_grammar.proofs.Ahead.{first_fits, begins_so, follows_part, follows_many, follows_perhaps}

-- two derivations by productions of one part, of tokens that begin alike, are by one production
same_rule : (Y : Part) (i j : ℕ) (p q : Rule Y) → slice_get (rules Y) i ≡ Some p → slice_get (rules Y) j ≡ Some q → (d : Deriv p.syms) (e : Deriv q.syms) (t u : List Token) → Follows Y t → Follows Y u →
    spelled d ++ t ≡ spelled e ++ u → (x : Deriv p.syms) × (spelled e ≡ spelled x) × (q.meaning (value e) ≡ p.meaning (value x))
same_rule Y i j p q m n d e t u f h apart =
    let at_p = first_fits Y p.syms (rule_good Y i p m).0 d t f in
    let at_q = first_fits Y q.syms (rule_good Y j q n).0 e u h in
    let at_q' : within (ahead (spelled d ++ t)) (look Y q.syms) ≡ true = subst (λ (x : List Token). within (ahead x) (look Y q.syms) ≡ true) (sym apart) at_q in
    let rule : q ≡ p = rule_alone Y j i q p _ n m at_q' at_p in
    let P : Rule Y → Type 0 = λ r. (x : Deriv r.syms) × (spelled e ≡ spelled x) × (q.meaning (value e) ≡ r.meaning (value x)) in
    subst P rule (e, refl, refl)

-- tokens that two derivations spell give one value, and one rest
pub unique : (X : Part) (syms : List Sym) → good X syms ≡ true → (d e : Deriv syms) (t u : List Token) → Follows X t → Follows X u →
    spelled d ++ t ≡ spelled e ++ u → (value d ≡ value e) × (t ≡ u)
unique X [] g done done t u f h same = (refl, same)
unique X (token s ∷ syms) g (take a m d) (take b n e) t u f h same =
    let one : a ≡ b = cc in
    let more : spelled d ++ t ≡ spelled e ++ u = cc in
    let r = unique X syms (past_token X s syms g) d e t u f h more in
    (same_pair Token (Vals syms) a b (value d) (value e) one r.0, r.1)
unique X (part Y ∷ syms) g (by_rule i p m d d2) (by_rule j q n e e2) t u f h same =
    let apart' : spelled d ++ (spelled d2 ++ t) ≡ spelled e ++ (spelled e2 ++ u) =
    sym (append_assoc (spelled d) (spelled d2) t) ∙ same ∙ append_assoc (spelled e) (spelled e2) u in
    let f1 = follows_part X Y syms g d2 t f in
    let h1 = follows_part X Y syms g e2 u h in
    let x = same_rule Y i j p q m n d e (spelled d2 ++ t) (spelled e2 ++ u) f1 h1 apart' in
    let one = unique Y p.syms (rule_good Y i p m).0 d x.0 (spelled d2 ++ t) (spelled e2 ++ u) f1 h1 (apart' ∙ ap (λ y. y ++ (spelled e2 ++ u)) x.1) in
    let two = unique X syms (past_part X Y syms g) d2 e2 t u f h one.1 in
    (ap (λ (v : Vals p.syms). (p.meaning v, value d2)) one.0 ∙ ap (λ (v : Val Y). (v, value d2)) (sym x.2) ∙ ap (λ (v : Vals syms). (q.meaning (value e), v)) two.0, two.1)
unique X (many Y ∷ syms) g (enough d) (enough e) t u f h same =
    let two = unique X syms (past_many X Y syms g) d e t u f h same in
    (ap (λ (v : Vals syms). let w : List (Val Y) × Vals syms = ([], v) in w) two.0, two.1)
unique X (many Y ∷ syms) g (enough d) (again j q n e e2) t u f h same =
    let w = begins_so Y j q n e (spelled e2 ++ u) (follows_many X Y syms g e2 u h) in
    let at : ahead (spelled e ++ (spelled e2 ++ u)) ≡ ahead (spelled d ++ t) = ap ahead (sym (append_assoc (spelled e) (spelled e2) u) ∙ sym same) in
    absurd (within_apart (begins Y) (look X syms) _ (many_apart X Y syms g) (subst (λ (k : ℕ). within k (begins Y) ≡ true) at w)
    (first_fits X syms (past_many X Y syms g) d t f))
unique X (many Y ∷ syms) g (again j q n d d2) (enough e) t u f h same =
    let w = begins_so Y j q n d (spelled d2 ++ t) (follows_many X Y syms g d2 t f) in
    let at : ahead (spelled d ++ (spelled d2 ++ t)) ≡ ahead (spelled e ++ u) = ap ahead (sym (append_assoc (spelled d) (spelled d2) t) ∙ same) in
    absurd (within_apart (begins Y) (look X syms) _ (many_apart X Y syms g) (subst (λ (k : ℕ). within k (begins Y) ≡ true) at w)
    (first_fits X syms (past_many X Y syms g) e u h))
unique X (many Y ∷ syms) g (again i p m d d2) (again j q n e e2) t u f h same =
    let apart' : spelled d ++ (spelled d2 ++ t) ≡ spelled e ++ (spelled e2 ++ u) =
    sym (append_assoc (spelled d) (spelled d2) t) ∙ same ∙ append_assoc (spelled e) (spelled e2) u in
    let f1 = follows_many X Y syms g d2 t f in
    let h1 = follows_many X Y syms g e2 u h in
    let x = same_rule Y i j p q m n d e (spelled d2 ++ t) (spelled e2 ++ u) f1 h1 apart' in
    let one = unique Y p.syms (rule_good Y i p m).0 d x.0 (spelled d2 ++ t) (spelled e2 ++ u) f1 h1 (apart' ∙ ap (λ y. y ++ (spelled e2 ++ u)) x.1) in
    let two = unique X (many Y ∷ syms) g d2 e2 t u f h one.1 in
    (ap (λ (v : Vals p.syms). (p.meaning v ∷ (value d2).0, (value d2).1)) one.0 ∙ ap (λ (v : Val Y). (v ∷ (value d2).0, (value d2).1)) (sym x.2) ∙ ap (λ (v : List (Val Y) × Vals syms). (q.meaning (value e) ∷ v.0, v.1)) two.0, two.1)
unique X (perhaps Y ∷ syms) g (absent d) (absent e) t u f h same =
    let two = unique X syms (past_perhaps X Y syms g) d e t u f h same in
    (ap (λ (v : Vals syms). let w : Option (Val Y) × Vals syms = (None, v) in w) two.0, two.1)
unique X (perhaps Y ∷ syms) g (absent d) (present j q n e e2) t u f h same =
    let w = begins_so Y j q n e (spelled e2 ++ u) (follows_perhaps X Y syms g e2 u h) in
    let at : ahead (spelled e ++ (spelled e2 ++ u)) ≡ ahead (spelled d ++ t) = ap ahead (sym (append_assoc (spelled e) (spelled e2) u) ∙ sym same) in
    absurd (within_apart (begins Y) (look X syms) _ (perhaps_apart X Y syms g) (subst (λ (k : ℕ). within k (begins Y) ≡ true) at w) (first_fits X syms (past_perhaps X Y syms g) d t f))
unique X (perhaps Y ∷ syms) g (present j q n d d2) (absent e) t u f h same =
    let w = begins_so Y j q n d (spelled d2 ++ t) (follows_perhaps X Y syms g d2 t f) in
    let at : ahead (spelled d ++ (spelled d2 ++ t)) ≡ ahead (spelled e ++ u) = ap ahead (sym (append_assoc (spelled d) (spelled d2) t) ∙ same) in
    absurd (within_apart (begins Y) (look X syms) _ (perhaps_apart X Y syms g) (subst (λ (k : ℕ). within k (begins Y) ≡ true) at w) (first_fits X syms (past_perhaps X Y syms g) e u h))
unique X (perhaps Y ∷ syms) g (present i p m d d2) (present j q n e e2) t u f h same =
    let apart' : spelled d ++ (spelled d2 ++ t) ≡ spelled e ++ (spelled e2 ++ u) =
    sym (append_assoc (spelled d) (spelled d2) t) ∙ same ∙ append_assoc (spelled e) (spelled e2) u in
    let f1 = follows_perhaps X Y syms g d2 t f in
    let h1 = follows_perhaps X Y syms g e2 u h in
    let x = same_rule Y i j p q m n d e (spelled d2 ++ t) (spelled e2 ++ u) f1 h1 apart' in
    let one = unique Y p.syms (rule_good Y i p m).0 d x.0 (spelled d2 ++ t) (spelled e2 ++ u) f1 h1 (apart' ∙ ap (λ y. y ++ (spelled e2 ++ u)) x.1) in
    let two = unique X syms (past_perhaps X Y syms g) d2 e2 t u f h one.1 in
    let S : Val Y → Vals syms → Option (Val Y) × Vals syms = λ v w. (Some v, w) in
    (ap (λ (v : Vals p.syms). S (p.meaning v) (value d2)) one.0 ∙ ap (λ (v : Val Y). S v (value d2)) (sym x.2) ∙ ap (S (q.meaning (value e))) two.0, two.1)
