-- What symbols spell and stand for, by a derivation.
use Rattle.std.proofs.Common.{◌≡◌, List, [], ◌∷◌, ◌++◌, Some, None, refl, ap, ◌∙◌, subst}
use Rattle.lucy_tree.specs.View.{ProgramTree}
use Rattle.lucy_token.specs.declared.token.Token.{Token}
use Rattle.lucy_grammar.specs.Symbols.{Part, Sym, part, many, perhaps, Program, Val, Vals}
use Rattle.lucy_grammar.specs.Deriving.{Deriv, done, take, by_rule, enough, again, absent, present, spelled, value}
use Rattle.lucy_grammar.specs.Derivations as sense
use Rattle.lucy_grammar.specs.Derivations.{Derives}
use Rattle.lucy_grammar.specs.Programs.{IsProgram}

-- a derivation that spells these tokens, and by which the symbols stand for this
abbrev pub Derived : (syms : List Sym) → List Token → Vals syms → Type 0
Derived syms ts vs = (d : Deriv syms) × (spelled d ≡ ts) × (value d ≡ vs)

-- what a derivation spells and means is derived
pub derives : {syms : List Sym} (d : Deriv syms) → Derives syms (spelled d) (value d)
derives done = sense.done
derives (take t e d) = sense.take t e (derives d)
derives (by_rule i p e d rest) = sense.by_rule i p (value d) e (derives d) (derives rest)
derives (enough d) = sense.enough (derives d)
derives (again i p e d rest) = sense.again (sense.by_rule i p (value d) e (derives d) (derives rest))
derives (absent d) = sense.absent (derives d)
derives (present i p e d rest) = sense.present (sense.by_rule i p (value d) e (derives d) (derives rest))

taken_again : {X : Part} {syms : List Sym} {ts : List Token} {v : Val X} {more : List (Val X)} {vs : Vals syms} (d : Deriv (part X ∷ many X ∷ syms)) →
    spelled d ≡ ts → value d ≡ (v, (more, vs)) → Derived (many X ∷ syms) ts (v ∷ more, vs)
taken_again {X = X} {syms = syms} (by_rule i p e d rest) s m = (again i p e d rest, s, ap (λ (u : Vals (part X ∷ many X ∷ syms)). (u.0 ∷ u.1.0, u.1.1)) m)

taken_once : {X : Part} {syms : List Sym} {ts : List Token} {v : Val X} {vs : Vals syms} (d : Deriv (part X ∷ syms)) →
    spelled d ≡ ts → value d ≡ (v, vs) → Derived (perhaps X ∷ syms) ts (Some v, vs)
taken_once {X = X} {syms = syms} (by_rule i p e d rest) s m = (present i p e d rest, s, ap (λ (u : Vals (part X ∷ syms)). (Some u.0, u.1)) m)

-- and what is derived has a derivation
pub derived : {syms : List Sym} {ts : List Token} {vs : Vals syms} → Derives syms ts vs → Derived syms ts vs
derived sense.done = (done, refl, refl)
derived (sense.take t e d) = let r = derived d in (take t e r.0, ap (λ u. t ∷ u) r.1, ap (λ u. (t, u)) r.2)
derived (sense.by_rule {us = us} {vs = vs} i p ws e d rest) =
    let a = derived d in
    let b = derived rest in
    (by_rule i p e a.0 b.0, ap (λ u. u ++ spelled b.0) a.1 ∙ ap (λ u. us ++ u) b.1, ap (λ u. (p.meaning u, value b.0)) a.2 ∙ ap (λ u. (p.meaning ws, u)) b.2)
derived (sense.enough d) = let r = derived d in (enough r.0, r.1, ap (λ u. ([], u)) r.2)
derived (sense.again d) = let r = derived d in taken_again r.0 r.1 r.2
derived (sense.absent d) = let r = derived d in (absent r.0, r.1, ap (λ u. (None, u)) r.2)
derived (sense.present d) = let r = derived d in taken_once r.0 r.1 r.2

-- tokens with a derivation of a program
abbrev pub HasDerivation : List Token → ProgramTree → Type 0
HasDerivation ts p = Derived (part Program ∷ []) ts (p, tt)

-- tokens with a derivation of a program are one
pub of_derivation : {ts : List Token} {p : ProgramTree} → HasDerivation ts p → IsProgram ts p
of_derivation {ts = ts} {p = p} h =
    let P : List Token → Type 0 = λ u. Derives (part Program ∷ []) u (p, tt) in
    let Q : Vals (part Program ∷ []) → Type 0 = λ v. Derives (part Program ∷ []) (spelled h.0) v in
    subst P h.1 (subst Q h.2 (derives h.0))
