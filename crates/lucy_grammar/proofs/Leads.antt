-- Symbols that begin with a part, or without the part that they may leave out: how they are read by what they begin with.
use Rattle.std.proofs.Common.{ℕ, ◌≡◌, List, [], ◌∷◌, ◌++◌, ap, sym, ◌∙◌, append_assoc}
use Rattle.lucy_token.specs.declared.token.Token.{Token}
use Rattle.lucy_grammar.specs.Kinds.{ahead}
use Rattle.lucy_grammar.specs.Symbols.{Part, Sym, part, Val, Vals}
use Rattle.lucy_grammar.specs.Deriving.{Deriv, spelled, value}
use Rattle.lucy_grammar.specs.Reading.{Follows, Takes, BreaksAt}
use Rattle.lucy_grammar.proofs.Ahead.{ahead_append}

-- a derivation of these symbols is one of the part Y, and one of the symbols behind it
pub record Split (Y : Part) (all behind : List Sym) (both : Val Y → Vals behind → Vals all) (d : Deriv all) : Type 0 where
  pub head : Deriv (part Y ∷ [])
  pub rest : Deriv behind
  pub spells : spelled d ≡ spelled head ++ spelled rest
  pub means : value d ≡ both (value head).0 (value rest)

-- with this kind ahead, these symbols are the part Y and the symbols behind it
pub record Leads (X Y : Part) (all behind : List Sym) (both : Val Y → Vals behind → Vals all) (kind : ℕ) : Type 0 where
  pub make : Deriv (part Y ∷ []) → Deriv behind → Deriv all
  pub spells : (a : Deriv (part Y ∷ [])) (b : Deriv behind) → spelled (make a b) ≡ spelled a ++ spelled b
  pub means : (a : Deriv (part Y ∷ [])) (b : Deriv behind) → value (make a b) ≡ both (value a).0 (value b)
  pub split : (d : Deriv all) (tail : List Token) → Follows X tail → ahead (spelled d ++ tail) ≡ kind → Split Y all behind both d
  pub fits : (d : Deriv behind) (tail : List Token) → Follows X tail → Follows Y (spelled d ++ tail)
  pub completes : Deriv behind

-- tokens that other symbols spell are split too
record Cut (X Y : Part) (all behind : List Sym) (both : Val Y → Vals behind → Vals all) (d : Deriv all) (front z tail : List Token) : Type 0 where
  split : Split Y all behind both d
  fits : Follows Y (spelled split.rest ++ tail)
  same : front ++ z ≡ spelled split.head ++ (spelled split.rest ++ tail)

cut : (X Y : Part) (all behind : List Sym) (both : Val Y → Vals behind → Vals all) (ts front rest z : List Token) → Leads X Y all behind both (ahead ts) → ts ≡ front ++ rest → ahead z ≡ ahead rest →
    (d : Deriv all) (tail : List Token) → Follows X tail → front ++ z ≡ spelled d ++ tail → Cut X Y all behind both d front z tail
cut X Y all behind both ts front rest z l whole near d tail f same =
    let at : ahead (spelled d ++ tail) ≡ ahead ts = ap ahead (sym same) ∙ ahead_append front z rest near ∙ ap ahead (sym whole) in
    let s = l.split d tail f at in
    record { split = s; fits = l.fits s.rest tail f; same = same ∙ ap (λ u. u ++ tail) s.spells ∙ append_assoc (spelled s.head) (spelled s.rest) tail }

-- the part is read, and what is behind it
pub lead_taken : (X Y : Part) (all behind : List Sym) (both : Val Y → Vals behind → Vals all) (ts : List Token) (v : Val Y) (mid : List Token) (vs : Vals behind) (rest : List Token) → Leads X Y all behind both (ahead ts) →
    Takes Y (part Y ∷ []) ts (v, tt) mid → Takes X behind mid vs rest → Takes X all ts (both v vs) rest
lead_taken X Y all behind both ts v mid vs rest l a b = record {
  front = a.front ++ b.front;
  whole = a.whole ∙ ap (λ u. a.front ++ u) b.whole ∙ sym (append_assoc a.front b.front rest);
  deriv = l.make a.deriv b.deriv;
  spells = l.spells a.deriv b.deriv ∙ ap (λ u. u ++ spelled b.deriv) a.spells ∙ ap (λ u. a.front ++ u) b.spells;
  means = l.means a.deriv b.deriv ∙ ap (λ (u : Val Y × Unit {0}). both u.0 (value b.deriv)) a.means ∙ ap (both v) b.means;
  only = λ z s d tail f same.
      let near : ahead (b.front ++ z) ≡ ahead mid = ahead_append b.front z rest s ∙ ap ahead (sym b.whole) in
      let c = cut X Y all behind both ts a.front mid (b.front ++ z) l a.whole near d tail f (sym (append_assoc a.front b.front z) ∙ same) in
      let one = a.only (b.front ++ z) near c.split.head (spelled c.split.rest ++ tail) c.fits c.same in
      let two = b.only z s c.split.rest tail f (sym one.1) in
      (c.split.means ∙ ap (λ (u : Val Y × Unit {0}). both u.0 (value c.split.rest)) one.0 ∙ ap (both v) two.0, two.1);
}

-- the part is read, and what is behind it refused
pub lead_then_refused : (X Y : Part) (all behind : List Sym) (both : Val Y → Vals behind → Vals all) (ts : List Token) (v : Val Y) (mid rest : List Token) → Leads X Y all behind both (ahead ts) →
    Takes Y (part Y ∷ []) ts (v, tt) mid → BreaksAt X behind mid rest → BreaksAt X all ts rest
lead_then_refused X Y all behind both ts v mid rest l a b = record {
  front = a.front ++ b.front;
  whole = a.whole ∙ ap (λ u. a.front ++ u) b.whole ∙ sym (append_assoc a.front b.front rest);
  completes = (
    l.make a.deriv b.completes.0,
    b.completes.1,
    l.spells a.deriv b.completes.0 ∙ ap (λ u. u ++ spelled b.completes.0) a.spells ∙ ap (λ u. a.front ++ u) b.completes.2 ∙ sym (append_assoc a.front b.front b.completes.1),
  );
  never = λ z s d tail f same.
      let near : ahead (b.front ++ z) ≡ ahead mid = ahead_append b.front z rest s ∙ ap ahead (sym b.whole) in
      let c = cut X Y all behind both ts a.front mid (b.front ++ z) l a.whole near d tail f (sym (append_assoc a.front b.front z) ∙ same) in
      let one = a.only (b.front ++ z) near c.split.head (spelled c.split.rest ++ tail) c.fits c.same in
      b.never z s c.split.rest tail f (sym one.1);
}

-- the part is refused
pub lead_refused : (X Y : Part) (all behind : List Sym) (both : Val Y → Vals behind → Vals all) (ts rest : List Token) → Leads X Y all behind both (ahead ts) →
    BreaksAt Y (part Y ∷ []) ts rest → BreaksAt X all ts rest
lead_refused X Y all behind both ts rest l a = record {
  front = a.front;
  whole = a.whole;
  completes = (
    l.make a.completes.0 l.completes,
    a.completes.1 ++ spelled l.completes,
    l.spells a.completes.0 l.completes ∙ ap (λ u. u ++ spelled l.completes) a.completes.2 ∙ append_assoc a.front a.completes.1 (spelled l.completes),
  );
  never = λ z s d tail f same.
      let c = cut X Y all behind both ts a.front rest z l a.whole s d tail f same in
      a.never z s c.split.head (spelled c.split.rest ++ tail) c.fits c.same;
}

-- a derivation of these symbols is one of the symbols behind the part that is left out
pub record Past (all behind : List Sym) (without : Vals behind → Vals all) (d : Deriv all) : Type 0 where
  pub rest : Deriv behind
  pub spells : spelled d ≡ spelled rest
  pub means : value d ≡ without (value rest)

-- with this kind ahead, these symbols are the symbols behind
pub record Skips (X : Part) (all behind : List Sym) (without : Vals behind → Vals all) (kind : ℕ) : Type 0 where
  pub make : Deriv behind → Deriv all
  pub spells : (b : Deriv behind) → spelled (make b) ≡ spelled b
  pub means : (b : Deriv behind) → value (make b) ≡ without (value b)
  pub past : (d : Deriv all) (tail : List Token) → Follows X tail → ahead (spelled d ++ tail) ≡ kind → Past all behind without d

pub skip_taken : (X : Part) (all behind : List Sym) (without : Vals behind → Vals all) (ts : List Token) (vs : Vals behind) (rest : List Token) → Skips X all behind without (ahead ts) →
    Takes X behind ts vs rest → Takes X all ts (without vs) rest
skip_taken X all behind without ts vs rest k r = record {
  front = r.front;
  whole = r.whole;
  deriv = k.make r.deriv;
  spells = k.spells r.deriv ∙ r.spells;
  means = k.means r.deriv ∙ ap without r.means;
  only = λ z s d tail f same.
      let at : ahead (spelled d ++ tail) ≡ ahead ts = ap ahead (sym same) ∙ ahead_append r.front z rest s ∙ ap ahead (sym r.whole) in
      let p = k.past d tail f at in
      let one = r.only z s p.rest tail f (same ∙ ap (λ u. u ++ tail) p.spells) in
      (p.means ∙ ap without one.0, one.1);
}

pub skip_refused : (X : Part) (all behind : List Sym) (without : Vals behind → Vals all) (ts rest : List Token) → Skips X all behind without (ahead ts) →
    BreaksAt X behind ts rest → BreaksAt X all ts rest
skip_refused X all behind without ts rest k r = record {
  front = r.front;
  whole = r.whole;
  completes = (k.make r.completes.0, r.completes.1, k.spells r.completes.0 ∙ r.completes.2);
  never = λ z s d tail f same.
      let at : ahead (spelled d ++ tail) ≡ ahead ts = ap ahead (sym same) ∙ ahead_append r.front z rest s ∙ ap ahead (sym r.whole) in
      let p = k.past d tail f at in
      r.never z s p.rest tail f (same ∙ ap (λ u. u ++ tail) p.spells);
}
