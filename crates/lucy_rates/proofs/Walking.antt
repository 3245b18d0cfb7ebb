-- Walks along needs.
use Rattle.std.proofs.Common.{◌≡◌, ℕ, ◌*◌, ◌<◌, List, [], ◌∷◌, ◌++◌, length, inl, inr, sym, ap, ◌∙◌, subst, refl, arith}
use Rattle.std.specs.Prelude.{reverse}
use Rattle.std.specs.List.{All}
use Rattle.std.proofs.lemmas.List.{reverse-append}
use Rattle.std.proofs.lemmas.List.Elements.{All-head, All-tail}
use Rattle.std.proofs.Math.Nat.{eq_of_mul-eq-mul_right}
use Rattle.lucy_need.specs.declared.need.Need.{Need}
use Rattle.lucy_rates.specs.declared.fraction.Fraction.{Fraction}
use Rattle.lucy_rates.specs.Walks.{first_of, second_of, need_at, over, under, LeadsBetween, IsNeedWalk}
use Rattle.lucy_rates.specs.Forests.{rate_at}
use Rattle.lucy_rates.specs.Trees.{AreEven}

pub leads_back : (need : Need) (c d a b : ℕ) → LeadsBetween need c d a b → LeadsBetween need d c b a
leads_back need c d a b (inl h) = inr (h.1, h.0, h.3, h.2)
leads_back need c d a b (inr h) = inl (h.1, h.0, h.3, h.2)

-- walks one after the other
pub walk_append : (needs : List Need) (w v : List ℕ) (c e d a b x y : ℕ) → IsNeedWalk needs w c e a b → IsNeedWalk needs v e d x y → IsNeedWalk needs (w ++ v) c d (a * x) (b * y)
walk_append needs [] v c e d a b x y h k =
    let p : a * x ≡ x = ap (λ z. z * x) h.1 ∙ omega arith in
    let q : b * y ≡ y = ap (λ z. z * y) h.2 ∙ omega arith in
    subst (λ (z : ℕ). IsNeedWalk needs v z d (a * x) (b * y)) (sym h.0)
    (subst (λ (z : ℕ). IsNeedWalk needs v e d z (b * y)) (sym p) (subst (λ (z : ℕ). IsNeedWalk needs v e d x z) (sym q) k))
walk_append needs (m ∷ w) v c e d a b x y h k =
    let r = h.1 in (
      h.0,
      (
        r.0,
        r.1,
        r.2,
        r.3 * x,
        r.4 * y,
        r.5,
        walk_append needs w v r.0 e d r.3 r.4 x y r.6 k,
        (let p : a * x ≡ r.1 * r.3 * x = ap (λ z. z * x) r.7 in omega arith),
        (let p : b * y ≡ r.2 * r.4 * y = ap (λ z. z * y) r.8 in omega arith),
      ),
    )

-- one need is a walk
pub one_walk : (needs : List Need) (k c d a b : ℕ) → k < length needs → LeadsBetween (need_at needs k) c d a b → IsNeedWalk needs (k ∷ []) c d a b
one_walk needs k c d a b l h = (l, (d, a, b, 1, 1, h, (refl, refl, refl), omega arith, omega arith))

pub walk_back : (needs : List Need) (w : List ℕ) (c d a b : ℕ) → IsNeedWalk needs w c d a b → IsNeedWalk needs (reverse w) d c b a
walk_back needs [] c d a b h = (sym h.0, h.2, h.1)
walk_back needs (m ∷ w) c d a b h =
    let r = h.1 in
    let back = walk_back needs w r.0 d r.3 r.4 r.6 in
    let last = one_walk needs m r.0 c r.2 r.1 h.0 (leads_back (need_at needs m) c r.0 r.1 r.2 r.5) in
    let whole = walk_append needs (reverse w) (m ∷ []) d r.0 c r.4 r.3 r.2 r.1 back last in
    subst (λ (z : List ℕ). IsNeedWalk needs z d c b a) (sym (reverse-append (m ∷ []) w))
    (subst (λ (z : ℕ). IsNeedWalk needs (reverse w ++ m ∷ []) d c b z) (let e : r.3 * r.1 ≡ a = omega arith in e)
    (subst (λ (z : ℕ). IsNeedWalk needs (reverse w ++ m ∷ []) d c z (r.3 * r.1)) (let e : r.4 * r.2 ≡ b = omega arith in e) whole))

-- the need is even by the rates, which are there
pub record IsLevelBy (needs : List Need) (rate : ℕ → Fraction) (k : ℕ) : Type 0 where
  pub even : AreEven (need_at needs k) (rate (first_of (need_at needs k)).clock).num (rate (first_of (need_at needs k)).clock).den (rate (second_of (need_at needs k)).clock).num (rate (second_of (need_at needs k)).clock).den
  pub first : 0 < (rate (first_of (need_at needs k)).clock).den
  pub second : 0 < (rate (second_of (need_at needs k)).clock).den

-- the same for the rates in a list
abbrev pub IsLevel : List Need → List Fraction → ℕ → Type 0
IsLevel needs rates k = IsLevelBy needs (λ c. rate_at rates c) k

-- what a level need multiplies a rate by
level_step : (needs : List Need) (rate : ℕ → Fraction) (k c e a b : ℕ) → IsLevelBy needs rate k → LeadsBetween (need_at needs k) c e a b →
    ((rate e).num * (rate c).den * b ≡ (rate c).num * (rate e).den * a) × (0 < (rate e).den)
level_step needs rate k c e a b h (inl l) =
    let P : ℕ → ℕ → Type 0 = λ x y. ((rate y).num * (rate x).den * b ≡ (rate x).num * (rate y).den * a) × (0 < (rate y).den) in
    let s = first_of (need_at needs k) in
    let t = second_of (need_at needs k) in
    let even : (rate s.clock).num * (rate t.clock).den * over (need_at needs k) ≡ (rate t.clock).num * (rate s.clock).den * under (need_at needs k) = h.even in
    let here : P s.clock t.clock = (ap (λ z. (rate t.clock).num * (rate s.clock).den * z) l.3 ∙ sym even ∙ ap (λ z. (rate s.clock).num * (rate t.clock).den * z) (sym l.2), h.second) in
    subst (λ (z : ℕ). P z e) l.0 (subst (λ (z : ℕ). P s.clock z) l.1 here)
level_step needs rate k c e a b h (inr l) =
    let P : ℕ → ℕ → Type 0 = λ x y. ((rate y).num * (rate x).den * b ≡ (rate x).num * (rate y).den * a) × (0 < (rate y).den) in
    let s = first_of (need_at needs k) in
    let t = second_of (need_at needs k) in
    let even : (rate s.clock).num * (rate t.clock).den * over (need_at needs k) ≡ (rate t.clock).num * (rate s.clock).den * under (need_at needs k) = h.even in
    let here : P t.clock s.clock = (ap (λ z. (rate s.clock).num * (rate t.clock).den * z) l.3 ∙ even ∙ ap (λ z. (rate t.clock).num * (rate s.clock).den * z) (sym l.2), h.first) in
    subst (λ (z : ℕ). P z e) l.0 (subst (λ (z : ℕ). P t.clock z) l.1 here)

-- n / d of three clocks, along two walks
along_both : (nc dc ne de nd dd a b x y : ℕ) → 0 < de → ne * dc * b ≡ nc * de * a → nd * de * y ≡ ne * dd * x → nd * dc * (b * y) ≡ nc * dd * (a * x)
along_both nc dc ne de nd dd a b x y some h k =
    let p : ne * dc * b * (dd * x) ≡ nc * de * a * (dd * x) = ap (λ z. z * (dd * x)) h in
    let q : nd * de * y * (dc * b) ≡ ne * dd * x * (dc * b) = ap (λ z. z * (dc * b)) k in
    let r : nd * dc * (b * y) * de ≡ nc * dd * (a * x) * de = omega arith in
    eq_of_mul-eq-mul_right de some (nd * dc * (b * y)) (nc * dd * (a * x)) r

-- along level needs a walk multiplies the rate of its first clock to that of its last
pub level_walk_by : (needs : List Need) (rate : ℕ → Fraction) (walk : List ℕ) (c d num den : ℕ) → All (IsLevelBy needs rate) walk → IsNeedWalk needs walk c d num den →
    (rate d).num * (rate c).den * den ≡ (rate c).num * (rate d).den * num
level_walk_by needs rate [] c d num den all h =
    let P : ℕ → Type 0 = λ z. (rate z).num * (rate c).den * den ≡ (rate c).num * (rate z).den * num in
    subst P h.0 (ap (λ z. (rate c).num * (rate c).den * z) (h.2 ∙ sym h.1))
level_walk_by needs rate (m ∷ w) c d num den all h =
    let r = h.1 in
    let one = level_step needs rate m c r.0 r.1 r.2 (All-head (IsLevelBy needs rate) m w all) r.5 in
    let rest = level_walk_by needs rate w r.0 d r.3 r.4 (All-tail (IsLevelBy needs rate) m w all) r.6 in
    let both = along_both (rate c).num (rate c).den (rate r.0).num (rate r.0).den (rate d).num (rate d).den r.1 r.2 r.3 r.4 one.1 one.0 rest in
    ap (λ z. (rate d).num * (rate c).den * z) r.8 ∙ both ∙ ap (λ z. (rate c).num * (rate d).den * z) (sym r.7)

pub level_walk : (needs : List Need) (rates : List Fraction) (walk : List ℕ) (c d num den : ℕ) → All (IsLevel needs rates) walk → IsNeedWalk needs walk c d num den →
    (rate_at rates d).num * (rate_at rates c).den * den ≡ (rate_at rates c).num * (rate_at rates d).den * num
level_walk needs rates walk c d num den all h = level_walk_by needs (λ x. rate_at rates x) walk c d num den all h
