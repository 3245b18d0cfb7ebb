-- Counts of one kind of element in the front of a list.
use Rattle.std.proofs.Common.{ℕ, ◌+◌, ◌<◌, ◌≤◌, ◌≡◌, Bool, true, cond, eqb, ◌⊎◌, List, length, get_or, take, ap, sym, refl, ◌∙◌, subst, inl, inr, arith}
use Rattle.std.specs.Prelude.{count_by}
use Rattle.std.proofs.lemmas.Bool.{cases_eq, cases_Bool, eq-eqb, ne_eqb, eqb-true}
use Rattle.std.proofs.lemmas.List.{take-take}
use Rattle.std.proofs.lemmas.List.Sums.{sum_by-take-le, count_by_more_yes, count_by_more_no}
use Rattle.lucy_stream.specs.Systems.{RingOp, Takes, Gives, System, op_at, IsWired, is_give, is_take, gives_before, takes_before, given, taken}
use Rattle.lucy_stream.specs.Runs.{step}

pub count_take-le : {X : Type 0} (p : X → Bool) (xs : List X) (n m : ℕ) → n ≤ m → count_by p (take n xs) ≤ count_by p (take m xs)
count_take-le p xs n m h =
    let e : count_by p (take n (take m xs)) ≡ count_by p (take n xs) = ap (count_by p) (take-take n m xs h) in
    let l : count_by p (take n (take m xs)) ≤ count_by p (take m xs) = sum_by-take-le (λ x. cond (p x) 1 0) (take m xs) n in
    omega arith

-- one that is counted stands at n, below m
pub count_take-lt : {X : Type 0} (p : X → Bool) (xs : List X) (n m : ℕ) (d : X) → n < m → n < length xs → p (get_or xs n d) ≡ true →
    count_by p (take n xs) < count_by p (take m xs)
count_take-lt p xs n m d h l y =
    let e : count_by p (take (n + 1) xs) ≡ count_by p (take n xs) + 1 = count_by_more_yes p xs n d l y in
    omega (arith, count_take-le p xs (n + 1) m (omega arith))

pub eqb-same : (a : ℕ) → eqb a a ≡ true
eqb-same a = eq-eqb a a refl

pub step-same : (done : ℕ → ℕ) (a : ℕ) → step done a a ≡ done a + 1
step-same done a = ap (λ t. done a + cond t 1 0) (eqb-same a)

pub step-other : (done : ℕ → ℕ) (a b : ℕ) → (a ≡ b → ⊥) → step done a b ≡ done b
step-other done a b h =
    let e : step done a b ≡ done b + 0 = ap (λ t. done b + cond t 1 0) (ne_eqb a b h) in
    omega arith

pub given-le : (sys : System) (d e : ℕ → ℕ) (r : ℕ) → d (sys.from r) ≤ e (sys.from r) → given sys d r ≤ given sys e r
unfolding given
given-le sys d e r h = count_take-le (is_give r) (sys.ops (sys.from r)) (d (sys.from r)) (e (sys.from r)) h

pub taken-le : (sys : System) (d e : ℕ → ℕ) (r : ℕ) → d (sys.to r) ≤ e (sys.to r) → taken sys d r ≤ taken sys e r
unfolding taken
taken-le sys d e r h = count_take-le (is_take r) (sys.ops (sys.to r)) (d (sys.to r)) (e (sys.to r)) h

-- only the counts of the giver and of the taker matter
pub given-same : (sys : System) (d e : ℕ → ℕ) (r : ℕ) → ((b : ℕ) → d b ≡ e b) → given sys d r ≡ given sys e r
given-same sys d e r h = omega (arith, given-le sys d e r (omega (arith, h (sys.from r))), given-le sys e d r (omega (arith, h (sys.from r))))

pub taken-same : (sys : System) (d e : ℕ → ℕ) (r : ℕ) → ((b : ℕ) → d b ≡ e b) → taken sys d r ≡ taken sys e r
taken-same sys d e r h = omega (arith, taken-le sys d e r (omega (arith, h (sys.to r))), taken-le sys e d r (omega (arith, h (sys.to r))))

pub given-none : (sys : System) (d : ℕ → ℕ) (r : ℕ) → d (sys.from r) ≡ 0 → given sys d r ≡ 0
unfolding given
given-none sys d r h = ap (λ n. count_by (is_give r) (take n (sys.ops (sys.from r)))) h

pub taken-none : (sys : System) (d : ℕ → ℕ) (r : ℕ) → d (sys.to r) ≡ 0 → taken sys d r ≡ 0
unfolding taken
taken-none sys d r h = ap (λ n. count_by (is_take r) (take n (sys.ops (sys.to r)))) h

-- the actor's next operation gives to r, and it is done in e
pub given-lt : (sys : System) (d e : ℕ → ℕ) (a r : ℕ) → IsWired sys → d a < e a → d a < length (sys.ops a) → op_at sys a (d a) ≡ Gives r →
    given sys d r < given sys e r
unfolding given
given-lt sys d e a r wired h l op =
    let f : sys.from r ≡ a = wired.giver a (d a) r l op in
    let y : is_give r (get_or (sys.ops a) (d a) (Takes 0)) ≡ true = ap (is_give r) op ∙ eqb-same r in
    subst (λ (b : ℕ). count_by (is_give r) (take (d b) (sys.ops b)) < count_by (is_give r) (take (e b) (sys.ops b))) (sym f)
    (count_take-lt (is_give r) (sys.ops a) (d a) (e a) (Takes 0) h l y)

pub taken-lt : (sys : System) (d e : ℕ → ℕ) (a r : ℕ) → IsWired sys → d a < e a → d a < length (sys.ops a) → op_at sys a (d a) ≡ Takes r →
    taken sys d r < taken sys e r
unfolding taken
taken-lt sys d e a r wired h l op =
    let f : sys.to r ≡ a = wired.taker a (d a) r l op in
    let y : is_take r (get_or (sys.ops a) (d a) (Takes 0)) ≡ true = ap (is_take r) op ∙ eqb-same r in
    subst (λ (b : ℕ). count_by (is_take r) (take (d b) (sys.ops b)) < count_by (is_take r) (take (e b) (sys.ops b))) (sym f)
    (count_take-lt (is_take r) (sys.ops a) (d a) (e a) (Takes 0) h l y)

pub is_give-true : (r : ℕ) (op : RingOp) → is_give r op ≡ true → op ≡ Gives r
is_give-true r (Takes s) h = cc
is_give-true r (Gives s) h = ap Gives (eqb-true s r h)

pub is_take-true : (r : ℕ) (op : RingOp) → is_take r op ≡ true → op ≡ Takes r
is_take-true r (Takes s) h = ap Takes (eqb-true s r h)
is_take-true r (Gives s) h = cc

-- a step gives to r only where its operation does
pub given-step : (sys : System) (d : ℕ → ℕ) (a r : ℕ) → d a < length (sys.ops a) →
    (given sys (step d a) r ≡ given sys d r) ⊎ ((op_at sys a (d a) ≡ Gives r) × (given sys (step d a) r ≡ given sys d r + 1))
unfolding given
given-step sys d a r l =
    let f : ℕ = sys.from r in
    let xs : List RingOp = sys.ops f in
    elim (cases_eq a f) [
      | inl e ↦
          let s : step d a f ≡ d f + 1 = subst (λ (b : ℕ). step d a b ≡ d b + 1) e (step-same d a) in
          let t : count_by (is_give r) (take (step d a f) xs) ≡ count_by (is_give r) (take (d f + 1) xs) = ap (λ n. count_by (is_give r) (take n xs)) s in
          let k : d f < length xs = subst (λ (b : ℕ). d b < length (sys.ops b)) e l in
          let q : op_at sys a (d a) ≡ get_or xs (d f) (Takes 0) = ap (λ (b : ℕ). op_at sys b (d b)) e in
          elim (cases_Bool (is_give r (get_or xs (d f) (Takes 0)))) [
            | inl y ↦ inr (q ∙ is_give-true r (get_or xs (d f) (Takes 0)) y, t ∙ count_by_more_yes (is_give r) xs (d f) (Takes 0) k y)
            | inr z ↦ inl (t ∙ count_by_more_no (is_give r) xs (d f) (Takes 0) k z)
          ]
      | inr n ↦ inl (ap (λ m. count_by (is_give r) (take m xs)) (step-other d a f n))
    ]

pub taken-step : (sys : System) (d : ℕ → ℕ) (a r : ℕ) → d a < length (sys.ops a) →
    (taken sys (step d a) r ≡ taken sys d r) ⊎ ((op_at sys a (d a) ≡ Takes r) × (taken sys (step d a) r ≡ taken sys d r + 1))
unfolding taken
taken-step sys d a r l =
    let f : ℕ = sys.to r in
    let xs : List RingOp = sys.ops f in
    elim (cases_eq a f) [
      | inl e ↦
          let s : step d a f ≡ d f + 1 = subst (λ (b : ℕ). step d a b ≡ d b + 1) e (step-same d a) in
          let t : count_by (is_take r) (take (step d a f) xs) ≡ count_by (is_take r) (take (d f + 1) xs) = ap (λ n. count_by (is_take r) (take n xs)) s in
          let k : d f < length xs = subst (λ (b : ℕ). d b < length (sys.ops b)) e l in
          let q : op_at sys a (d a) ≡ get_or xs (d f) (Takes 0) = ap (λ (b : ℕ). op_at sys b (d b)) e in
          elim (cases_Bool (is_take r (get_or xs (d f) (Takes 0)))) [
            | inl y ↦ inr (q ∙ is_take-true r (get_or xs (d f) (Takes 0)) y, t ∙ count_by_more_yes (is_take r) xs (d f) (Takes 0) k y)
            | inr z ↦ inl (t ∙ count_by_more_no (is_take r) xs (d f) (Takes 0) k z)
          ]
      | inr n ↦ inl (ap (λ m. count_by (is_take r) (take m xs)) (step-other d a f n))
    ]

-- an actor's own count of its gives to a ring, and of its takes from one
pub given-is : (sys : System) (d : ℕ → ℕ) (a n r : ℕ) → sys.from r ≡ a → d a ≡ n → gives_before sys a n r ≡ given sys d r
unfolding given
given-is sys d a n r f e = ap (λ k. gives_before sys a k r) (sym e) ∙ ap (λ b. gives_before sys b (d b) r) (sym f)

pub taken-is : (sys : System) (d : ℕ → ℕ) (a n r : ℕ) → sys.to r ≡ a → d a ≡ n → takes_before sys a n r ≡ taken sys d r
unfolding taken
taken-is sys d a n r f e = ap (λ k. takes_before sys a k r) (sym e) ∙ ap (λ b. takes_before sys b (d b) r) (sym f)

-- whether the next operation gives to the ring, and what becomes of the count
abbrev pub GivesNext : System → (ℕ → ℕ) → ℕ → ℕ → Type 0
GivesNext sys d a r =
    ((op_at sys a (d a) ≡ Gives r) × (given sys (step d a) r ≡ given sys d r + 1)) ⊎ ((op_at sys a (d a) ≡ Gives r → ⊥) × (given sys (step d a) r ≡ given sys d r))

pub gives_next : (sys : System) (d : ℕ → ℕ) (a r : ℕ) → IsWired sys → d a < length (sys.ops a) → GivesNext sys d a r
gives_next sys d a r wired l = elim (given-step sys d a r l) [
  | inl same ↦ inr (λ (op : op_at sys a (d a) ≡ Gives r). absurd (omega (arith, given-lt sys d (step d a) a r wired (omega (arith, step-same d a)) l op)), same)
  | inr more ↦ inl more
]

-- whether it takes from the ring
abbrev pub TakesNext : System → (ℕ → ℕ) → ℕ → ℕ → Type 0
TakesNext sys d a r =
    ((op_at sys a (d a) ≡ Takes r) × (taken sys (step d a) r ≡ taken sys d r + 1)) ⊎ ((op_at sys a (d a) ≡ Takes r → ⊥) × (taken sys (step d a) r ≡ taken sys d r))

pub takes_next : (sys : System) (d : ℕ → ℕ) (a r : ℕ) → IsWired sys → d a < length (sys.ops a) → TakesNext sys d a r
takes_next sys d a r wired l = elim (taken-step sys d a r l) [
  | inl same ↦ inr (λ (op : op_at sys a (d a) ≡ Takes r). absurd (omega (arith, taken-lt sys d (step d a) a r wired (omega (arith, step-same d a)) l op)), same)
  | inr more ↦ inl more
]
