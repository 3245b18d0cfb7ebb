-- The word whose ones stand at given rising numbers.
use Rattle.std.proofs.Common.{◌≡◌, ℕ, ◌+◌, ◌-◌, ◌<◌, ◌≤◌, ◌⊎◌, zero, suc, true, false, ◌||◌, inl, inr, sym, ap, ◌∙◌, subst, arith}
use Rattle.std.proofs.lemmas.Bool.{cases_lt, cases_eq, cases_Bool}
use Rattle.std.proofs.lemmas.Bool.Decides.{nat_tests, eqb_tells}
use Rattle.lucy_shape.specs.Index.{Recurs}
use Rattle.lucy_shape.specs.Turning.{IsInverse}
use Rattle.lucy_shape.specs.WordOf.{at_position}

pub found : (X : ℕ → ℕ) (i n : ℕ) → at_position X i n ≡ true → (m : ℕ) × (X m ≡ i)
found X i zero h = (zero, grind (arith, nat_tests))
found X i (suc n) h = elim (eqb_tells (X (suc n)) i) [
  | inl w ↦ (suc n, w.1)
  | inr w ↦ found X i n (sym (ap (λ b. b || at_position X i n) w.0) ∙ h)
]

pub finds : (X : ℕ → ℕ) (i n m : ℕ) → m ≤ n → X m ≡ i → at_position X i n ≡ true
finds X i zero m l e = let z : m ≡ zero = omega arith in let a : X zero ≡ i = ap X (sym z) ∙ e in grind (arith, nat_tests)
finds X i (suc n) m l e = elim (eqb_tells (X (suc n)) i) [
  | inl w ↦ ap (λ b. b || at_position X i n) w.0
  | inr w ↦ ap (λ b. b || at_position X i n) w.0 ∙ elim (cases_eq m (suc n)) [
    | inl s ↦ absurd (w.1 (ap X (sym s) ∙ e))
    | inr s ↦ finds X i n m (omega arith) e
  ]
]

-- strictly rising
pub climbs : (X : ℕ → ℕ) → ((m : ℕ) → X m < X (m + 1)) → (m d : ℕ) → X m + d ≤ X (m + d)
climbs X up m zero = let a : X (m + 0) ≡ X m = ap X (omega arith) in omega arith
climbs X up m (suc d) = let a = climbs X up m d in let b = up (m + d) in let c : X (m + suc d) ≡ X (m + d + 1) = ap X (omega arith) in omega arith

pub before : (X : ℕ → ℕ) → ((m : ℕ) → X m < X (m + 1)) → (m k : ℕ) → X m < X k → m < k
before X up m k h = elim (cases_lt m k) [
  | inl l ↦ l
  | inr l ↦ let a = climbs X up k (m - k) in let b : X (k + (m - k)) ≡ X m = ap X (omega arith) in absurd (omega arith)
]

-- counts that rise by one exactly at the numbers of X
abbrev pub CountsAt : (ℕ → ℕ) → (ℕ → ℕ) → Type 0
CountsAt O X = (i : ℕ) → (((m : ℕ) × (X m ≡ i + 1)) × (O (i + 1) ≡ O i + 1)) ⊎ (((m : ℕ) → X m ≡ i + 1 → ⊥) × (O (i + 1) ≡ O i))

between : (O X : ℕ → ℕ) → O 0 ≡ 0 → X 0 ≡ 0 → ((m : ℕ) → X m < X (m + 1)) → CountsAt O X → (i : ℕ) → (X (O i) ≤ i) × (i < X (O i + 1))
between O X o x up step zero =
    let a = up 0 in let b : X (O 0) ≡ X 0 = ap X o in let c : X (O 0 + 1) ≡ X (0 + 1) = ap (λ n. X (n + 1)) o in (omega arith, omega arith)
between O X o x up step (suc i) =
    let h = between O X o x up step i in
    let low = h.0 in
    let high = h.1 in
    let one : i + 1 ≡ suc i = omega arith in
    let P : ℕ → Type 0 = λ n. (X (O n) ≤ n) × (n < X (O n + 1)) in
    subst P one (elim (step i) [
      | inl w ↦ let a : X (O (i + 1)) ≡ X (O i + 1) = ap X w.1 in
          let b : X (O (i + 1) + 1) ≡ X (O i + 1 + 1) = ap (λ n. X (n + 1)) w.1 in
          let c = up (O i + 1) in
          let m = w.0.0 in
          let e : X m ≡ i + 1 = w.0.1 in
          let d : O i < m = before X up (O i) m (omega arith) in
          let f = climbs X up (O i + 1) (m - (O i + 1)) in
          let g : X (O i + 1 + (m - (O i + 1))) ≡ X m = ap X (omega arith) in
          (omega arith, omega arith)
      | inr w ↦ let a : X (O (i + 1)) ≡ X (O i) = ap X w.1 in
          let b : X (O (i + 1) + 1) ≡ X (O i + 1) = ap (λ n. X (n + 1)) w.1 in
          (omega arith, elim (cases_eq (X (O i + 1)) (i + 1)) [ inl e ↦ absurd (w.0 (O i + 1) e) | inr e ↦ omega arith ])
    ])

pub position_index : (O X : ℕ → ℕ) → O 0 ≡ 0 → X 0 ≡ 0 → ((m : ℕ) → X m < X (m + 1)) → CountsAt O X → IsInverse O X
position_index O X o x up step = record {
  there = λ k i h. elim (cases_lt (O i) k) [
    | inl m ↦ let a = between O X o x up step i in
        let b = climbs X up (O i + 1) (k - (O i + 1)) in
        let c : X (O i + 1 + (k - (O i + 1))) ≡ X k = ap X (omega arith) in
        let d = a.1 in absurd (omega arith)
    | inr m ↦ m
  ];
  first = λ k i h.
      let a = between O X o x up step i in
      let b = climbs X up k (O i - k) in
      let c : X (k + (O i - k)) ≡ X (O i) = ap X (omega arith) in
      let d = a.0 in omega arith;
}

apart : false ≡ true → ⊥
apart e = cc

-- whether i is one of the numbers repeats past the lead
pub position_turn : (X : ℕ → ℕ) (n q P : ℕ) → X 0 ≡ 0 → ((m : ℕ) → X m < X (m + 1)) → Recurs X n q P → (i : ℕ) → X (n + 1) ≤ i →
    at_position X (i + P) (i + P) ≡ at_position X i i
position_turn X n q P x up fits i l = elim (cases_Bool (at_position X i i)) [
  | inl t ↦ let m = found X i i t in
      let e = m.1 in
      let past : n < m.0 = elim (cases_lt n m.0) [ inl w ↦ w | inr w ↦ let a = climbs X up m.0 (n + 1 - m.0) in let b : X (m.0 + (n + 1 - m.0)) ≡ X (n + 1) = ap X (omega arith) in absurd (omega arith) ] in
      let a = fits m.0 past in
      let b = climbs X up 0 (m.0 + q) in
      let c : X (0 + (m.0 + q)) ≡ X (m.0 + q) = ap X (omega arith) in
      finds X (i + P) (i + P) (m.0 + q) (omega arith) (omega arith) ∙ sym t
  | inr t ↦ elim (cases_Bool (at_position X (i + P) (i + P))) [
    | inr s ↦ s ∙ sym t
    | inl s ↦ let m = found X (i + P) (i + P) s in
        let e = m.1 in
        let a = fits (n + 1) (omega arith) in
        let late : n + q < m.0 = elim (cases_lt (n + q) m.0) [
          | inl w ↦ w
          | inr w ↦
              let b = climbs X up m.0 (n + 1 + q - m.0) in let c : X (m.0 + (n + 1 + q - m.0)) ≡ X (n + 1 + q) = ap X (omega arith) in absurd (omega arith)
        ] in
        let b = fits (m.0 - q) (omega arith) in
        let c : X (m.0 - q + q) ≡ X m.0 = ap X (omega arith) in
        let d = climbs X up 0 (m.0 - q) in
        let f : X (0 + (m.0 - q)) ≡ X (m.0 - q) = ap X (omega arith) in
        absurd (apart (sym t ∙ finds X i i (m.0 - q) (omega arith) (omega arith)))
  ]
]
