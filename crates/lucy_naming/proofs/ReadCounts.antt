-- How often a number stands in lists, and that it stands there once.
use Rattle.std.proofs.Common.{ℕ, zero, suc, ◌+◌, ◌<◌, ◌≤◌, ◌≡◌, List, [], ◌∷◌, ◌++◌, true, false, Some, nat_eq, if◌then◌else◌, refl, ap, sym, subst, inl, inr, arith}
use Rattle.std.specs.Prelude.{slice_get}
use Rattle.std.proofs.lemmas.Bool.{cases_lt, cases_eq}
use Rattle.std.proofs.lemmas.Bool.Decides.{nat_tests}
use Rattle.std.proofs.lemmas.Option.{same_Some}
use Rattle.lucy_place.specs.declared.entry.PlaceEntry.{PlaceEntry}
use Rattle.lucy_place.specs.declared.placed.PlacedNode.{PlacedNode}
use Rattle.lucy_place.specs.Proper.{reads_of}

-- a number is 1 from one bound to another, and 0 elsewhere
pub record Within (lo hi q c : ℕ) : Type 0 where
  pub here : lo ≤ q → q < hi → c ≡ 1
  pub below : q < lo → c ≡ 0
  pub above : hi ≤ q → c ≡ 0

pub within_none : (lo hi q c : ℕ) → lo ≡ hi → c ≡ 0 → Within lo hi q c
within_none lo hi q c e z = record { here = λ h l. absurd (omega arith); below = λ l. z; above = λ l. z }

pub within_join : (lo mid hi q a b c : ℕ) → lo ≤ mid → mid ≤ hi → Within lo mid q a → Within mid hi q b → c ≡ a + b → Within lo hi q c
within_join lo mid hi q a b c h g f s e = record {
  here = λ l m. elim (cases_lt q mid) [
    | inl early ↦ (let x = f.here l early in let y = s.below early in omega arith)
    | inr late ↦ (let x = f.above late in let y = s.here late m in omega arith)
  ];
  below = λ l. (let x = f.below l in let y = s.below (omega arith) in omega arith);
  above = λ l. (let x = f.above (omega arith) in let y = s.above l in omega arith);
}

abbrev pub test : ℕ → ℕ → ℕ
test q x = if nat_eq x q then 1 else 0

pub test_same : (q x : ℕ) → x ≡ q → test q x ≡ 1
test_same q x e = let t : nat_eq x q ≡ true = grind (arith, nat_tests) in ap (λ b. if b then 1 else 0) t

pub test_other : (q x : ℕ) → (x ≡ q → ⊥) → test q x ≡ 0
test_other q x e = let t : nat_eq x q ≡ false = grind (arith, nat_tests) in ap (λ b. if b then 1 else 0) t

pub within_one : (q x hi : ℕ) → hi ≡ x + 1 → Within x hi q (test q x)
within_one q x hi e = record {
  here = λ h l. test_same q x (omega arith);
  below = λ l. test_other q x (λ s. omega arith);
  above = λ l. test_other q x (λ s. omega arith);
}

abbrev pub times : ℕ → List ℕ → ℕ
times q [] = 0
times q (x ∷ xs) = test q x + times q xs

-- how often the number is read
abbrev pub total : PlacedNode → ℕ → List PlaceEntry → ℕ
total n q [] = 0
total n q (e ∷ es) = times q (reads_of n e.kind) + total n q es

pub total_append : (n : PlacedNode) (q : ℕ) (es fs : List PlaceEntry) → total n q (es ++ fs) ≡ total n q es + total n q fs
total_append n q [] fs = omega arith
total_append n q (e ∷ es) fs = omega (arith, total_append n q es fs)

-- what stands somewhere is counted, and what is counted stands somewhere
pub times_at : (q : ℕ) (xs : List ℕ) (k : ℕ) → slice_get xs k ≡ Some q → 1 ≤ times q xs
times_at q [] k e = absurd (cc e)
times_at q (x ∷ xs) zero e = let t = test_same q x (same_Some x q e) in omega arith
times_at q (x ∷ xs) (suc k) e = omega (arith, times_at q xs k e)

pub times_some : (q : ℕ) (xs : List ℕ) → 1 ≤ times q xs → (k : ℕ) × (slice_get xs k ≡ Some q)
times_some q [] h = absurd (omega arith)
times_some q (x ∷ xs) h =
    elim (cases_eq x q) [
      | inl same ↦ (0, ap (λ y. Some y) same)
      | inr other ↦ (let t = test_other q x other in let m = times_some q xs (omega arith) in (suc m.0, m.1))
    ]

pub times_one : (q : ℕ) (xs : List ℕ) (j k : ℕ) → times q xs ≤ 1 → slice_get xs j ≡ Some q → slice_get xs k ≡ Some q → j ≡ k
times_one q [] j k h e f = absurd (cc e)
times_one q (x ∷ xs) zero zero h e f = refl
times_one q (x ∷ xs) zero (suc k) h e f = let t = test_same q x (same_Some x q e) in let m = times_at q xs k f in absurd (omega arith)
times_one q (x ∷ xs) (suc j) zero h e f = let t = test_same q x (same_Some x q f) in let m = times_at q xs j e in absurd (omega arith)
times_one q (x ∷ xs) (suc j) (suc k) h e f = ap suc (times_one q xs j k (omega (arith, h)) e f)

pub total_at : (n : PlacedNode) (q : ℕ) (es : List PlaceEntry) (i : ℕ) (e : PlaceEntry) → slice_get es i ≡ Some e → times q (reads_of n e.kind) ≤ total n q es
total_at n q [] i e f = absurd (cc f)
total_at n q (x ∷ es) zero e f = subst (λ (y : PlaceEntry). times q (reads_of n y.kind) ≤ times q (reads_of n x.kind) + total n q es) (same_Some x e f) (omega arith)
total_at n q (x ∷ es) (suc i) e f = omega (arith, total_at n q es i e f)

pub total_some : (n : PlacedNode) (q : ℕ) (es : List PlaceEntry) → 1 ≤ total n q es → (i : ℕ) × (e : PlaceEntry) × (slice_get es i ≡ Some e) × (1 ≤ times q (reads_of n e.kind))
total_some n q [] h = absurd (omega arith)
total_some n q (x ∷ es) h =
    elim (cases_lt 0 (times q (reads_of n x.kind))) [
      | inl some ↦ (0, x, refl, omega arith)
      | inr none ↦ (let m = total_some n q es (omega arith) in (suc m.0, m.1, m.2, m.3))
    ]

pub total_one : (n : PlacedNode) (q : ℕ) (es : List PlaceEntry) (i j : ℕ) (e f : PlaceEntry) → total n q es ≤ 1 → slice_get es i ≡ Some e → slice_get es j ≡ Some f →
    1 ≤ times q (reads_of n e.kind) → 1 ≤ times q (reads_of n f.kind) → i ≡ j
total_one n q [] i j e f h a b s t = absurd (cc a)
total_one n q (x ∷ es) zero zero e f h a b s t = refl
total_one n q (x ∷ es) zero (suc j) e f h a b s t =
    let m = total_at n q es j f b in
    let g : 1 ≤ times q (reads_of n x.kind) = subst (λ (y : PlaceEntry). 1 ≤ times q (reads_of n y.kind)) (sym (same_Some x e a)) s in
    absurd (omega arith)
total_one n q (x ∷ es) (suc i) zero e f h a b s t =
    let m = total_at n q es i e a in
    let g : 1 ≤ times q (reads_of n x.kind) = subst (λ (y : PlaceEntry). 1 ≤ times q (reads_of n y.kind)) (sym (same_Some x f b)) t in
    absurd (omega arith)
total_one n q (x ∷ es) (suc i) (suc j) e f h a b s t = ap suc (total_one n q es i j e f (omega (arith, h)) a b s t)
