-- Counts and the places that belong to them: where they come again, and which of them decide.
use Rattle.std.proofs.Common.{◌≡◌, ℕ, ◌+◌, ◌-◌, ◌*◌, ◌/◌, ◌%◌, cond, ◌<◌, ◌≤◌, max, zero, suc, inl, inr, sym, ap, ◌∙◌, subst, arith}
use Rattle.std.proofs.lemmas.Bool.{cases_lt}
use Rattle.std.proofs.lemmas.Bool.Decides.{nat_tests, leb_tells}
use Rattle.std.proofs.lemmas.Nat.{mod-mul-add, div-mul-add}
use Rattle.lucy_shape.specs.Index.{Recurs, least}
use Rattle.lucy_shape.specs.Laws.{InstancesLaw}
use Rattle.lucy_shape.specs.Turning.{IsInverse, Rises, Turns}
use Rattle.lucy_shape.specs.WordOf.{continued}

-- counts stand one way at every instant exactly where the indexes stand the other way at every one
pub indexes : (O1 I1 O2 I2 : ℕ → ℕ) → IsInverse O1 I1 → IsInverse O2 I2 → ((i : ℕ) → O2 i ≤ O1 i) → (k : ℕ) → I1 k ≤ I2 k
indexes O1 I1 O2 I2 a b h k =
    let c = b.there k (I2 k) (omega arith) in
    let d = h (I2 k) in
    a.first k (I2 k) (omega arith)

pub counts : (O1 I1 O2 I2 : ℕ → ℕ) → IsInverse O1 I1 → IsInverse O2 I2 → ((k : ℕ) → I1 k ≤ I2 k) → (i : ℕ) → O2 i ≤ O1 i
counts O1 I1 O2 I2 a b h i =
    let c = b.first (O2 i) i (omega arith) in
    let d = h (O2 i) in
    a.there (O2 i) i (omega arith)

-- one index
pub one_index : (O I J : ℕ → ℕ) → IsInverse O I → IsInverse O J → (k : ℕ) → I k ≡ J k
one_index O I J a b k =
    let c = indexes O I O J a b (λ i. omega arith) k in
    let d = indexes O J O I b a (λ i. omega arith) k in
    omega arith

-- the index of `a on b`
pub on_index : (Oa Ia Ob Ib : ℕ → ℕ) → IsInverse Oa Ia → IsInverse Ob Ib → IsInverse (λ i. Ob (Oa i)) (λ k. Ia (Ib k))
on_index Oa Ia Ob Ib a b = record {
  there = λ k i h. b.there k (Oa i) (a.there (Ib k) i h);
  first = λ k i h. a.first (Ib k) i (b.first k (Oa i) h);
}

-- what repeats in the counts repeats in the indexes
pub index_turn : (O I : ℕ → ℕ) (l L R : ℕ) → IsInverse O I → Rises O → Turns O l L R → (k : ℕ) → O l < k → I (k + R) ≡ I k + L
index_turn O I l L R a up t k h =
    let past : l < I k = elim (cases_lt l (I k)) [ inl m ↦ m | inr m ↦ let b = a.there k l m in absurd (omega arith) ] in
    let c = a.there k (I k) (omega arith) in
    let d = t (I k) (omega arith) in
    let most = a.first (k + R) (I k + L) (omega arith) in
    let e = a.there (k + R) (I (k + R)) (omega arith) in
    let least : I k + L ≤ I (k + R) = elim (cases_lt (I (k + R)) (l + L)) [
      | inl m ↦ let f = up (I (k + R)) (l + L) (omega arith) in let g = t l (omega arith) in absurd (omega arith)
      | inr m ↦ let f = t (I (k + R) - L) (omega arith) in
          let same : I (k + R) - L + L ≡ I (k + R) = omega arith in
          let g : O (I (k + R) - L + L) ≡ O (I (k + R)) = ap O same in
          let n = a.first k (I (k + R) - L) (omega arith) in
          omega arith
    ] in
    omega arith

pub many : (f : ℕ → ℕ) (h Q P : ℕ) → Recurs f h Q P → (t k : ℕ) → h < k → f (k + t * Q) ≡ f k + t * P
many f h Q P fits zero k l = let e : f (k + zero * Q) ≡ f k = ap f (omega arith) in omega arith
many f h Q P fits (suc t) k l =
    let a = many f h Q P fits t k l in
    let b = fits (k + t * Q) (omega arith) in
    let same : k + suc t * Q ≡ k + t * Q + Q = omega arith in
    let c : f (k + suc t * Q) ≡ f (k + t * Q + Q) = ap f same in
    omega arith

-- past where both come again, one Q further is one P later
pub need_turn : (O I X : ℕ → ℕ) (n l L R q P t : ℕ) → IsInverse O I → Rises O → Turns O l L R → Recurs X n q P → q ≡ t * L → Recurs (λ k. X (I k)) (O (max n l)) (t * R) P
need_turn O I X n l L R q P t a up turns fits e k h =
    let past : max n l < I k = elim (cases_lt (max n l) (I k)) [ inl m ↦ m | inr m ↦ let b = a.there k (max n l) m in absurd (omega arith) ] in
    let low = up l (max n l) (omega arith) in
    let b = many I (O l) R L (index_turn O I l L R a up turns) t k (omega arith) in
    let c : X (I (k + t * R)) ≡ X (I k + q) = ap X (omega arith) in
    let d = fits (I k) (omega arith) in
    omega arith

pub fits_later : (f : ℕ → ℕ) (h H Q P : ℕ) → h ≤ H → Recurs f h Q P → Recurs f H Q P
fits_later f h H Q P l fits m k = fits m (omega arith)

-- indexes that are the same come again alike
pub fits_same : (f g : ℕ → ℕ) (n q P : ℕ) → ((k : ℕ) → f k ≡ g k) → Recurs g n q P → Recurs f n q P
fits_same f g n q P e h m l = let a = e (m + q) in let b = e m in let c = h m l in omega arith

-- the instances up to h + Q decide all
decided_to : (f g : ℕ → ℕ) (h Q P : ℕ) → 0 < Q → Recurs f h Q P → Recurs g h Q P → ((k : ℕ) → 0 < k → k ≤ h + Q → f k ≤ g k) → (n k : ℕ) → k ≤ n → 0 < k → f k ≤ g k
decided_to f g h Q P some a b base zero k l m = absurd (omega arith)
decided_to f g h Q P some a b base (suc n) k l m = elim (cases_lt (h + Q) k) [
  | inl past ↦ let same : k - Q + Q ≡ k = omega arith in
      let c = a (k - Q) (omega arith) in
      let d = b (k - Q) (omega arith) in
      let e = ap f same in
      let i = ap g same in
      let j = decided_to f g h Q P some a b base n (k - Q) (omega arith) (omega arith) in
      omega arith
  | inr here ↦ base k m here
]

pub decided : InstancesLaw
decided f g h Q P some a b base k m = decided_to f g h Q P some a b base k k (omega arith) m

-- both sides of a need have one rate. `ones` and `length` are of the period of a word with index I
pub rate : (I : ℕ → ℕ) (h Q P ones length : ℕ) → Recurs I h Q P → Recurs I h ones length → ones * P ≡ Q * length
rate I h Q P ones length a b =
    let c = many I h Q P a ones (h + 1) (omega arith) in
    let d = many I h ones length b Q (h + 1) (omega arith) in
    let e : I (h + 1 + ones * Q) ≡ I (h + 1 + Q * ones) = ap I (omega arith) in
    omega arith

-- one need between two clocks, whole: X1 and X2 are the indexes of the clocks' words, I1 and I2 those of the words of the need
pub record IsSide (O I X Ox : ℕ → ℕ) (n l L R q P Q t : ℕ) : Type 0 where
  pub index : IsInverse O I
  pub clock : IsInverse Ox X
  pub rises : Rises O
  pub turns : Turns O l L R
  pub fits : Recurs X n q P
  pub whole : q ≡ t * L
  pub instances : Q ≡ t * R

pub need_exact : (O1 I1 X1 Ox1 O2 I2 X2 Ox2 : ℕ → ℕ) (n1 l1 L1 R1 q1 t1 n2 l2 L2 R2 q2 t2 P Q : ℕ) → 0 < Q →
    IsSide O1 I1 X1 Ox1 n1 l1 L1 R1 q1 P Q t1 → IsSide O2 I2 X2 Ox2 n2 l2 L2 R2 q2 P Q t2 →
    ((k : ℕ) → 0 < k → k ≤ max (O1 (max n1 l1)) (O2 (max n2 l2)) + Q → X1 (I1 k) ≤ X2 (I2 k)) → X1 (I1 0) ≤ X2 (I2 0) → (i : ℕ) → O2 (Ox2 i) ≤ O1 (Ox1 i)
need_exact O1 I1 X1 Ox1 O2 I2 X2 Ox2 n1 l1 L1 R1 q1 t1 n2 l2 L2 R2 q2 t2 P Q some a b base start =
    let h = max (O1 (max n1 l1)) (O2 (max n2 l2)) in
    let f = λ (k : ℕ). X1 (I1 k) in
    let g = λ (k : ℕ). X2 (I2 k) in
    let c = need_turn O1 I1 X1 n1 l1 L1 R1 q1 P t1 a.index a.rises a.turns a.fits a.whole in
    let d = need_turn O2 I2 X2 n2 l2 L2 R2 q2 P t2 b.index b.rises b.turns b.fits b.whole in
    let e : Recurs f h Q P = subst (λ (x : ℕ). Recurs f h x P) (sym a.instances) (fits_later f _ h (t1 * R1) P (omega arith) c) in
    let i : Recurs g h Q P = subst (λ (x : ℕ). Recurs g h x P) (sym b.instances) (fits_later g _ h (t2 * R2) P (omega arith) d) in
    let all = decided f g h Q P some e i base in
    counts (λ i. O1 (Ox1 i)) f (λ i. O2 (Ox2 i)) g (on_index Ox1 X1 O1 I1 a.clock a.index) (on_index Ox2 X2 O2 I2 b.clock b.index)
    (λ k. elim (cases_lt 0 k) [
      | inl m ↦ all k m
      | inr m ↦ let z : k ≡ 0 = omega arith in let u : X1 (I1 k) ≡ X1 (I1 0) = ap (λ k. X1 (I1 k)) z in let v : X2 (I2 k) ≡ X2 (I2 0) = ap (λ k. X2 (I2 k)) z in omega arith
    ])

-- folding, and its converse: positions 1 to n + q, continued
pub below : (x : ℕ → ℕ) (n q P m : ℕ) → m ≤ n → continued x n q P m ≡ x m
below x n q P m h = grind (arith, nat_tests)

past : (x : ℕ → ℕ) (n q P m : ℕ) → n < m → continued x n q P m ≡ x (n + 1 + (m - n - 1) % q) + (m - n - 1) / q * P
past x n q P m h = grind (arith, nat_tests)

-- m = n + 1 + f * q + j, with j below q
pub at_turn : (x : ℕ → ℕ) (n q P m f j : ℕ) → j < q → m ≡ n + 1 + (f * q + j) → continued x n q P m ≡ x (n + 1 + j) + f * P
at_turn x n q P m f j l e =
    let some : 0 < q = omega arith in
    let a = past x n q P m (omega arith) in
    let b : m - n - 1 ≡ f * q + j = omega arith in
    let c : (m - n - 1) % q ≡ j = ap (λ k. k % q) b ∙ mod-mul-add f q j l in
    let d : (m - n - 1) / q ≡ f = ap (λ k. k / q) b ∙ div-mul-add f q j l in
    let g : x (n + 1 + (m - n - 1) % q) ≡ x (n + 1 + j) = ap (λ k. x (n + 1 + k)) c in
    let h : (m - n - 1) / q * P ≡ f * P = ap (λ k. k * P) d in
    omega arith

pub continued_fits : (x : ℕ → ℕ) (n q P : ℕ) → 0 < q → Recurs (continued x n q P) n q P
continued_fits x n q P some m h =
    let k = m - n - 1 in
    let j = k % q in
    let f = k / q in
    let l : j < q = omega arith in
    let e : f * q + j ≡ k = omega arith in
    let a = at_turn x n q P m f j l (omega arith) in
    let b = at_turn x n q P (m + q) (f + 1) j l (omega arith) in
    omega arith

-- the neighbours and the period make it rise
pub continued_rises : (x : ℕ → ℕ) (n q P : ℕ) → 0 < q → ((m : ℕ) → m < n + q → x m < x (m + 1)) → x (n + q) < x (n + 1) + P → (m : ℕ) → continued x n q P m < continued x n q P (m + 1)
continued_rises x n q P some up turn m = elim (cases_lt n m) [
  | inr l ↦ elim (cases_lt m n) [
    | inl k ↦ let a = below x n q P m l in let b = below x n q P (m + 1) (omega arith) in let c = up m (omega arith) in omega arith
    | inr k ↦ let a = below x n q P m l in let b = at_turn x n q P (m + 1) 0 0 some (omega arith) in let c = up m (omega arith) in
        let d : x (m + 1) ≡ x (n + 1 + 0) = ap x (omega arith) in omega arith
  ]
  | inl l ↦
      let k = m - n - 1 in
      let j = k % q in
      let f = k / q in
      let lj : j < q = omega arith in
      let e : f * q + j ≡ k = omega arith in
      let a = at_turn x n q P m f j lj (omega arith) in
      elim (cases_lt (j + 1) q) [
        | inl i ↦ let b = at_turn x n q P (m + 1) f (j + 1) i (omega arith) in let c = up (n + 1 + j) (omega arith) in
            let d : x (n + 1 + (j + 1)) ≡ x (n + 1 + j + 1) = ap x (omega arith) in omega arith
        | inr i ↦ let same : j + 1 ≡ q = omega arith in
            let b = at_turn x n q P (m + 1) (f + 1) 0 some (omega arith) in
            let c : x (n + 1 + j) ≡ x (n + q) = ap x (omega arith) in
            let d : x (n + 1 + 0) ≡ x (n + 1) = ap x (omega arith) in
            omega arith
      ]
]

-- each count that rises without end has an index, here with a bound on where the k-th one stands
least_there : (O : ℕ → ℕ) (k n : ℕ) → k ≤ O n → k ≤ O (least O k n)
least_there O k zero h = h
least_there O k (suc n) h = elim (leb_tells k (O n)) [
  | inl w ↦ let a : least O k (suc n) ≡ least O k n = ap (λ b. cond b (least O k n) (suc n)) w.0 in
      rw a (least_there O k n w.1)
  | inr w ↦ let a : least O k (suc n) ≡ suc n = ap (λ b. cond b (least O k n) (suc n)) w.0 in rw a h
]

least_first : (O : ℕ → ℕ) → Rises O → (k n i : ℕ) → i ≤ n → k ≤ O i → least O k n ≤ i
least_first O up k zero i l h = omega arith
least_first O up k (suc n) i l h = elim (leb_tells k (O n)) [
  | inl w ↦ let a : least O k (suc n) ≡ least O k n = ap (λ b. cond b (least O k n) (suc n)) w.0 in
      elim (cases_lt n i) [
        | inl m ↦ let b = least_first O up k n n (omega arith) w.1 in omega arith
        | inr m ↦ let b = least_first O up k n i m h in omega arith
      ]
  | inr w ↦ elim (cases_lt n i) [
    | inl m ↦ let a : least O k (suc n) ≡ suc n = ap (λ b. cond b (least O k n) (suc n)) w.0 in omega arith
    | inr m ↦ let b = up i n m in let d = w.1 in absurd (omega arith)
  ]
]

pub has_index : (O bound : ℕ → ℕ) → Rises O → ((k : ℕ) → k ≤ O (bound k)) → IsInverse O (λ k. least O k (bound k))
has_index O bound up enough = record {
  there = λ k i h. let a = least_there O k (bound k) (enough k) in let b = up (least O k (bound k)) i h in omega arith;
  first = λ k i h. elim (cases_lt (bound k) i) [
    | inl m ↦ let a = least_first O up k (bound k) (bound k) (omega arith) (enough k) in omega arith
    | inr m ↦ least_first O up k (bound k) i m h
  ];
}
