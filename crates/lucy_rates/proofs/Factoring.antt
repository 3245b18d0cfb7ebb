-- The vector that the factors of components give.
use Rattle.std.proofs.Common.{◌≡◌, ℕ, ◌+◌, ◌*◌, ◌/◌, ◌<◌, ◌≤◌, ◌↔◌, List, [], ◌∷◌, length, inl, inr, sym, ap, ◌∙◌, subst, refl, arith, lit<}
use Rattle.std.specs.Prelude.{slice_index}
use Rattle.std.specs.List.{All}
use Prim.Native.Nat.{◌∣◌}
use Rattle.std.proofs.Math.Nat.{dvd_refl, one-dvd, dvd-mul_left, mul-dvd-mul_right, dvd_of_mul-dvd-mul_right, div-mul_cancel, eq_of_mul-eq-mul_right, le_of_dvd}
use Rattle.std.proofs.lemmas.Nat.{mul-le}
use Rattle.std.proofs.lemmas.Nat.Gcd.{dvd_trans, IsGcd-swap}
use Rattle.std.proofs.lemmas.Bool.{cases_lt}
use Rattle.std.proofs.lemmas.List.Elements.{All-get_or}
use Rattle.lucy_word.specs.Bits.{Bits}
use Rattle.lucy_word.specs.Stored.{IsStored}
use Rattle.lucy_word.proofs.Multiples.{gauss}
use Rattle.lucy_need.specs.Meeting.{IsWithin, term}
use Rattle.lucy_need.specs.Stored.{HasWords}
use Rattle.lucy_need.specs.declared.need.Term.{Term}
use Rattle.lucy_need.specs.declared.need.Need.{Need}
use Rattle.lucy_need.specs.declared.need.Need.TheVariants.{Equal, Adapt}
use Rattle.lucy_need.specs.declared.need.Needs.{Needs}
use Rattle.lucy_rates.specs.declared.fraction.Fraction.{Fraction}
use Rattle.lucy_rates.specs.Walks.{first_of, second_of, no_need, need_at, over, under, IsNeedWalk, AreJoinedClocks}
use Rattle.lucy_rates.specs.Trees.{IsNamedBy}
use Rattle.lucy_rates.specs.Forests.{rate_at, IsForest}
use Rattle.lucy_rates.specs.Vectors.{AreBalanced, StandsAfter, IsRateVector, IsLeastVector}
use Rattle.lucy_rates.specs.Laying.{AsksTerm, AsksUpto}
use Rattle.lucy_rates.proofs.Balancing.{walks_balance}
use Rattle.lucy_rates.proofs.Carrying.{joined_self, walk_back, walk_names, below}
use Rattle.lucy_rates.proofs.Gauss.{quotient_some}

-- a product of positive numbers is positive
pub product_some : (a b : ℕ) → 0 < a → 0 < b → 0 < a * b
product_some a b h k = let z : 1 * 1 ≤ a * b = mul-le 1 1 a b h k in omega arith

-- what needs, their trees and rates are where they are balanced
pub record AreRated (needs : Needs) (roots parents : List ℕ) (rates : List Fraction) : Type 0 where
  pub within : All (IsWithin needs.clocks) needs.list
  pub words : All HasWords needs.list
  pub forest : IsForest needs.list needs.clocks roots parents rates
  pub balanced : AreBalanced needs.list

-- the words of a need's terms
pub stored_terms : (need : Need) → HasWords need → IsStored (first_of need).word × IsStored (second_of need).word
stored_terms (Equal s t) h = h
stored_terms (Adapt s t) h = h

-- what a word asks of a factor
asks_at : (roots : List ℕ) (rates : List Fraction) (t : Term) (c n : ℕ) (w : Bits) → t ≡ term c w → AsksTerm roots rates (slice_index roots c) t n → (length w.period * (rate_at rates c).den) ∣ (n * (rate_at rates c).num)
asks_at roots rates t c n w e ask =
    let h = ask (ap (λ (z : Term). slice_index roots z.clock) e) in
    subst (λ (z : Term). (length z.word.period * (rate_at rates z.clock).den) ∣ (n * (rate_at rates z.clock).num)) e h

cross : (rc rr nc dc n m : ℕ) → 0 < n → rc * m ≡ rr * n → nc * m ≡ dc * n → rc * dc ≡ rr * nc
cross rc rr nc dc n m some p b =
    let x : rc * (nc * m) ≡ rc * (dc * n) = ap (λ z. rc * z) b in
    let y : rc * m * nc ≡ rr * n * nc = ap (λ z. z * nc) p in
    eq_of_mul-eq-mul_right n some (rc * dc) (rr * nc) (omega arith)

cross_back : (rc rd t nc dc nd dd n m : ℕ) → 0 < dc → 0 < dd → rc * dc ≡ t * nc → rd * dd ≡ t * nd → nd * dc * m ≡ nc * dd * n → rd * m ≡ rc * n
cross_back rc rd t nc dc nd dd n m some some' p q b =
    let x : rd * dd * (dc * m) ≡ t * nd * (dc * m) = ap (λ z. z * (dc * m)) q in
    let y : rc * dc * (dd * n) ≡ t * nc * (dd * n) = ap (λ z. z * (dd * n)) p in
    let z : t * (nd * dc * m) ≡ t * (nc * dd * n) = ap (λ k. t * k) b in
    eq_of_mul-eq-mul_right (dc * dd) (product_some dc dd some some') (rd * m) (rc * n) (omega arith)

module _ (needs : Needs) (roots parents : List ℕ) (rates : List Fraction) (rated : AreRated needs roots parents rates) where
  abbrev clocks : ℕ
  clocks = needs.clocks

  abbrev forest : IsForest needs.list needs.clocks roots parents rates
  forest = rated.forest

  within_at : (k : ℕ) → k < length needs.list → IsWithin needs.clocks (need_at needs.list k)
  within_at k l = All-get_or (IsWithin needs.clocks) needs.list k no_need l rated.within

  pub words_at : (k : ℕ) → k < length needs.list → IsStored (first_of (need_at needs.list k)).word × IsStored (second_of (need_at needs.list k)).word
  words_at k l = stored_terms (need_at needs.list k) (All-get_or HasWords needs.list k no_need l rated.words)

  pub named_within : (k c : ℕ) → k < length needs.list → IsNamedBy c (need_at needs.list k) → c < needs.clocks
  named_within k c l n = below needs.clocks (need_at needs.list k) c (within_at k l) n

  pub joined_within : (d c : ℕ) → AreJoinedClocks needs.list d c → c < needs.clocks → d < needs.clocks
  joined_within d c j l = elim (walk_names needs.list j.0 d c j.1 j.2 j.3) [
    | inl e ↦ omega arith
    | inr w ↦ named_within w.0 d w.1 w.2
  ]

  over_some : (k : ℕ) → k < length needs.list → 0 < over (need_at needs.list k)
  over_some k l = let w = words_at k l in product_some _ _ w.0.word.has_one w.1.nonempty

  under_some : (k : ℕ) → k < length needs.list → 0 < under (need_at needs.list k)
  under_some k l = let w = words_at k l in product_some _ _ w.0.nonempty w.1.word.has_one

  walk_some : (walk : List ℕ) (c d n m : ℕ) → IsNeedWalk needs.list walk c d n m → (0 < n) × (0 < m)
  walk_some [] c d n m h = ((let e = h.1 in omega arith), (let e = h.2 in omega arith))
  walk_some (k ∷ walk) c d n m h =
      let s = h.1 in
      let rest = walk_some walk s.0 d s.3 s.4 s.6 in
      let o = over_some k h.0 in
      let u = under_some k h.0 in
      let ends : (0 < s.1) × (0 < s.2) = elim s.5 [
        | inl w ↦ ((let e = w.2 in omega arith), (let e = w.3 in omega arith))
        | inr w ↦ ((let e = w.2 in omega arith), (let e = w.3 in omega arith))
      ] in
      ((let e = s.7 in let p = product_some s.1 s.3 ends.0 rest.0 in omega arith), (let e = s.8 in let p = product_some s.2 s.4 ends.1 rest.1 in omega arith))

  pub root_within : (c : ℕ) → c < needs.clocks → slice_index roots c < needs.clocks
  root_within c l = let a = (forest.root c l).least c (joined_self needs.list c) in omega arith

  pub root_root : (c : ℕ) → c < needs.clocks → slice_index roots (slice_index roots c) ≡ slice_index roots c
  root_root c l = forest.one (slice_index roots c) c (root_within c l) l (forest.root c l).joined

  -- the rate of a root is 1
  pub rate_one : (c : ℕ) → c < needs.clocks → slice_index roots c ≡ c → ((rate_at rates c).num ≡ 1) × ((rate_at rates c).den ≡ 1)
  rate_one c l e =
      let t = forest.tree_rate c l in
      let f = forest.rate c l in
      let low = t.is_root.least c (joined_self needs.list c) in
      let high = (forest.root c l).least t.root t.is_root.joined in
      let own : t.root ≡ c = omega arith in
      let walk : IsNeedWalk needs.list t.walk c c t.a t.b = subst (λ (z : ℕ). IsNeedWalk needs.list t.walk z c t.a t.b) own t.along in
      let some = walk_some t.walk c c t.a t.b walk in
      let b = walks_balance needs.list needs.clocks roots parents rates rated.within forest rated.balanced t.walk c c t.a t.b l walk in
      let nd = product_some (rate_at rates c).num (rate_at rates c).den f.num f.den in
      let x : t.b * ((rate_at rates c).num * (rate_at rates c).den) ≡ t.a * ((rate_at rates c).num * (rate_at rates c).den) = omega arith in
      let y : t.b ≡ t.a = eq_of_mul-eq-mul_right ((rate_at rates c).num * (rate_at rates c).den) nd t.b t.a x in
      let z : (rate_at rates c).num * t.b ≡ (rate_at rates c).den * t.b = t.same ∙ ap (λ k. k * (rate_at rates c).den) (sym y) ∙ omega arith in
      let same : (rate_at rates c).num ≡ (rate_at rates c).den = eq_of_mul-eq-mul_right t.b some.1 (rate_at rates c).num (rate_at rates c).den z in
      let d : (rate_at rates c).num ∣ 1 = f.lowest.2 (rate_at rates c).num (dvd_refl (rate_at rates c).num) (let P : ℕ → Type 0 = λ k. (rate_at rates c).num ∣ k in subst P same (dvd_refl (rate_at rates c).num)) in
      let small : (rate_at rates c).num ≤ 1 = le_of_dvd (lit< tt) d in
      let some' = f.num in
      (omega arith, omega arith)

  -- in numbers in the proportion of the rates a clock has its rate times the number of its root
  pub vector_rate : (r : ℕ → ℕ) → IsRateVector needs r → (c : ℕ) → c < needs.clocks → r c * (rate_at rates c).den ≡ r (slice_index roots c) * (rate_at rates c).num
  vector_rate r v c l =
      let root : ℕ = slice_index roots c in
      let j = (forest.root c l).joined in
      let p = v.proportion root c j.1 j.2 j.0 j.3 in
      let one = rate_one root (root_within c l) (root_root c l) in
      let b = walks_balance needs.list needs.clocks roots parents rates rated.within forest rated.balanced j.0 root c j.1 j.2 (root_within c l) j.3 in
      let x : (rate_at rates c).num * (rate_at rates root).den * j.2 ≡ (rate_at rates c).num * j.2 = ap (λ z. (rate_at rates c).num * z * j.2) one.1 ∙ omega arith in
      let y : (rate_at rates root).num * (rate_at rates c).den * j.1 ≡ (rate_at rates c).den * j.1 = ap (λ z. z * (rate_at rates c).den * j.1) one.0 ∙ omega arith in
      cross (r c) (r root) (rate_at rates c).num (rate_at rates c).den j.1 j.2 (walk_some j.0 root c j.1 j.2 j.3).0 p (sym x ∙ b ∙ y)

  asked_term : (r : ℕ → ℕ) → IsRateVector needs r → (root : ℕ) (t : Term) → t.clock < needs.clocks → length t.word.period ∣ r t.clock → AsksTerm roots rates root t (r root)
  asked_term r v root t l d = λ e.
      let x : r t.clock * (rate_at rates t.clock).den ≡ r root * (rate_at rates t.clock).num = vector_rate r v t.clock l ∙ ap (λ z. r z * (rate_at rates t.clock).num) e in
      let P : ℕ → Type 0 = λ z. (length t.word.period * (rate_at rates t.clock).den) ∣ z in
      subst P x (mul-dvd-mul_right (length t.word.period) d (rate_at rates t.clock).den)

  -- and each root's number has what the words of its component ask
  pub asked : (r : ℕ → ℕ) → IsRateVector needs r → (root : ℕ) → AsksUpto needs.list roots rates (length needs.list) root (r root)
  asked r v root = λ k l. (
    asked_term r v root (first_of (need_at needs.list k)) (named_within k _ l (inl refl)) (v.whole (first_of (need_at needs.list k)).clock (first_of (need_at needs.list k)).word (k, l, inl refl)),
    asked_term r v root (second_of (need_at needs.list k)) (named_within k _ l (inr refl)) (v.whole (second_of (need_at needs.list k)).clock (second_of (need_at needs.list k)).word (k, l, inr refl)),
  )

  module _ (factor : ℕ → ℕ) (some : (root : ℕ) → root < needs.clocks → 0 < factor root) (exact : (root n : ℕ) → root < needs.clocks → (factor root ∣ n ↔ AsksUpto needs.list roots rates (length needs.list) root n))
      (r : ℕ → ℕ) (at : (c : ℕ) → c < needs.clocks → r c ≡ factor (slice_index roots c) / (rate_at rates c).den * (rate_at rates c).num) (beyond : (c : ℕ) → needs.clocks ≤ c → r c ≡ 1) where
    asked_at : (c : ℕ) (w : Bits) → c < needs.clocks → StandsAfter needs.list c w → (length w.period * (rate_at rates c).den) ∣ (factor (slice_index roots c) * (rate_at rates c).num)
    asked_at c w l (k, m, which) =
        let own = (exact (slice_index roots c) (factor (slice_index roots c)) (root_within c l)).0 (dvd_refl (factor (slice_index roots c))) k m in
        elim which [
          | inl e ↦ asks_at roots rates (first_of (need_at needs.list k)) c (factor (slice_index roots c)) w e own.0
          | inr e ↦ asks_at roots rates (second_of (need_at needs.list k)) c (factor (slice_index roots c)) w e own.1
        ]

    den_by_word : (c : ℕ) (w : Bits) → c < needs.clocks → StandsAfter needs.list c w → (rate_at rates c).den ∣ factor (slice_index roots c)
    den_by_word c w l s =
        let d = dvd_trans (rate_at rates c).den (dvd-mul_left (rate_at rates c).den (length w.period)) (asked_at c w l s) in
        let P : ℕ → Type 0 = λ z. (rate_at rates c).den ∣ z in
        gauss (rate_at rates c).den (rate_at rates c).num (factor (slice_index roots c)) (IsGcd-swap (rate_at rates c).num (rate_at rates c).den 1 (forest.rate c l).lowest)
        (subst P (let e : factor (slice_index roots c) * (rate_at rates c).num ≡ (rate_at rates c).num * factor (slice_index roots c) = omega arith in e) d)

    den_divides : (c : ℕ) → c < needs.clocks → (rate_at rates c).den ∣ factor (slice_index roots c)
    den_divides c l =
        let j = (forest.root c l).joined in
        let back = walk_back needs.list j.0 (slice_index roots c) c j.1 j.2 j.3 in
        elim (walk_names needs.list back.0 c (slice_index roots c) back.1 back.2 back.3) [
          | inl e ↦ (let P : ℕ → Type 0 = λ z. z ∣ factor (slice_index roots c) in subst P (sym (rate_one c l (sym e)).1) (one-dvd (factor (slice_index roots c))))
          | inr w ↦ elim w.2 [
            | inl e ↦ den_by_word c (first_of (need_at needs.list w.0)).word l (w.0, w.1, inl (ap (λ (z : ℕ). term z (first_of (need_at needs.list w.0)).word) e))
            | inr e ↦ den_by_word c (second_of (need_at needs.list w.0)).word l (w.0, w.1, inr (ap (λ (z : ℕ). term z (second_of (need_at needs.list w.0)).word) e))
          ]
        ]

    pub vector_eq : (c : ℕ) → c < needs.clocks → r c * (rate_at rates c).den ≡ factor (slice_index roots c) * (rate_at rates c).num
    vector_eq c l =
        let d = div-mul_cancel (rate_at rates c).den (den_divides c l) in
        let x : factor (slice_index roots c) / (rate_at rates c).den * (rate_at rates c).den * (rate_at rates c).num ≡ factor (slice_index roots c) * (rate_at rates c).num = ap (λ z. z * (rate_at rates c).num) d in
        ap (λ z. z * (rate_at rates c).den) (at c l) ∙ omega arith

    pub vector_some : (c : ℕ) → 0 < r c
    vector_some c = elim (cases_lt c needs.clocks) [
      | inl l ↦ (let e = at c l in let p = product_some _ _ (quotient_some (factor (slice_index roots c)) (rate_at rates c).den (den_divides c l) (some _ (root_within c l))) (forest.rate c l).num in omega arith)
      | inr l ↦ (let e = beyond c l in omega arith)
    ]

    far : (walk : List ℕ) (c d n m : ℕ) → needs.clocks ≤ c → IsNeedWalk needs.list walk c d n m → (c ≡ d) × (n ≡ m)
    far [] c d n m l h = (h.0, h.1 ∙ sym h.2)
    far (k ∷ walk) c d n m l h =
        let within : c < needs.clocks = elim h.1.5 [ inl w ↦ named_within k c h.0 (inl w.0) | inr w ↦ named_within k c h.0 (inr w.0) ] in
        absurd (omega arith)

    near : (walk : List ℕ) (c d n m : ℕ) → c < needs.clocks → IsNeedWalk needs.list walk c d n m → r d * m ≡ r c * n
    near walk c d n m l h =
        let back = walk_back needs.list walk c d n m h in
        let l' = joined_within d c back l in
        let one : slice_index roots c ≡ slice_index roots d = forest.one c d l l' (walk, n, m, h) in
        let x : r d * (rate_at rates d).den ≡ factor (slice_index roots c) * (rate_at rates d).num = vector_eq d l' ∙ ap (λ z. factor z * (rate_at rates d).num) (sym one) in
        let b = walks_balance needs.list needs.clocks roots parents rates rated.within forest rated.balanced walk c d n m l h in
        cross_back (r c) (r d) (factor (slice_index roots c)) (rate_at rates c).num (rate_at rates c).den (rate_at rates d).num (rate_at rates d).den n m (forest.rate c l).den (forest.rate d l').den (vector_eq c l) x b

    is_vector : IsRateVector needs r
    is_vector = record {
      some = vector_some;
      proportion = λ c d n m walk h. elim (cases_lt c needs.clocks) [
        | inl l ↦ near walk c d n m l h
        | inr l ↦ (let e = far walk c d n m l h in ap (λ z. r z * m) (sym e.0) ∙ ap (λ z. r c * z) (sym e.1))
      ];
      whole = λ c w s.
          let l : c < needs.clocks = elim s.2 [
            | inl e ↦ named_within s.0 c s.1 (inl (ap (λ (t : Term). t.clock) e))
            | inr e ↦ named_within s.0 c s.1 (inr (ap (λ (t : Term). t.clock) e))
          ] in
          let P : ℕ → Type 0 = λ z. (length w.period * (rate_at rates c).den) ∣ z in
          dvd_of_mul-dvd-mul_right (length w.period) (forest.rate c l).den (subst P (sym (vector_eq c l)) (asked_at c w l s));
    }

    below_other : (other : ℕ → ℕ) → IsRateVector needs other → (c : ℕ) → c < needs.clocks → r c ≤ other c
    below_other other v c l =
        let root : ℕ = slice_index roots c in
        let d = (exact root (other root) (root_within c l)).1 (asked other v root) in
        let low : factor root ≤ other root = le_of_dvd (v.some root) d in
        let e = vector_eq c l in
        let f = vector_rate other v c l in
        elim (cases_lt (other c) (r c)) [
          | inr m ↦ m
          | inl m ↦
              let x : (other c + 1) * (rate_at rates c).den ≤ r c * (rate_at rates c).den = mul-le (other c + 1) (rate_at rates c).den (r c) (rate_at rates c).den (omega arith) (omega arith) in
              let y : factor root * (rate_at rates c).num ≤ other root * (rate_at rates c).num = mul-le (factor root) (rate_at rates c).num (other root) (rate_at rates c).num low (omega arith) in
              let some' = (forest.rate c l).den in
              absurd (omega arith)
        ]

    pub least_vector : IsLeastVector needs r
    least_vector = record {
      is = is_vector;
      least = λ other v c. elim (cases_lt c needs.clocks) [
        | inl l ↦ below_other other v c l
        | inr l ↦ (let e = beyond c l in let f = v.some c in omega arith)
      ];
    }
