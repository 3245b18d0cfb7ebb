-- Tops of components, their common period, and the longest prefixes.
use Rattle.std.proofs.Common.{◌≡◌, ℕ, zero, suc, ◌<◌, ◌≤◌, ◌⊎◌, ◌↔◌, max, Bool, true, false, not, ◌||◌, cond, eqb, List, length, inl, inr, sym, ap, ◌∙◌, subst, arith, eq-eqb}
use Rattle.std.specs.Prelude.{slice_index}
use Prim.Native.Nat.{◌∣◌}
use Rattle.std.proofs.Math.Nat.{dvd_refl, le_of_dvd}
use Rattle.std.proofs.lemmas.Bool.{cases_lt, cases_eq, cases_Bool, false≢true, and_parts, and_from, or_cases, eqb-true, eqb-false, ne_eqb, not-true, or_right, or_left}
use Rattle.lucy_need.specs.Meeting.{term}
use Rattle.lucy_need.specs.declared.need.Term.{Term}
use Rattle.lucy_need.specs.declared.need.Need.{Need}
use Rattle.lucy_need.specs.declared.need.Needs.{Needs}
use Rattle.lucy_rates.specs.declared.fraction.Fraction.{Fraction}
use Rattle.lucy_rates.specs.Walks.{first_of, second_of, need_at, AreJoinedClocks}
use Rattle.lucy_rates.specs.Vectors.{IsNamedBySome, IsInUse, IsTop, IsCommonPeriod, IsLongestPrefix}
use Rattle.lucy_rates.specs.Laying.{counts_for, top_to, counts, IsCommonTo, prefix_of, longest_to}
use Rattle.lucy_rates.proofs.Dividing.{IsCollected, collected_both, collected_same, collected_free}
use Rattle.lucy_rates.proofs.Factoring.{AreRated, joined_within, root_within, root_root}

-- whose number counts for a root's top
pub counts_true : (roots : List ℕ) (root c : ℕ) → counts_for roots root c ≡ true → (slice_index roots c ≡ root) × ((c ≡ 0) ⊎ (root ≡ 0 → ⊥))
counts_true roots root c h =
    let w = and_parts (eqb (slice_index roots c) root) (eqb c 0 || not (eqb root 0)) h in (
      eqb-true (slice_index roots c) root w.0,
      elim (or_cases (eqb c 0) (not (eqb root 0)) w.1) [
        | inl e ↦ inl (eqb-true c 0 e)
        | inr e ↦ inr (eqb-false root 0 (not-true (eqb root 0) e))
      ],
    )

pub counts_from : (roots : List ℕ) (root c : ℕ) → slice_index roots c ≡ root → (c ≡ 0) ⊎ (root ≡ 0 → ⊥) → counts_for roots root c ≡ true
counts_from roots root c e h =
    and_from (eqb (slice_index roots c) root) (eqb c 0 || not (eqb root 0)) (eq-eqb (slice_index roots c) root e) (elim h [
      | inl z ↦ or_left (eqb c 0) (not (eqb root 0)) (eq-eqb c 0 z)
      | inr n ↦ or_right (eqb c 0) (not (eqb root 0)) (ap (λ b. not b) (ne_eqb root 0 n))
    ])

pub top_yes : (roots : List ℕ) (v : ℕ → ℕ) (root c : ℕ) → counts_for roots root c ≡ true → top_to roots v root (suc c) ≡ max (top_to roots v root c) (v c)
top_yes roots v root c e = ap (λ b. cond b (max (top_to roots v root c) (v c)) (top_to roots v root c)) e

pub top_no : (roots : List ℕ) (v : ℕ → ℕ) (root c : ℕ) → counts_for roots root c ≡ false → top_to roots v root (suc c) ≡ top_to roots v root c
top_no roots v root c e = ap (λ b. cond b (max (top_to roots v root c) (v c)) (top_to roots v root c)) e

top_rises : (roots : List ℕ) (v : ℕ → ℕ) (root c : ℕ) → top_to roots v root c ≤ top_to roots v root (suc c)
top_rises roots v root c = elim (cases_Bool (counts_for roots root c)) [
  | inl e ↦ (let f = top_yes roots v root c e in omega arith)
  | inr e ↦ (let f = top_no roots v root c e in omega arith)
]

pub top_passed : (roots : List ℕ) (v : ℕ → ℕ) (root upto d : ℕ) → d < upto → counts_for roots root d ≡ true → v d ≤ top_to roots v root upto
top_passed roots v root zero d l h = absurd (omega arith)
top_passed roots v root (suc c) d l h = elim (cases_eq d c) [
  | inl e ↦ (let f = top_yes roots v root c (subst (λ (z : ℕ). counts_for roots root z ≡ true) e h) in let g : v d ≡ v c = ap v e in omega arith)
  | inr n ↦ (let f = top_passed roots v root c d (omega arith) h in let g = top_rises roots v root c in omega arith)
]

pub top_reached : (roots : List ℕ) (v : ℕ → ℕ) (root upto : ℕ) → 0 < top_to roots v root upto → (d : ℕ) × (d < upto) × (counts_for roots root d ≡ true) × (top_to roots v root upto ≡ v d)
top_reached roots v root zero h = absurd (omega arith)
top_reached roots v root (suc c) h = elim (cases_Bool (counts_for roots root c)) [
  | inl e ↦ (let f = top_yes roots v root c e in elim (cases_lt (top_to roots v root c) (v c)) [
    | inl l ↦ (c, omega arith, e, omega arith)
    | inr l ↦ (let r = top_reached roots v root c (omega arith) in (r.0, (let a = r.1 in omega arith), r.2, (let a = r.3 in omega arith)))
  ])
  | inr e ↦ (let f = top_no roots v root c e in let r = top_reached roots v root c (omega arith) in (r.0, (let a = r.1 in omega arith), r.2, f ∙ r.3))
]

module _ (needs : Needs) (roots parents : List ℕ) (rates : List Fraction) (rated : AreRated needs roots parents rates) (r v : ℕ → ℕ) (same : (c : ℕ) → c < needs.clocks → v c ≡ r c) (some : (c : ℕ) → 0 < r c) where
  base_root : (c : ℕ) → c < needs.clocks → AreJoinedClocks needs.list 0 c → slice_index roots c ≡ 0
  base_root c l j = let a = (rated.forest.root c l).least 0 j in omega arith

  root_base : (c : ℕ) → c < needs.clocks → slice_index roots c ≡ 0 → AreJoinedClocks needs.list 0 c
  root_base c l e = subst (λ (z : ℕ). AreJoinedClocks needs.list z c) e (rated.forest.root c l).joined

  own_counts : (c : ℕ) → c < needs.clocks → counts_for roots (slice_index roots c) (slice_index roots c) ≡ true
  own_counts c l = counts_from roots (slice_index roots c) (slice_index roots c) (root_root needs roots parents rates rated c l) (cases_eq (slice_index roots c) 0)

  pub top_some : (c : ℕ) → c < needs.clocks → 0 < top_to roots v (slice_index roots c) needs.clocks
  top_some c l =
      let m = root_within needs roots parents rates rated c l in
      let a = top_passed roots v (slice_index roots c) needs.clocks (slice_index roots c) m (own_counts c l) in
      let b = some (slice_index roots c) in
      let e = same (slice_index roots c) m in
      omega arith

  pub is_top : (c : ℕ) → c < needs.clocks → IsTop needs r c (top_to roots v (slice_index roots c) needs.clocks)
  is_top c l =
      let x = top_reached roots v (slice_index roots c) needs.clocks (top_some c l) in
      let w = counts_true roots (slice_index roots c) x.0 x.2 in
      let e : top_to roots v (slice_index roots c) needs.clocks ≡ r x.0 = x.3 ∙ same x.0 x.1 in
      record {
        base = λ j. elim w.1 [ inl z ↦ e ∙ ap r z | inr n ↦ absurd (n (base_root c l j)) ];
        reached = λ n. (x.0, rated.forest.joined x.0 c x.1 l w.0, e);
        passed = λ n d j.
            let m = joined_within needs roots parents rates rated d c j l in
            let p = top_passed roots v (slice_index roots c) needs.clocks d m (counts_from roots (slice_index roots c) d (rated.forest.one d c m l j) (inr (λ z. n (root_base c l z)))) in
            let f = same d m in
            omega arith;
      }

-- which clocks count
pub counts_use : (b : Bool) (c : ℕ) → (counts b c ≡ true ↔ ((0 < c) ⊎ (b ≡ true)))
counts_use b c = (
  λ h. elim (or_cases (not (eqb c 0)) b h) [ inl e ↦ inl (let n = eqb-false c 0 (not-true (eqb c 0) e) in omega arith) | inr e ↦ inr e ],
  λ h. elim h [ inl l ↦ or_left (not (eqb c 0)) b (ap (λ z. not z) (ne_eqb c 0 (λ e. absurd (omega arith)))) | inr e ↦ or_right (not (eqb c 0)) b e ],
)

pub in_use : (needs : Needs) (b : Bool) (c : ℕ) → (b ≡ true ↔ IsNamedBySome needs.list 0) → c < needs.clocks → (counts b c ≡ true ↔ IsInUse needs c)
in_use needs b c tells l = (
  λ h. elim ((counts_use b c).0 h) [
    | inl m ↦ (l, inl m)
    | inr e ↦ elim (cases_eq c 0) [
      | inl z ↦ (l, inr (subst (IsNamedBySome needs.list) (sym z) (tells.0 e)))
      | inr n ↦ (l, inl (omega arith))
    ]
  ],
  λ u. (counts_use b c).1 (elim u.1 [
    | inl m ↦ inl m
    | inr w ↦ elim (cases_eq c 0) [
      | inl z ↦ inr (tells.1 (subst (IsNamedBySome needs.list) z w))
      | inr n ↦ inl (omega arith)
    ]
  ]),
)

pub common_is : (needs : Needs) (b : Bool) (top : ℕ → ℕ) (period : ℕ) → (b ≡ true ↔ IsNamedBySome needs.list 0) → IsCommonTo b top needs.clocks period → IsCommonPeriod needs top period
common_is needs b top period tells is = record {
  some = is.some;
  of_all = λ c u. (is.exact period).0 (dvd_refl period) c u.0 ((in_use needs b c tells u.0).1 u);
  least = λ n some all. le_of_dvd some ((is.exact n).1 (λ c l e. all c ((in_use needs b c tells l).0 e)));
}

common_one : (b : Bool) (top c : ℕ) → 0 < top → IsCollected (λ n. counts b c ≡ true → top ∣ n)
common_one b top c some = elim (cases_Bool (counts b c)) [
  | inl e ↦ record { number = top; some = some; exact = λ n. (λ d h. d, λ h. h e) }
  | inr e ↦ collected_free (λ n. counts b c ≡ true → top ∣ n) (λ n h. absurd (false≢true (sym e ∙ h)))
]

-- what the first so many clocks ask of a common period, one clock on
pub common_more : (b : Bool) (top : ℕ → ℕ) (c n : ℕ) → ((((d : ℕ) → d < c → counts b d ≡ true → top d ∣ n) × (counts b c ≡ true → top c ∣ n)) ↔ ((d : ℕ) → d < suc c → counts b d ≡ true → top d ∣ n))
common_more b top c n = (
  λ w d l e. elim (cases_eq d c) [ inl z ↦ subst (λ (k : ℕ). top k ∣ n) (sym z) (w.1 (subst (λ (k : ℕ). counts b k ≡ true) z e)) | inr z ↦ w.0 d (omega arith) e ],
  λ h. (λ d l e. h d (omega arith) e, λ e. h c (omega arith) e),
)

pub common_exists : (b : Bool) (top : ℕ → ℕ) (upto : ℕ) → ((c : ℕ) → c < upto → 0 < top c) → IsCollected (λ n. (c : ℕ) → c < upto → counts b c ≡ true → top c ∣ n)
common_exists b top zero some = collected_free _ (λ n c l e. absurd (omega arith))
common_exists b top (suc c) some =
    collected_same (λ n. ((d : ℕ) → d < c → counts b d ≡ true → top d ∣ n) × (counts b c ≡ true → top c ∣ n)) (λ n. (d : ℕ) → d < suc c → counts b d ≡ true → top d ∣ n)
    (λ n. common_more b top c n)
    (collected_both (λ n. (d : ℕ) → d < c → counts b d ≡ true → top d ∣ n) (λ n. counts b c ≡ true → top c ∣ n) (common_exists b top c (λ d l. some d (omega arith))) (common_one b (top c) c (some c (omega arith))))

-- prefixes
prefix_yes : (c : ℕ) (t : Term) → t.clock ≡ c → prefix_of c t ≡ length t.word.prefix
prefix_yes c t e = ap (λ b. cond b (length t.word.prefix) 0) (eq-eqb t.clock c e)

prefix_some : (c : ℕ) (t : Term) → 0 < prefix_of c t → (t.clock ≡ c) × (prefix_of c t ≡ length t.word.prefix)
prefix_some c t h = elim (cases_Bool (eqb t.clock c)) [
  | inl e ↦ (eqb-true t.clock c e, ap (λ b. cond b (length t.word.prefix) 0) e)
  | inr e ↦ absurd (let z : prefix_of c t ≡ 0 = ap (λ b. cond b (length t.word.prefix) 0) e in omega arith)
]

longest_passed : (needs : List Need) (c upto k : ℕ) → k < upto → (prefix_of c (first_of (need_at needs k)) ≤ longest_to needs c upto) × (prefix_of c (second_of (need_at needs k)) ≤ longest_to needs c upto)
longest_passed needs c zero k l = absurd (omega arith)
longest_passed needs c (suc m) k l = elim (cases_eq k m) [
  | inl e ↦ (
    (let a : prefix_of c (first_of (need_at needs k)) ≡ prefix_of c (first_of (need_at needs m)) = ap (λ z. prefix_of c (first_of (need_at needs z))) e in omega arith),
    (let a : prefix_of c (second_of (need_at needs k)) ≡ prefix_of c (second_of (need_at needs m)) = ap (λ z. prefix_of c (second_of (need_at needs z))) e in omega arith),
  )
  | inr n ↦ (let r = longest_passed needs c m k (omega arith) in ((let a = r.0 in omega arith), (let a = r.1 in omega arith)))
]

longest_reached : (needs : List Need) (c upto : ℕ) → 0 < longest_to needs c upto → (k : ℕ) × (k < upto) × ((longest_to needs c upto ≡ prefix_of c (first_of (need_at needs k))) ⊎ (longest_to needs c upto ≡ prefix_of c (second_of (need_at needs k))))
longest_reached needs c zero h = absurd (omega arith)
longest_reached needs c (suc m) h =
    elim (cases_lt (max (longest_to needs c m) (prefix_of c (first_of (need_at needs m)))) (prefix_of c (second_of (need_at needs m)))) [
      | inl l ↦ (m, omega arith, inr (omega arith))
      | inr l ↦ elim (cases_lt (longest_to needs c m) (prefix_of c (first_of (need_at needs m)))) [
        | inl p ↦ (m, omega arith, inl (omega arith))
        | inr p ↦
            let r = longest_reached needs c m (omega arith) in
            (r.0, (let a = r.1 in omega arith), elim r.2 [ inl e ↦ inl (omega arith) | inr e ↦ inr (omega arith) ])
      ]
    ]

pub is_longest : (needs : Needs) (c : ℕ) → IsLongestPrefix needs c (longest_to needs.list c (length needs.list))
is_longest needs c = record {
  passed = λ w s.
      let p = longest_passed needs.list c (length needs.list) s.0 s.1 in
      elim s.2 [
        | inl e ↦ (let a = prefix_yes c (first_of (need_at needs.list s.0)) (ap (λ (z : Term). z.clock) e) in let b : length (first_of (need_at needs.list s.0)).word.prefix ≡ length w.prefix = ap (λ (z : Term). length z.word.prefix) e in let d = p.0 in omega arith)
        | inr e ↦ (let a = prefix_yes c (second_of (need_at needs.list s.0)) (ap (λ (z : Term). z.clock) e) in let b : length (second_of (need_at needs.list s.0)).word.prefix ≡ length w.prefix = ap (λ (z : Term). length z.word.prefix) e in let d = p.1 in omega arith)
      ];
  reached = λ some.
      let r = longest_reached needs.list c (length needs.list) some in
      elim r.2 [
        | inl e ↦ (let t = prefix_some c (first_of (need_at needs.list r.0)) (omega arith) in ((first_of (need_at needs.list r.0)).word, (r.0, r.1, inl (ap (λ (z : ℕ). term z (first_of (need_at needs.list r.0)).word) t.0)), e ∙ t.1))
        | inr e ↦ (let t = prefix_some c (second_of (need_at needs.list r.0)) (omega arith) in ((second_of (need_at needs.list r.0)).word, (r.0, r.1, inr (ap (λ (z : ℕ). term z (second_of (need_at needs.list r.0)).word) t.0)), e ∙ t.1))
      ];
}

longest_below : (needs : Needs) (c p q : ℕ) → IsLongestPrefix needs c p → IsLongestPrefix needs c q → p ≤ q
longest_below needs c p q h k = elim (cases_lt 0 p) [
  | inl l ↦ (let r = h.reached l in let a = k.passed r.0 r.1 in let e = r.2 in omega arith)
  | inr l ↦ omega arith
]

pub longest_one : (needs : Needs) (c p q : ℕ) → IsLongestPrefix needs c p → IsLongestPrefix needs c q → p ≡ q
longest_one needs c p q h k = let a = longest_below needs c p q h k in let b = longest_below needs c q p k h in omega arith
