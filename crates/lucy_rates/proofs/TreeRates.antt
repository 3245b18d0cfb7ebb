-- Each clock has one rate by its tree.
use Rattle.std.proofs.Common.{◌≡◌, ℕ, ◌+◌, ◌*◌, ◌/◌, ◌<◌, ◌≤◌, ◌⊎◌, zero, suc, List, [], ◌∷◌, ◌++◌, length, get_or, set, take, cond, eqb, inl, inr, sym, ap, ◌∙◌, subst, refl, arith}
use Rattle.std.specs.Prelude.{replicate}
use Rattle.std.specs.List.{All, Contains}
use Rattle.std.proofs.Math.Nat.{eq_of_mul-eq-mul_right, pos_of_dvd_of_pos}
use Rattle.std.proofs.lemmas.Bool.{cases_Bool, cases_lt, cases_eq, eq-eqb, eqb-true}
use Rattle.std.proofs.lemmas.List.{get_or-set_same, get_or-set_other, length-set, length-replicate, get_or-replicate, take_all, take_more}
use Rattle.std.proofs.lemmas.List.Elements.{All-nil, All-weaker, All-from_recursion, Contains-get_or, Contains-push_cases}
use Rattle.lucy_word.proofs.Multiples.{gcd_exists}
use Rattle.lucy_need.specs.Meeting.{IsWithin}
use Rattle.lucy_need.specs.Stored.{HasWords}
use Rattle.lucy_need.specs.declared.need.Need.{Need}
use Rattle.lucy_rates.specs.declared.fraction.Fraction.{Fraction}
use Rattle.lucy_rates.specs.Walks.{first_of, second_of, need_at, no_need, over, under, LeadsBetween, IsNeedWalk, IsRoot, AreJoinedClocks}
use Rattle.lucy_rates.specs.Trees.{AreEven, IsNamedBy, IsReachedByTree, IsTree, IsTreeRate, TreeRateLaw}
use Rattle.lucy_rates.specs.Growing.{no_number, IsNear, IsGrowing}
use Rattle.lucy_rates.proofs.Growing.{both_within, reached_cases}
use Rattle.lucy_rates.proofs.Walking.{IsLevelBy, level_walk_by}
use Rattle.lucy_rates.proofs.OneTree.{one_tree}
use Rattle.lucy_rates.proofs.OneWay.{IsTwig, twig_of, one_root}
use Rattle.lucy_rates.proofs.RatedTree.{IsPath, path_on}
use Rattle.lucy_rates.proofs.Completing.{left, complete, contained}
use Rattle.lucy_rates.proofs.Planting.{joined_back}
use Rattle.lucy_rates.proofs.Gauss.{apart, reduced_same}
use Rattle.lucy_rates.proofs.Assembling.{some_factor, some_walk, some_den, same_rate}
use Rattle.lucy_rates.proofs.Factoring.{product_some}

none : (k : ℕ) → Contains [] k → ⊥
none k i = (let l = i.1 in absurd (omega arith))

-- whether the tree reaches a clock
module _ (needs : List Need) (root : ℕ) where
  named_or : (need : Need) (c : ℕ) → IsNamedBy c need ⊎ (IsNamedBy c need → ⊥)
  named_or need c = elim (cases_eq (first_of need).clock c) [
    | inl e ↦ inl (inl e)
    | inr n ↦ elim (cases_eq (second_of need).clock c) [
      | inl e ↦ inl (inr e)
      | inr m ↦ inr (λ h. elim h [ inl e ↦ absurd (omega arith) | inr e ↦ absurd (omega arith) ])
    ]
  ]

  abbrev IsAmong : List ℕ → ℕ → Type 0
  IsAmong tree c = (k : ℕ) × Contains tree k × IsNamedBy c (need_at needs k)

  behind : (t : ℕ) (tree : List ℕ) (c : ℕ) → (IsNamedBy c (need_at needs t) → ⊥) → (IsAmong tree c → ⊥) → IsAmong (t ∷ tree) c → ⊥
  behind t tree c out none (k, (zero, l, e), n) = out (subst (λ (z : ℕ). IsNamedBy c (need_at needs z)) (sym e) n)
  behind t tree c out none (k, (suc i, l, e), n) = none (k, (i, (omega (arith, l)), e), n)

  among_or : (tree : List ℕ) (c : ℕ) → IsAmong tree c ⊎ (IsAmong tree c → ⊥)
  among_or [] c = inr (λ h. none h.0 h.1)
  among_or (t ∷ tree) c = elim (named_or (need_at needs t) c) [
    | inl n ↦ inl (t, (0, (omega arith), refl), n)
    | inr out ↦ elim (among_or tree c) [
      | inl h ↦ inl (h.0, (suc h.1.0, (let l = h.1.1 in omega arith), h.1.2), h.2)
      | inr no_more ↦ inr (behind t tree c out no_more)
    ]
  ]

  reached_or : (tree : List ℕ) (c : ℕ) → IsReachedByTree needs root tree c ⊎ (IsReachedByTree needs root tree c → ⊥)
  reached_or tree c = elim (cases_eq c root) [
    | inl e ↦ inl (inl e)
    | inr n ↦ elim (among_or tree c) [
      | inl h ↦ inl (inr h)
      | inr m ↦ inr (λ r. elim r [ inl e ↦ absurd (omega arith) | inr h ↦ m h ])
    ]
  ]

  least : (tree : List ℕ) (n : ℕ) →
      ((r : ℕ) × (r < n) × IsReachedByTree needs root tree r × ((d : ℕ) → d < r → IsReachedByTree needs root tree d → ⊥)) ⊎ ((d : ℕ) → d < n →
      IsReachedByTree needs root tree d → ⊥)
  least tree zero = inr (λ d l. absurd (omega arith))
  least tree (suc n) = elim (least tree n) [
    | inl h ↦ inl (h.0, (let l = h.1 in omega arith), h.2, h.3)
    | inr out ↦ elim (reached_or tree n) [
      | inl r ↦ inl (n, (omega arith), r, out)
      | inr m ↦ inr (λ d l r. elim (cases_lt d n) [
        | inl low ↦ out d low r
        | inr high ↦
            m (subst (IsReachedByTree needs root tree) (let e : d ≡ n = omega arith in e) r)
      ])
    ]
  ]

  module _ (tree : List ℕ) (h : IsTree needs root tree) where
    reached_on : (k c e a b : ℕ) → k < length needs → LeadsBetween (need_at needs k) c e a b → IsReachedByTree needs root tree c →
        IsReachedByTree needs root tree e
    reached_on k c e a b l (inl w) r = elim (reached_or tree e) [
      | inl there ↦ there
      | inr out ↦ absurd (h.done k l (inl (
        subst (IsReachedByTree needs root tree) (sym w.0) r,
        λ y. out (subst (IsReachedByTree needs root tree) w.1 y),
      )))
    ]
    reached_on k c e a b l (inr w) r = elim (reached_or tree e) [
      | inl there ↦ there
      | inr out ↦ absurd (h.done k l (inr (
        subst (IsReachedByTree needs root tree) (sym w.0) r,
        λ y. out (subst (IsReachedByTree needs root tree) w.1 y),
      )))
    ]

    -- the tree reaches what a walk does
    walk_reached : (walk : List ℕ) (c d num den : ℕ) → IsReachedByTree needs root tree c → IsNeedWalk needs walk c d num den →
        IsReachedByTree needs root tree d
    walk_reached [] c d num den r w = subst (IsReachedByTree needs root tree) w.0 r
    walk_reached (k ∷ walk) c d num den r w =
        let s = w.1 in
        walk_reached walk s.0 d s.3 s.4 (reached_on k c s.0 s.1 s.2 w.0 s.5 r) s.6

    joined_reached : (d : ℕ) → AreJoinedClocks needs root d → IsReachedByTree needs root tree d
    joined_reached d j = walk_reached j.0 root d j.1 j.2 (inl refl) j.3

    twig_path : (front : List ℕ) (k old new c : ℕ) → IsTwig needs root front k old new → k < length needs → Contains tree k →
        IsPath needs root tree old → IsPath needs root tree new → IsNamedBy c (need_at needs k) → IsPath needs root tree c
    twig_path front k old new c twig l i to on (inl e) = elim twig.ends [
      | inl w ↦ subst (IsPath needs root tree) (sym w.0 ∙ e) to
      | inr w ↦ subst (IsPath needs root tree) (sym w.0 ∙ e) on
    ]
    twig_path front k old new c twig l i to on (inr e) = elim twig.ends [
      | inl w ↦ subst (IsPath needs root tree) (sym w.1 ∙ e) on
      | inr w ↦ subst (IsPath needs root tree) (sym w.1 ∙ e) to
    ]

    -- and a path leads to all that it reaches
    path_front : (n : ℕ) → n ≤ length tree → (c : ℕ) → IsReachedByTree needs root (take n tree) c → IsPath needs root tree c
    path_front zero l c (inl e) =
        subst (IsPath needs root tree) (sym e) (record {
          walk = [];
          num = 1;
          den = 1;
          along = (refl, refl, refl);
          in_tree = All-nil (Contains tree);
        })
    path_front zero l c (inr r) = absurd (none r.0 r.1)
    path_front (suc n) l c r =
        let front = take n tree in
        let k = get_or tree n 0 in
        let i : Contains tree k = Contains-get_or tree n 0 (omega arith) in
        let inside = contained needs tree h.within k i in
        let t = twig_of needs root front k (h.joins n (omega arith)) in
        let e : suc n ≡ n + 1 = omega arith in
        let grown = ap (λ z. take z tree) e ∙ take_more tree n 0 (omega arith) in
        elim (reached_cases needs root front k c (subst (λ (z : List ℕ). IsReachedByTree needs root z c) grown r)) [
          | inl before ↦ path_front n (omega arith) c before
          | inr n_by ↦
              let to = path_front n (omega arith) t.0 t.2.there in
              let on : IsPath needs root tree t.1 = elim t.2.ends [
                | inl w ↦ path_on needs root tree t.0 t.1 k (over (need_at needs k)) (under (need_at needs k)) to inside i (inl
                    (w.0, w.1, refl, refl))
                | inr w ↦ path_on needs root tree t.0 t.1 k (under (need_at needs k)) (over (need_at needs k)) to inside i (inr
                    (w.1, w.0, refl, refl))
              ] in
              twig_path front k t.0 t.1 c t.2 inside i to on n_by
        ]

    path_of : (c : ℕ) → IsReachedByTree needs root tree c → IsPath needs root tree c
    path_of c r = path_front (length tree) (omega arith) c (subst (λ (z : List ℕ). IsReachedByTree needs root z c) (sym (take_all
        (length tree) tree (omega arith))) r)

  -- rates of all clocks, by which the needs of the tree are level
  record AreLevel (tree : List ℕ) : Type 0 where
    rate : ℕ → Fraction
    some : (c : ℕ) → (0 < (rate c).num) × (0 < (rate c).den)
    level : (k : ℕ) → Contains tree k → IsLevelBy needs rate k

  abbrev with_rate : (ℕ → Fraction) → ℕ → Fraction → ℕ → Fraction
  with_rate rate new next c = cond (eqb c new) next (rate c)

  with_new : (rate : ℕ → Fraction) (new : ℕ) (next : Fraction) (c : ℕ) → c ≡ new → with_rate rate new next c ≡ next
  with_new rate new next c e = ap (λ b. cond b next (rate c)) (eq-eqb c new e)

  with_old : (rate : ℕ → Fraction) (new : ℕ) (next : Fraction) (c : ℕ) → (c ≡ new → ⊥) → with_rate rate new next c ≡ rate c
  with_old rate new next c n = elim (cases_Bool (eqb c new)) [
    | inl e ↦ absurd (n (eqb-true c new e))
    | inr e ↦ ap (λ b. cond b next (rate c)) e
  ]

  abbrev IsEven : Need → Fraction → Fraction → Type 0
  IsEven need r s = AreEven need r.num r.den s.num s.den

  level_from : (rate : ℕ → Fraction) (k : ℕ) (r s : Fraction) → ((c : ℕ) → 0 < (rate c).den) →
      rate (first_of (need_at needs k)).clock ≡ r → rate (second_of (need_at needs k)).clock ≡ s → IsEven (need_at needs k) r s →
      IsLevelBy needs rate k
  level_from rate k r s some e f even = record {
    even = subst (λ (x : Fraction). IsEven (need_at needs k) x (rate (second_of (need_at needs k)).clock)) (sym e) (subst (λ
        (x : Fraction). IsEven (need_at needs k) r x) (sym f) even);
    first = some (first_of (need_at needs k)).clock;
    second = some (second_of (need_at needs k)).clock;
  }

  module _ (words : All HasWords needs) where
    more_level : (front : List ℕ) (k old new : ℕ) → IsTwig needs root front k old new → k < length needs → AreLevel front →
        AreLevel (front ++ k ∷ [])
    more_level front k old new twig l a =
        let need = need_at needs k in
        let f = some_factor need (words k no_need l) in
        let r : Fraction = a.rate old in
        let ahead : Fraction = record { num = r.num * over need; den = r.den * under need } in
        let behind : Fraction = record { num = r.num * under need; den = r.den * over need } in
        let apart : old ≡ new → ⊥ = λ e. twig.fresh (subst (IsReachedByTree needs root front) e twig.there) in
        let with_next : (next : Fraction) → ((0 < next.num) × (0 < next.den)) → IsLevelBy needs (with_rate a.rate new next) k →
        AreLevel (front ++ k ∷ []) = λ next some last. (
        let all : (c : ℕ) → (0 < (with_rate a.rate new next c).num) × (0 < (with_rate a.rate new next c).den) = λ c. elim (cases_eq c new) [
          | inl e ↦ subst (λ (x : Fraction). (0 < x.num) × (0 < x.den)) (sym (with_new a.rate new next c e)) some
          | inr n ↦ subst (λ (x : Fraction). (0 < x.num) × (0 < x.den)) (sym (with_old a.rate new next c (λ e. absurd (omega arith))))
              (a.some c)
        ] in
        record {
          rate = with_rate a.rate new next;
          some = all;
          level = λ m i. elim (Contains-push_cases front k m i) [
            | inl there ↦
                let s = (first_of (need_at needs m)).clock in
                let t = (second_of (need_at needs m)).clock in
                let out_s : s ≡ new → ⊥ = λ e. twig.fresh (subst (IsReachedByTree needs root front) e (inr (m, there, inl refl))) in
                let out_t : t ≡ new → ⊥ = λ e. twig.fresh (subst (IsReachedByTree needs root front) e (inr (m, there, inr refl))) in
                level_from (with_rate a.rate new next) m (a.rate s) (a.rate t) (λ c. (all c).1) (with_old a.rate new next s out_s)
                (with_old a.rate new next t out_t) (a.level m there).even
            | inr same ↦ subst (λ (z : ℕ). IsLevelBy needs (with_rate a.rate new next) z) same last
          ];
        }) in
        let good : (next : Fraction) → ((0 < next.num) × (0 < next.den)) → (c : ℕ) →
        0 < (with_rate a.rate new next c).den = λ next some c. elim (cases_eq c new) [
          | inl e ↦ subst (λ (x : Fraction). 0 < x.den) (sym (with_new a.rate new next c e)) some.1
          | inr n ↦ subst (λ (x : Fraction). 0 < x.den) (sym (with_old a.rate new next c (λ e. absurd (omega arith)))) (a.some c).1
        ] in
        elim twig.ends [
          | inl w ↦
              let some : (0 < ahead.num) × (0 < ahead.den) =
              (product_some r.num (over need) (a.some old).0 f.0, product_some r.den (under need) (a.some old).1 f.1) in
              with_next ahead some (level_from (with_rate a.rate new ahead) k r ahead (good ahead some)
              (ap (with_rate a.rate new ahead) w.0
              ∙ with_old a.rate new ahead old apart) (with_new a.rate new ahead (second_of need).clock w.1)
              (let e : r.num * (r.den * under need) * over need ≡ r.num * over need * r.den * under need = omega arith in e))
          | inr w ↦
              let some : (0 < behind.num) × (0 < behind.den) =
              (product_some r.num (under need) (a.some old).0 f.1, product_some r.den (over need) (a.some old).1 f.0) in
              with_next behind some (level_from (with_rate a.rate new behind) k behind r (good behind some)
              (with_new a.rate new behind (first_of need).clock w.0) (ap (with_rate a.rate new behind) w.1
              ∙ with_old a.rate new behind old apart)
              (let e : r.num * under need * r.den * over need ≡ r.num * (r.den * over need) * under need = omega arith in e))
        ]

    level_front : (tree : List ℕ) → IsTree needs root tree → (n : ℕ) → n ≤ length tree → AreLevel (take n tree)
    level_front tree h zero l =
        record { rate = λ c. record { num = 1; den = 1 }; some = λ c. (omega arith, omega arith); level = λ k i. absurd (none k i) }
    level_front tree h (suc n) l =
        let e : suc n ≡ n + 1 = omega arith in
        let t = twig_of needs root (take n tree) (get_or tree n 0) (h.joins n (omega arith)) in
        subst AreLevel (sym (ap (λ z. take z tree) e ∙ take_more tree n 0 (omega arith)))
        (more_level (take n tree) (get_or tree n 0) t.0 t.1 t.2 (h.within n (omega arith)) (level_front tree h n (omega arith)))

    levels : (tree : List ℕ) → IsTree needs root tree → AreLevel tree
    levels tree h = subst AreLevel (take_all (length tree) tree (omega arith)) (level_front tree h (length tree) (omega arith))

-- two walks with the same ends, by rates
cross : (u v a b x y : ℕ) → 0 < u → 0 < v → u * b ≡ v * a → u * y ≡ v * x → a * y ≡ x * b
cross u v a b x y some_u some_v e f =
    let p : u * b * (v * x) ≡ v * a * (v * x) = ap (λ z. z * (v * x)) e in
    let q : u * y * (v * a) ≡ v * x * (v * a) = ap (λ z. z * (v * a)) f in
    let g : a * y * (u * v) ≡ x * b * (u * v) = omega arith in
    eq_of_mul-eq-mul_right (u * v) (product_some u v some_u some_v) (a * y) (x * b) g

other_walk : (a b x y m e : ℕ) → 0 < y → a * y ≡ x * b → m * y ≡ x * e → m * b ≡ e * a
other_walk a b x y m e some f g =
    let p : m * y * b ≡ x * e * b = ap (λ z. z * b) g in
    let q : a * y * e ≡ x * b * e = ap (λ z. z * e) f in
    let r : m * b * y ≡ e * a * y = omega arith in
    eq_of_mul-eq-mul_right y some (m * b) (e * a) r

rate_one : (needs : List Need) (c num den n d : ℕ) → All HasWords needs → IsTreeRate needs c num den → IsTreeRate needs c n d →
    (num ≡ n) × (den ≡ d)
rate_one needs c num den n d words p q =
    let root : p.root ≡ q.root = one_root needs p.root q.root c p.is_root q.is_root in
    let tree : p.tree ≡ q.tree = one_tree needs q.root p.tree q.tree (subst (λ (r : ℕ). IsTree needs r p.tree) root p.is_tree) q.is_tree in
    let along : IsNeedWalk needs p.walk q.root c p.a p.b = subst (λ (r : ℕ). IsNeedWalk needs p.walk r c p.a p.b) root p.along in
    let inside : All (Contains q.tree) p.walk = subst (λ (t : List ℕ). All (Contains t) p.walk) tree p.in_tree in
    let a = levels needs q.root words q.tree q.is_tree in
    let level : (walk : List ℕ) → All (Contains q.tree) walk →
    All (IsLevelBy needs a.rate) walk =
    λ walk all. All-weaker (Contains q.tree) (IsLevelBy needs a.rate) (λ k i. a.level k i) walk all in
    let e = level_walk_by needs a.rate p.walk q.root c p.a p.b (level p.walk inside) along in
    let f = level_walk_by needs a.rate q.walk q.root c q.a q.b (level q.walk q.in_tree) q.along in
    let u = product_some (a.rate c).num (a.rate q.root).den (a.some c).0 (a.some q.root).1 in
    let v = product_some (a.rate q.root).num (a.rate c).den (a.some q.root).0 (a.some c).1 in
    let both = cross _ _ p.a p.b q.a q.b u v e f in
    let some_b = (some_walk needs words p.walk q.root c p.a p.b along).1 in
    let some_y = (some_walk needs words q.walk q.root c q.a q.b q.along).1 in
    let k : n * p.b ≡ d * p.a = other_walk p.a p.b q.a q.b n d some_y both q.same in
    same_rate num den p.a p.b n d p.lowest q.lowest some_b (some_den n d q.a q.b q.lowest some_y q.same) p.same k

module _ (needs : List Need) (clocks : ℕ) (within : All (IsWithin clocks) needs) (few : clocks ≤ no_number) where
  abbrev begun : ℕ → List ℕ
  begun root = set (replicate clocks no_number) root root

  near : (root d : ℕ) → root < clocks → d < clocks → IsNear (begun root) root d
  near root d l m =
      let size = length-replicate clocks no_number in
      elim (cases_eq d root) [
        | inl e ↦ inr (ap (λ z. get_or (begun root) z 0) e ∙ get_or-set_same (replicate clocks no_number) root root 0 (omega arith))
        | inr n ↦ inl (get_or-set_other (replicate clocks no_number) root d root 0 (omega arith) ∙ get_or-replicate clocks d no_number 0 m)
      ]

  growing : (root : ℕ) → root < clocks → IsGrowing needs clocks root [] 0 (begun root)
  growing root l = record {
    within = λ i m. absurd (omega arith);
    joins = λ i m. absurd (omega arith);
    first = λ i k m. absurd (omega arith);
    below = λ k m. absurd (omega arith);
    reached = λ c m. (
      λ e. elim (cases_eq c root) [
        | inl z ↦ inl z
        | inr n ↦ (let z = get_or-set_other (replicate clocks no_number) root c root 0 (omega arith)
            ∙ get_or-replicate clocks c no_number 0 m in absurd (omega arith))
      ],
      λ r. elim r [
        | inl z ↦ (let size = length-replicate clocks no_number in
            ap (λ x. get_or (begun root) x 0) z ∙ get_or-set_same (replicate clocks no_number) root root 0 (omega arith))
        | inr h ↦ absurd (none h.0 h.1)
      ],
    );
    apart = λ k m x. near root (second_of (need_at needs k)).clock l (both_within clocks (need_at needs k) (within k no_need m)).1;
    apart_too = λ k m x. near root (first_of (need_at needs k)).clock l (both_within clocks (need_at needs k) (within k no_need m)).0;
  }

  tree_of : (root : ℕ) → root < clocks → (tree : List ℕ) × IsTree needs root tree
  tree_of root l =
      let size = length-set (replicate clocks no_number) root root ∙ length-replicate clocks no_number in
      let w = complete (left (begun root) (length needs) 0 + 1) needs clocks root [] 0 (begun root) (growing root l) size (λ e. absurd
      (omega arith)) within (omega arith) in
      (w.all, w.is_tree)

  root_of : (c : ℕ) → c < clocks → (r : ℕ) × (r < clocks) × IsRoot needs r c
  root_of c l =
      let t = tree_of c l in
      elim (least needs c t.0 (suc c)) [
        | inl h ↦
            let p = path_of needs c t.0 t.1 h.0 h.2 in
            let low = h.1 in (
              h.0,
              (omega arith),
              record {
                joined = joined_back needs c h.0 (p.walk, p.num, p.den, p.along);
                least = λ d j. elim (cases_lt d h.0) [
                  | inl m ↦
                      absurd (h.3 d m (joined_reached needs c t.0 t.1 d (joined_back needs d c j)))
                  | inr m ↦ m
                ];
              },
            )
        | inr out ↦ absurd (out c (omega arith) (inl refl))
      ]

  has_rate : (c : ℕ) → All HasWords needs → c < clocks → (num : ℕ) × (den : ℕ) × IsTreeRate needs c num den
  has_rate c words l =
      let r = root_of c l in
      let t = tree_of r.0 r.1 in
      let p = path_of needs r.0 t.0 t.1 c (joined_reached needs r.0 t.0 t.1 c r.2.joined) in
      let g = gcd_exists (p.den + 1) p.num p.den (omega arith) in
      let some = some_walk needs words p.walk r.0 c p.num p.den p.along in (
        p.num / g.0,
        p.den / g.0,
        record {
          root = r.0;
          tree = t.0;
          is_root = r.2;
          is_tree = t.1;
          walk = p.walk;
          a = p.num;
          b = p.den;
          along = p.along;
          in_tree = p.in_tree;
          same = reduced_same p.num p.den g.0 g.1;
          lowest = apart p.num p.den g.0 g.1 (pos_of_dvd_of_pos g.1.0 some.0);
        },
      )

pub tree_rate_law : TreeRateLaw
tree_rate_law needs c proper stored few l =
    let within = All-from_recursion (IsWithin needs.clocks) needs.list proper.within in
    let words = All-from_recursion HasWords needs.list stored in
    let r = has_rate needs.list needs.clocks within (omega arith) c words l in
    (r.0, r.1, r.2, λ n d k. rate_one needs.list c n d r.0 r.1 words k r.2)
