-- One more tree beside those that are done.
use Rattle.std.proofs.Common.{◌≡◌, ℕ, ◌+◌, ◌*◌, ◌<◌, ◌≤◌, ◌⊎◌, List, [], ◌∷◌, length, get_or, set, cond, eqb, inl, inr, sym, ap, ◌∙◌, subst, refl, arith}
use Rattle.std.specs.List.{All, Contains}
use Rattle.std.proofs.lemmas.Bool.{cases_lt, cases_eq}
use Rattle.std.proofs.lemmas.Bool.Decides.{eqb_tells}
use Rattle.std.proofs.lemmas.List.{get_or-set_same, get_or-set_other, length-set}
use Rattle.std.proofs.lemmas.List.Sums.{count_by-le-length}
use Rattle.std.proofs.Math.ListN.{get_or-eq_default}
use Rattle.lucy_need.specs.Meeting.{IsWithin}
use Rattle.lucy_need.specs.declared.need.Need.{Need}
use Rattle.lucy_rates.specs.declared.fraction.Fraction.{Fraction}
use Rattle.lucy_rates.specs.Walks.{first_of, second_of, need_at, no_need, over, under, IsNeedWalk, AreJoinedClocks, IsRoot}
use Rattle.lucy_rates.specs.Trees.{IsTree, IsReachedByTree, IsNamedBy, HasLargeRate}
use Rattle.lucy_rates.specs.Forests.{rate_at, no_rate, IsRateFraction}
use Rattle.lucy_rates.specs.Growing.{no_number, IsNear, IsGrowing, IsUp, IsRated, AreKept, ArePlanted, AreDeep, HasLargeFrom}
use Rattle.lucy_rates.proofs.Growing.{both_within, one_fewer}
use Rattle.lucy_rates.proofs.Walking.{walk_back}
use Rattle.lucy_rates.proofs.RatedTree.{path_to}
use Rattle.lucy_rates.proofs.Completing.{contained}
use Rattle.lucy_rates.proofs.Carrying.{joined_on}

-- what is the same at both ends of each need is the same at both ends of a walk
pub same_along : (needs : List Need) (f : ℕ → ℕ) → ((k : ℕ) → k < length needs → f (first_of (need_at needs k)).clock ≡ f (second_of (need_at needs k)).clock) →
    (walk : List ℕ) (c d num den : ℕ) → IsNeedWalk needs walk c d num den → f c ≡ f d
same_along needs f apart [] c d num den h = ap f h.0
same_along needs f apart (m ∷ walk) c d num den h =
    let r = h.1 in
    let rest = same_along needs f apart walk r.0 d r.3 r.4 r.6 in
    elim r.5 [
      | inl w ↦ sym (ap f w.0) ∙ apart m h.0 ∙ ap f w.1 ∙ rest
      | inr w ↦ sym (ap f w.0) ∙ sym (apart m h.0) ∙ ap f w.1 ∙ rest
    ]

pub joined_back : (needs : List Need) (c d : ℕ) → AreJoinedClocks needs c d → AreJoinedClocks needs d c
joined_back needs c d h = (_, h.2, h.1, walk_back needs h.0 c d h.1 h.2 h.3)

-- the rates of a tree stay where its clocks keep all
rated_kept : (needs : List Need) (root : ℕ) (tree p d p' d' : List ℕ) (x x' : List Fraction) → IsRated needs root tree p d x →
    ((c : ℕ) → IsReachedByTree needs root tree c → get_or p' c 0 ≡ get_or p c 0) → ((c : ℕ) → IsReachedByTree needs root tree c → get_or d' c 0 ≡ get_or d c 0) → ((c : ℕ) → IsReachedByTree needs root tree c → rate_at x' c ≡ rate_at x c) →
    IsRated needs root tree p' d' x'
rated_kept needs root tree p d p' d' x x' h kp kd kx = record {
  rate = λ c r. subst IsRateFraction (sym (kx c r)) (h.rate c r);
  num = ap (λ (z : Fraction). z.num) (kx root (inl refl)) ∙ h.num;
  den = ap (λ (z : Fraction). z.den) (kx root (inl refl)) ∙ h.den;
  even = λ k i.
      (let s = (first_of (need_at needs k)).clock in
      let t = (second_of (need_at needs k)).clock in
      let P : Fraction → Fraction → Type 0 = λ y z. y.num * z.den * over (need_at needs k) ≡ z.num * y.den * under (need_at needs k) in
      subst (λ (y : Fraction). P y (rate_at x' t)) (sym (kx s (inr (k, i, inl refl)))) (subst (λ (z : Fraction). P (rate_at x s) z) (sym (kx t (inr (k, i, inr refl)))) (h.even k i)));
  top = kd root (inl refl) ∙ h.top;
  up = λ c r n.
      (let u = h.up c r n in
      let k = get_or p c 0 in
      let P : ℕ → Type 0 = λ z. Contains tree z × ((((first_of (need_at needs z)).clock ≡ c) × (get_or d' (second_of (need_at needs z)).clock 0 + 1 ≡ get_or d' c 0))
      ⊎ (((second_of (need_at needs z)).clock ≡ c) × (get_or d' (first_of (need_at needs z)).clock 0 + 1 ≡ get_or d' c 0))) in
      let here : P k = (
        u.in_tree,
        elim u.one_up [
          | inl w ↦ inl (w.0, ap (λ z. z + 1) (kd (second_of (need_at needs k)).clock (inr (k, u.in_tree, inr refl))) ∙ w.1 ∙ sym (kd c r))
          | inr w ↦ inr (w.0, ap (λ z. z + 1) (kd (first_of (need_at needs k)).clock (inr (k, u.in_tree, inl refl))) ∙ w.1 ∙ sym (kd c r))
        ],
      ) in
      let there = subst P (sym (kp c r)) here in
      let up : IsUp needs tree p' d' c = record { in_tree = there.0; one_up = there.1 } in up);
}

-- all that a tree reaches has its root
pub reached_root : (needs : List Need) (clocks at : ℕ) (tree : ℕ → List ℕ) (roots parents depths : List ℕ) (rates : List Fraction) → ArePlanted needs clocks at tree roots parents depths rates →
    (r : ℕ) → r < clocks → get_or roots r 0 ≡ r → (c : ℕ) → IsReachedByTree needs r (tree r) c → get_or roots c 0 ≡ r
reached_root needs clocks at tree roots parents depths rates h r l e c reached =
    let path = path_to needs r (tree r) parents depths rates (h.rated r l e) (contained needs (tree r) (h.is_tree r l e).within) (get_or depths c 0 + 1) c (omega arith) reached in
    sym (same_along needs (λ x. get_or roots x 0) h.apart path.walk r c path.num path.den path.along) ∙ e

-- no clock of the component stands below a clock that has no root while all below it have one
pub root_least : (needs : List Need) (clocks root : ℕ) (tree : ℕ → List ℕ) (roots parents depths : List ℕ) (rates : List Fraction) → ArePlanted needs clocks root tree roots parents depths rates → get_or roots root 0 ≡ no_number →
    (d : ℕ) → AreJoinedClocks needs d root → root ≤ d
root_least needs clocks root tree roots parents depths rates h none d joined = elim (cases_lt d root) [
  | inl l ↦ absurd (h.done d l (same_along needs (λ x. get_or roots x 0) h.apart joined.0 d root joined.1 joined.2 joined.3 ∙ none))
  | inr l ↦ l
]

pub large_rate : (needs : List Need) (clocks root : ℕ) (tree : ℕ → List ℕ) (roots parents depths : List ℕ) (rates : List Fraction) → ArePlanted needs clocks root tree roots parents depths rates → get_or roots root 0 ≡ no_number →
    HasLargeFrom needs clocks root → HasLargeRate needs clocks
large_rate needs clocks root tree roots parents depths rates h none large =
    let to : AreJoinedClocks needs root large.clock = (large.walk, large.a, large.b, large.along) in
    let is_root : IsRoot needs root large.clock = record { joined = to; least = λ d j. root_least needs clocks root tree roots parents depths rates h none d (joined_on needs d large.clock root j (joined_back needs root large.clock to)) } in
    (large.clock, large.num, large.den, large.within, record { root = root; tree = large.tree; is_root = is_root; is_tree = large.is_tree; walk = large.walk; a = large.a; b = large.b; along = large.along; in_tree = large.in_tree; same = large.same; lowest = large.lowest }, large.large)

-- a clock that is set to be a root
near_start : (roots : List ℕ) (root a : ℕ) → root < length roots → get_or roots a 0 ≡ no_number → IsNear (set roots root root) root a
near_start roots root a l none = elim (cases_eq a root) [
  | inl e ↦ inr (ap (λ z. get_or (set roots root root) z 0) e ∙ get_or-set_same roots root root 0 l)
  | inr n ↦ inl (get_or-set_other roots root a root 0 (omega arith) ∙ none)
]

none_near : (needs : List Need) (clocks root : ℕ) (tree : ℕ → List ℕ) (roots parents depths : List ℕ) (rates : List Fraction) → ArePlanted needs clocks root tree roots parents depths rates → get_or roots root 0 ≡ no_number →
    (a : ℕ) → a < clocks → IsNear (set roots root root) root a → get_or roots a 0 ≡ no_number
none_near needs clocks root tree roots parents depths rates h none a l near = elim (cases_eq a root) [
  | inl e ↦ ap (λ z. get_or roots z 0) e ∙ none
  | inr n ↦
      let same : get_or (set roots root root) a 0 ≡ get_or roots a 0 = get_or-set_other roots root a root 0 (omega arith) in
      elim near [
        | inl w ↦ sym same ∙ w
        | inr w ↦ elim (cases_eq (get_or roots a 0) no_number) [
          | inl z ↦ z
          | inr z ↦ (let b = h.below a l (λ y. absurd (omega arith)) in absurd (omega arith))
        ]
      ]
]

-- a tree of no needs at its root
pub growth_start : (needs : List Need) (clocks root at : ℕ) (tree : ℕ → List ℕ) (roots parents depths : List ℕ) (rates : List Fraction) → ArePlanted needs clocks root tree roots parents depths rates → get_or roots root 0 ≡ no_number →
    All (IsWithin clocks) needs → length roots ≡ clocks → root < clocks → clocks ≤ no_number → ((k : ℕ) → k < at → IsNamedBy root (need_at needs k) → ⊥) → IsGrowing needs clocks root [] at (set roots root root)
growth_start needs clocks root at tree roots parents depths rates h none within size l few before =
    let own : (x : ℕ) → IsReachedByTree needs root [] x → x ≡ root = λ x r. elim r [ inl e ↦ e | inr w ↦ (let i = w.1.1 in absurd (omega arith)) ] in
    let ends : (k : ℕ) → k < length needs → ((first_of (need_at needs k)).clock < clocks) × ((second_of (need_at needs k)).clock < clocks) = λ k m. both_within clocks (need_at needs k) (within k no_need m) in
    let at_root : get_or (set roots root root) root 0 ≡ root = get_or-set_same roots root root 0 (omega arith) in
    record {
      within = λ i m. absurd (omega arith);
      joins = λ i m. absurd (omega arith);
      first = λ i k m. absurd (omega arith);
      below = λ k m n j. elim j [ inl w ↦ before k m (inl (own _ w.0)) | inr w ↦ before k m (inr (own _ w.0)) ];
      reached = λ x m. (
        λ e. elim (cases_eq x root) [
          | inl z ↦ inl z
          | inr z ↦
              let same : get_or (set roots root root) x 0 ≡ get_or roots x 0 = get_or-set_other roots root x root 0 (omega arith) in
              let b = h.below x m (λ y. absurd (omega arith)) in
              absurd (omega arith)
        ],
        λ r. ap (λ z. get_or (set roots root root) z 0) (own x r) ∙ at_root,
      );
      apart = λ k m near. near_start roots root (second_of (need_at needs k)).clock (omega arith)
          (sym (h.apart k m) ∙ none_near needs clocks root tree roots parents depths rates h none (first_of (need_at needs k)).clock (ends k m).0 near);
      apart_too = λ k m near. near_start roots root (first_of (need_at needs k)).clock (omega arith)
          (h.apart k m ∙ none_near needs clocks root tree roots parents depths rates h none (second_of (need_at needs k)).clock (ends k m).1 near);
    }

pub rated_start : (needs : List Need) (root : ℕ) (parents depths : List ℕ) (rates : List Fraction) → IsRateFraction (rate_at rates root) → (rate_at rates root).num ≡ 1 → (rate_at rates root).den ≡ 1 → get_or depths root 0 ≡ 0 → IsRated needs root [] parents depths rates
rated_start needs root parents depths rates good num den depth =
    let own : (x : ℕ) → IsReachedByTree needs root [] x → x ≡ root = λ x r. elim r [ inl e ↦ e | inr w ↦ (let i = w.1.1 in absurd (omega arith)) ] in
    record {
      rate = λ c r. subst (λ (z : ℕ). IsRateFraction (rate_at rates z)) (sym (own c r)) good;
      num = num;
      den = den;
      even = λ k i. (let m = i.1 in absurd (omega arith));
      top = depth;
      up = λ c r n. absurd (n (own c r));
    }

-- the trees, one of which is new
abbrev pub with_tree : (ℕ → List ℕ) → ℕ → List ℕ → ℕ → List ℕ
with_tree tree root t r = cond (eqb r root) t (tree r)

at_new : (tree : ℕ → List ℕ) (root : ℕ) (t : List ℕ) (r : ℕ) → r ≡ root → with_tree tree root t r ≡ t
at_new tree root t r e = elim (eqb_tells r root) [ inl z ↦ ap (λ b. cond b t (tree r)) z.0 | inr z ↦ absurd (z.1 e) ]

at_old : (tree : ℕ → List ℕ) (root : ℕ) (t : List ℕ) (r : ℕ) → (r ≡ root → ⊥) → with_tree tree root t r ≡ tree r
at_old tree root t r n = elim (eqb_tells r root) [ inl z ↦ absurd (n z.1) | inr z ↦ ap (λ b. cond b t (tree r)) z.0 ]

-- what the lists were before the root was set, and what they are once its tree is done
pub record IsPlanting (needs : List Need) (clocks root : ℕ) (tree : ℕ → List ℕ) (t : List ℕ) (o p d : List ℕ) (x : List Fraction) (n p' d' : List ℕ) (x' : List Fraction) : Type 0 where
  pub before : ArePlanted needs clocks root tree o p d x
  pub none : get_or o root 0 ≡ no_number
  pub size : length o ≡ clocks
  pub inside : root < clocks
  pub few : clocks ≤ no_number
  pub is_tree : IsTree needs root t
  pub growing : IsGrowing needs clocks root t (length needs) n
  pub rated : IsRated needs root t p' d' x'
  pub root_kept : (c : ℕ) → (get_or o c 0 ≡ no_number → ⊥) → get_or n c 0 ≡ get_or o c 0
  pub parent_kept : (c : ℕ) → (get_or o c 0 ≡ no_number → ⊥) → get_or p' c 0 ≡ get_or p c 0
  pub depth_kept : (c : ℕ) → (get_or o c 0 ≡ no_number → ⊥) → get_or d' c 0 ≡ get_or d c 0
  pub rate_kept : (c : ℕ) → (get_or o c 0 ≡ no_number → ⊥) → rate_at x' c ≡ rate_at x c
  pub near : (c : ℕ) → get_or o c 0 ≡ no_number → IsNear n root c
  pub own : get_or n root 0 ≡ root

-- a clock with a root has that of before, or the new one and had none
old_or_root : (needs : List Need) (clocks root : ℕ) (tree : ℕ → List ℕ) (t o p d : List ℕ) (x : List Fraction) (n p' d' : List ℕ) (x' : List Fraction) → IsPlanting needs clocks root tree t o p d x n p' d' x' →
    (c : ℕ) → (get_or n c 0 ≡ no_number → ⊥) → ((get_or o c 0 ≡ no_number → ⊥) × (get_or n c 0 ≡ get_or o c 0)) ⊎ ((get_or o c 0 ≡ no_number) × (get_or n c 0 ≡ root))
old_or_root needs clocks root tree t o p d x n p' d' x' h c some = elim (cases_eq (get_or o c 0) no_number) [
  | inl e ↦ elim (h.near c e) [ inl w ↦ absurd (some w) | inr w ↦ inr (e, w) ]
  | inr e ↦ (let k : get_or o c 0 ≡ no_number → ⊥ = λ z. absurd (omega arith) in inl (k, h.root_kept c k))
]

-- a clock that is its own root was it before, or is the new one
old_root : (needs : List Need) (clocks root : ℕ) (tree : ℕ → List ℕ) (t o p d : List ℕ) (x : List Fraction) (n p' d' : List ℕ) (x' : List Fraction) → IsPlanting needs clocks root tree t o p d x n p' d' x' →
    (r : ℕ) → r < clocks → get_or n r 0 ≡ r → (r ≡ root) ⊎ ((get_or o r 0 ≡ r) × (r ≡ root → ⊥))
old_root needs clocks root tree t o p d x n p' d' x' h r l e =
    let few = h.few in
    elim (old_or_root needs clocks root tree t o p d x n p' d' x' h r (λ z. absurd (omega arith))) [
      | inl w ↦ inr (sym w.1 ∙ e, λ z. w.0 (ap (λ y. get_or o y 0) z ∙ h.none))
      | inr w ↦ inl (sym e ∙ w.1)
    ]

same_ends : (needs : List Need) (clocks root : ℕ) (tree : ℕ → List ℕ) (t o p d : List ℕ) (x : List Fraction) (n p' d' : List ℕ) (x' : List Fraction) → IsPlanting needs clocks root tree t o p d x n p' d' x' →
    All (IsWithin clocks) needs → (k : ℕ) → k < length needs → get_or n (first_of (need_at needs k)).clock 0 ≡ get_or n (second_of (need_at needs k)).clock 0
same_ends needs clocks root tree t o p d x n p' d' x' h within k l =
    let a = (first_of (need_at needs k)).clock in
    let b = (second_of (need_at needs k)).clock in
    let ends = both_within clocks (need_at needs k) (within k no_need l) in
    let apart = h.before.apart k l in
    elim (cases_eq (get_or o a 0) no_number) [
      | inr e ↦
          let some : get_or o a 0 ≡ no_number → ⊥ = λ z. absurd (omega arith) in
          h.root_kept a some ∙ apart ∙ sym (h.root_kept b (λ z. some (apart ∙ z)))
      | inl e ↦ elim (h.near a e) [
        | inl none_a ↦ elim (h.near b (sym apart ∙ e)) [
          | inl none_b ↦ none_a ∙ sym none_b
          | inr root_b ↦ elim (cases_eq (get_or n a 0) root) [
            | inl z ↦ z ∙ sym root_b
            | inr z ↦ absurd (h.growing.below k l l (inr ((h.growing.reached b ends.1).0 root_b, λ r. (let y = (h.growing.reached a ends.0).1 r in absurd (omega arith)))))
          ]
        ]
        | inr root_a ↦ elim (cases_eq (get_or n b 0) root) [
          | inl z ↦ root_a ∙ sym z
          | inr z ↦ absurd (h.growing.below k l l (inl ((h.growing.reached a ends.0).0 root_a, λ r. (let y = (h.growing.reached b ends.1).1 r in absurd (omega arith)))))
        ]
      ]
    ]

pub planted_step : (needs : List Need) (clocks root : ℕ) (tree : ℕ → List ℕ) (t o p d : List ℕ) (x : List Fraction) (n p' d' : List ℕ) (x' : List Fraction) → IsPlanting needs clocks root tree t o p d x n p' d' x' →
    All (IsWithin clocks) needs → ArePlanted needs clocks (root + 1) (with_tree tree root t) n p' d' x'
planted_step needs clocks root tree t o p d x n p' d' x' h within =
    let now = with_tree tree root t in
    let cases = old_or_root needs clocks root tree t o p d x n p' d' x' h in
    let not_root : (c : ℕ) → c < clocks → (get_or o c 0 ≡ no_number → ⊥) → get_or o c 0 ≡ root → ⊥ = λ c l some e. (let b = h.before.below c l some in absurd (omega arith)) in
    record {
      done = λ c l z. elim (cases_lt c root) [
        | inl m ↦ (let some = h.before.done c m in some (sym (h.root_kept c some) ∙ z))
        | inr m ↦ (let e : c ≡ root = omega arith in let f : root ≡ no_number = sym h.own ∙ ap (λ y. get_or n y 0) (sym e) ∙ z in let few = h.few in let inside = h.inside in absurd (omega arith))
      ];
      least = λ c l some. elim (cases c some) [
        | inl w ↦ (let b = h.before.least c l w.0 in let e = w.1 in omega arith)
        | inr w ↦ (let e = w.1 in elim (cases_lt c root) [ inl m ↦ absurd (h.before.done c m w.0) | inr m ↦ omega arith ])
      ];
      below = λ c l some. elim (cases c some) [
        | inl w ↦ (let b = h.before.below c l w.0 in let e = w.1 in omega arith)
        | inr w ↦ (let e = w.1 in omega arith)
      ];
      own = λ c l some. elim (cases c some) [
        | inl w ↦
            let e : get_or o (get_or o c 0) 0 ≡ get_or o c 0 = h.before.own c l w.0 in
            ap (λ y. get_or n y 0) w.1 ∙ h.root_kept (get_or o c 0) (λ z. w.0 (sym e ∙ z)) ∙ e ∙ sym w.1
        | inr w ↦ ap (λ y. get_or n y 0) w.1 ∙ h.own ∙ sym w.1
      ];
      reached = λ c l some. elim (cases c some) [
        | inl w ↦ subst (λ (r : ℕ). IsReachedByTree needs r (now r) c) (sym w.1)
            (subst (λ (y : List ℕ). IsReachedByTree needs (get_or o c 0) y c) (sym (at_old tree root t (get_or o c 0) (not_root c l w.0))) (h.before.reached c l w.0))
        | inr w ↦ subst (λ (r : ℕ). IsReachedByTree needs r (now r) c) (sym w.1)
            (subst (λ (y : List ℕ). IsReachedByTree needs root y c) (sym (at_new tree root t root refl)) ((h.growing.reached c l).0 w.1))
      ];
      apart = same_ends needs clocks root tree t o p d x n p' d' x' h within;
      is_tree = λ r l e. elim (old_root needs clocks root tree t o p d x n p' d' x' h r l e) [
        | inl z ↦ subst (λ (y : List ℕ). IsTree needs r y) (sym (at_new tree root t r z)) (subst (λ (y : ℕ). IsTree needs y t) (sym z) h.is_tree)
        | inr z ↦ subst (λ (y : List ℕ). IsTree needs r y) (sym (at_old tree root t r z.1)) (h.before.is_tree r l z.0)
      ];
      rated = λ r l e. elim (old_root needs clocks root tree t o p d x n p' d' x' h r l e) [
        | inl z ↦ subst (λ (y : List ℕ). IsRated needs r y p' d' x') (sym (at_new tree root t r z)) (subst (λ (y : ℕ). IsRated needs y t p' d' x') (sym z) h.rated)
        | inr z ↦
            let some : (c : ℕ) → IsReachedByTree needs r (tree r) c → get_or o c 0 ≡ no_number → ⊥ = λ c reached none.
            (let y = reached_root needs clocks root tree o p d x h.before r l z.0 c reached in let few = h.few in absurd (omega arith)) in
            subst (λ (y : List ℕ). IsRated needs r y p' d' x') (sym (at_old tree root t r z.1))
            (rated_kept needs r (tree r) p d p' d' x x' (h.before.rated r l z.0) (λ c reached. h.parent_kept c (some c reached)) (λ c reached. h.depth_kept c (some c reached)) (λ c reached. h.rate_kept c (some c reached)))
      ];
    }

-- the lists that a tree was grown in from a root that was set
pub planting_of : (needs : List Need) (clocks root : ℕ) (tree : ℕ → List ℕ) (t o p d : List ℕ) (x : List Fraction) (one : Fraction) (n p' d' : List ℕ) (x' : List Fraction) → ArePlanted needs clocks root tree o p d x → get_or o root 0 ≡ no_number →
    length o ≡ clocks → root < clocks → clocks ≤ no_number → IsTree needs root t → IsGrowing needs clocks root t (length needs) n → IsRated needs root t p' d' x' →
    AreKept root (set o root root) p (set d root 0) (set x root one) n p' d' x' → IsPlanting needs clocks root tree t o p d x n p' d' x'
planting_of needs clocks root tree t o p d x one n p' d' x' before none size inside few is_tree growing rated kept =
    let at_root : get_or (set o root root) root 0 ≡ root = get_or-set_same o root root 0 (omega arith) in
    let other : (c : ℕ) → (get_or o c 0 ≡ no_number → ⊥) → c ≡ root → ⊥ = λ c some e. some (ap (λ z. get_or o z 0) e ∙ none) in
    let start : (c : ℕ) → (c ≡ root → ⊥) → get_or (set o root root) c 0 ≡ get_or o c 0 = λ c k. get_or-set_other o root c root 0 (omega arith) in
    let some_start : (c : ℕ) → (get_or o c 0 ≡ no_number → ⊥) → get_or (set o root root) c 0 ≡ no_number → ⊥ = λ c some e. some (sym (start c (other c some)) ∙ e) in
    let own : get_or n root 0 ≡ root = kept.root_kept root (λ e. absurd (omega arith)) ∙ at_root in
    record {
      before = before;
      none = none;
      size = size;
      inside = inside;
      few = few;
      is_tree = is_tree;
      growing = growing;
      rated = rated;
      root_kept = λ c some. kept.root_kept c (some_start c some) ∙ start c (other c some);
      parent_kept = λ c some. kept.parent_kept c (some_start c some);
      depth_kept = λ c some. (let k = other c some in kept.depth_kept c (some_start c some) ∙ get_or-set_other d root c 0 0 (omega arith));
      rate_kept = λ c some. (let k = other c some in kept.rate_kept c (some_start c some) ∙ get_or-set_other x root c one no_rate (omega arith));
      near = λ c e. elim (cases_eq c root) [
        | inl z ↦ inr (ap (λ y. get_or n y 0) z ∙ own)
        | inr z ↦ kept.near c (start c (λ y. absurd (omega arith)) ∙ e)
      ];
      own = own;
    }

-- before the first tree
pub planted_none : (needs : List Need) (clocks : ℕ) (roots parents depths : List ℕ) (rates : List Fraction) → All (λ r. r ≡ no_number) roots → length roots ≡ clocks → clocks ≤ no_number → All (IsWithin clocks) needs →
    ArePlanted needs clocks 0 (λ r. []) roots parents depths rates
planted_none needs clocks roots parents depths rates none size few within =
    let is : (c : ℕ) → c < clocks → get_or roots c 0 ≡ no_number = λ c l. none c 0 (omega arith) in
    record {
      done = λ c l e. absurd (omega arith);
      least = λ c l some. absurd (some (is c l));
      below = λ c l some. absurd (some (is c l));
      own = λ c l some. absurd (some (is c l));
      reached = λ c l some. absurd (some (is c l));
      apart = λ k l. (let ends = both_within clocks (need_at needs k) (within k no_need l) in is _ ends.0 ∙ sym (is _ ends.1));
      is_tree = λ r l e. (let z = is r l in absurd (omega arith));
      rated = λ r l e. (let z = is r l in absurd (omega arith));
    }

pub deep_none : (roots depths : List ℕ) → All (λ d. d ≡ 0) depths → AreDeep roots depths
deep_none roots depths zeros c =
    let few = count_by-le-length (λ r. eqb r no_number) roots in
    elim (cases_lt c (length depths)) [
      | inl l ↦ (let e = zeros c 0 l in omega arith)
      | inr l ↦ (let e : get_or depths c 0 ≡ 0 = get_or-eq_default depths 0 l in omega arith)
    ]

-- a clock that has a root needs no tree
pub planted_on : (needs : List Need) (clocks root : ℕ) (tree : ℕ → List ℕ) (roots parents depths : List ℕ) (rates : List Fraction) → ArePlanted needs clocks root tree roots parents depths rates → (get_or roots root 0 ≡ no_number → ⊥) →
    ArePlanted needs clocks (root + 1) tree roots parents depths rates
planted_on needs clocks root tree roots parents depths rates h had = record {
  done = λ c l. elim (cases_eq c root) [
    | inl e ↦ subst (λ (x : ℕ). get_or roots x 0 ≡ no_number → ⊥) (sym e) had
    | inr n ↦ h.done c (omega arith)
  ];
  least = h.least;
  below = λ c l some. (let b = h.below c l some in omega arith);
  own = h.own;
  reached = h.reached;
  apart = h.apart;
  is_tree = h.is_tree;
  rated = h.rated;
}

-- nor does it make one deep that it is set to be a root
pub deep_start : (roots depths : List ℕ) (root : ℕ) → AreDeep roots depths → root < length roots → root < length depths → get_or roots root 0 ≡ no_number → (root ≡ no_number → ⊥) → AreDeep (set roots root root) (set depths root 0)
deep_start roots depths root deep l inside none is_root c =
    let one = one_fewer roots root root l none is_root in
    let size = length-set roots root root in
    elim (cases_eq c root) [
      | inl e ↦
          let d : get_or (set depths root 0) c 0 ≡ 0 = ap (λ x. get_or (set depths root 0) x 0) e ∙ get_or-set_same depths root 0 0 inside in
          let few = deep root in
          omega arith
      | inr n ↦
          let d : get_or (set depths root 0) c 0 ≡ get_or depths c 0 = get_or-set_other depths root c 0 0 (omega arith) in
          let few = deep c in
          omega arith
    ]
