-- A simple way along a tree is one, and so is the walk of the first need that isn't balanced.
use Rattle.std.proofs.Common.{◌≡◌, ℕ, ◌+◌, ◌*◌, ◌<◌, ◌≤◌, ◌⊎◌, zero, suc, List, [], ◌∷◌, ◌++◌, length, get_or, take, inl, inr, sym, ap, ◌∙◌, subst, refl, arith, length-append}
use Rattle.std.specs.List.{All, Contains}
use Rattle.std.proofs.lemmas.Bool.{cases_order}
use Rattle.std.proofs.lemmas.List.{get_or_append_left, take_all, take_more, get_or_default}
use Rattle.std.proofs.lemmas.List.Elements.{All-nil, All-cons, All-head, All-tail, Contains-push_cases}
use Rattle.lucy_need.specs.declared.need.Need.{Need}
use Rattle.lucy_rates.specs.Walks.{first_of, second_of, need_at, LeadsBetween, IsNeedWalk, IsRoot}
use Rattle.lucy_rates.specs.Trees.{IsNamedBy, IsReachedByTree, JoinsMore, IsTree, OneWalkLaw}
use Rattle.lucy_rates.specs.Growing.{IsSimple}
use Rattle.lucy_rates.proofs.OneTree.{one_tree}

simple_tail : (x : ℕ) (xs : List ℕ) → IsSimple (x ∷ xs) → IsSimple xs
simple_tail x xs h i j l m e = h (suc i) (suc j) (omega arith) (omega arith) e

simple_front : (xs : List ℕ) (x : ℕ) → IsSimple (xs ++ x ∷ []) → IsSimple xs
simple_front xs x h i j l m e =
    let len = length-append xs (x ∷ []) in
    h i j l (omega arith) (get_or_append_left xs (x ∷ []) 0 i (omega arith) ∙ e ∙ sym (get_or_append_left xs (x ∷ []) 0 j m))

first_once : (x : ℕ) (xs : List ℕ) → IsSimple (x ∷ xs) → Contains xs x → ⊥
first_once x xs h i = h 0 (suc i.0) (omega arith) (let l = i.1 in omega arith) (sym i.2 ∙ get_or_default xs i.0 x 0 i.1)

nothing_in : (xs : List ℕ) → All (Contains []) xs → xs ≡ []
nothing_in [] all = refl
nothing_in (x ∷ xs) all = (let i = (All-head (Contains []) x xs all).1 in absurd (omega arith))

module _ (needs : List Need) (root : ℕ) where
  named : (k c e a b : ℕ) → LeadsBetween (need_at needs k) c e a b → IsNamedBy c (need_at needs k) × IsNamedBy e (need_at needs k)
  named k c e a b (inl h) = (inl h.0, inr h.1)
  named k c e a b (inr h) = (inr h.0, inl h.1)

  -- the need leads from a clock that the tree reaches to one that it doesn't
  pub record IsTwig (tree : List ℕ) (k old new : ℕ) : Type 0 where
    pub there : IsReachedByTree needs root tree old
    pub fresh : IsReachedByTree needs root tree new → ⊥
    pub ends : (((first_of (need_at needs k)).clock ≡ old) × ((second_of (need_at needs k)).clock ≡ new))
        ⊎ (((first_of (need_at needs k)).clock ≡ new) × ((second_of (need_at needs k)).clock ≡ old))

  -- two simple ways between the same clocks along these needs are one
  abbrev IsOneWay : List ℕ → Type 0
  IsOneWay tree = (u v : List ℕ) (c d a b x y : ℕ) → All (Contains tree) u → All (Contains tree) v → IsSimple u → IsSimple v →
      IsNeedWalk needs u c d a b → IsNeedWalk needs v c d x y → u ≡ v

  module _ (tree : List ℕ) (k old new : ℕ) (twig : IsTwig tree k old new) where
    apart : new ≡ old → ⊥
    apart e = twig.fresh (subst (IsReachedByTree needs root tree) (sym e) twig.there)

    sides : (c e a b : ℕ) → LeadsBetween (need_at needs k) c e a b → ((c ≡ old) × (e ≡ new)) ⊎ ((c ≡ new) × (e ≡ old))
    sides c e a b (inl h) = elim twig.ends [ inl w ↦ inl (sym h.0 ∙ w.0, sym h.1 ∙ w.1) | inr w ↦ inr (sym h.0 ∙ w.0, sym h.1 ∙ w.1) ]
    sides c e a b (inr h) = elim twig.ends [ inl w ↦ inr (sym h.0 ∙ w.1, sym h.1 ∙ w.0) | inr w ↦ inl (sym h.0 ∙ w.1, sym h.1 ∙ w.0) ]

    -- no way along the tree begins or ends at the new clock
    stuck : (w : List ℕ) (d a b : ℕ) → All (Contains tree) w → IsNeedWalk needs w new d a b → w ≡ []
    stuck [] d a b all h = refl
    stuck (x ∷ w) d a b all h =
        let r = h.1 in
        absurd (twig.fresh (inr (x, All-head (Contains tree) x w all, (named x new r.0 r.1 r.2 r.5).0)))

    stuck_back : (w : List ℕ) (c a b : ℕ) → All (Contains tree) w → IsNeedWalk needs w c new a b → w ≡ []
    stuck_back [] c a b all h = refl
    stuck_back (x ∷ w) c a b all h =
        let r = h.1 in
        let none = stuck_back w r.0 r.3 r.4 (All-tail (Contains tree) x w all) r.6 in
        let here : r.0 ≡ new = (subst (λ (z : List ℕ). IsNeedWalk needs z r.0 new r.3 r.4) none r.6).0 in
        absurd (twig.fresh (subst (IsReachedByTree needs root tree) here (inr (
          x,
          All-head (Contains tree) x w all,
          (named x c r.0 r.1 r.2 r.5).1,
        ))))

    -- the need is the last of the way, or the first
    record IsLast (w : List ℕ) (c d : ℕ) : Type 0 where
      front : List ℕ
      is : w ≡ front ++ k ∷ []
      end : d ≡ new
      num : ℕ
      den : ℕ
      walk : IsNeedWalk needs front c old num den
      inside : All (Contains tree) front

    record IsFirst (w : List ℕ) (c d : ℕ) : Type 0 where
      rest : List ℕ
      is : w ≡ k ∷ rest
      begin : c ≡ new
      num : ℕ
      den : ℕ
      walk : IsNeedWalk needs rest old d num den
      inside : All (Contains tree) rest

    abbrev Shape : List ℕ → ℕ → ℕ → Type 0
    Shape w c d = All (Contains tree) w ⊎ (IsLast w c d ⊎ IsFirst w c d)

    inside : (w : List ℕ) → All (Contains (tree ++ k ∷ [])) w → (Contains w k → ⊥) → All (Contains tree) w
    inside w all out i d l =
        elim (Contains-push_cases tree k (get_or w i d) (all i d l)) [
          | inl old ↦ old
          | inr same ↦ absurd (out (i, l, get_or_default w i k d l ∙ sym same))
        ]

    by_twig : (w : List ℕ) (c d a b : ℕ) → IsNeedWalk needs (k ∷ w) c d a b → All (Contains tree) w → Shape (k ∷ w) c d
    by_twig w c d a b h all =
        let r = h.1 in
        elim (sides c r.0 r.1 r.2 r.5) [
          | inl s ↦
              let on = subst (λ (z : ℕ). IsNeedWalk needs w z d r.3 r.4) s.1 r.6 in
              let none = stuck w d r.3 r.4 all on in
              inr (inl (record {
                front = [];
                is = ap (λ (z : List ℕ). k ∷ z) none;
                end = sym (subst (λ (z : List ℕ). IsNeedWalk needs z new d r.3 r.4) none on).0;
                num = 1;
                den = 1;
                walk = (s.0, refl, refl);
                inside = All-nil (Contains tree);
              }))
          | inr s ↦ inr (inr (record {
            rest = w;
            is = refl;
            begin = s.0;
            num = r.3;
            den = r.4;
            walk = subst (λ (z : ℕ). IsNeedWalk needs w z d r.3 r.4) s.1 r.6;
            inside = all;
          }))
        ]

    longer : (x : ℕ) (w : List ℕ) (c d e a b : ℕ) → x < length needs → Contains tree x → LeadsBetween (need_at needs x) c e a b → Shape w e d →
        Shape (x ∷ w) c d
    longer x w c d e a b l i leads (inl all) = inl (All-cons (Contains tree) x w i all)
    longer x w c d e a b l i leads (inr (inl s)) = inr (inl (record {
      front = x ∷ s.front;
      is = ap (λ (z : List ℕ). x ∷ z) s.is;
      end = s.end;
      num = a * s.num;
      den = b * s.den;
      walk = (l, (e, a, b, s.num, s.den, leads, s.walk, refl, refl));
      inside = All-cons (Contains tree) x s.front i s.inside;
    }))
    longer x w c d e a b l i leads (inr (inr s)) =
        absurd (twig.fresh (subst (IsReachedByTree needs root tree) s.begin (inr (x, i, (named x c e a b leads).1))))

    shape : (w : List ℕ) (c d a b : ℕ) → All (Contains (tree ++ k ∷ [])) w → IsSimple w → IsNeedWalk needs w c d a b → Shape w c d
    shape [] c d a b all simple h = inl (All-nil (Contains tree))
    shape (x ∷ w) c d a b all simple h =
        let r = h.1 in
        let more = All-tail (Contains (tree ++ k ∷ [])) x w all in
        elim (Contains-push_cases tree k x (All-head (Contains (tree ++ k ∷ [])) x w all)) [
          | inl here ↦ longer x w c d r.0 r.1 r.2 h.0 here r.5 (shape w r.0 d r.3 r.4 more (simple_tail x w simple) r.6)
          | inr same ↦
              let once : IsSimple (k ∷ w) = subst (λ (z : ℕ). IsSimple (z ∷ w)) (sym same) simple in
              let on : IsNeedWalk needs (k ∷ w) c d a b = subst (λ (z : ℕ). IsNeedWalk needs (z ∷ w) c d a b) (sym same) h in
              subst (λ (z : ℕ). Shape (z ∷ w) c d) same (by_twig w c d a b on (inside w more (first_once k w once)))
        ]

    module _ (one : IsOneWay tree) where
      no_last : (u v : List ℕ) (c d a b : ℕ) → All (Contains tree) u → IsNeedWalk needs u c d a b → IsLast v c d → ⊥
      no_last u v c d a b all h s =
          let on = subst (λ (z : ℕ). IsNeedWalk needs u c z a b) s.end h in
          let here : c ≡ new = (subst (λ (z : List ℕ). IsNeedWalk needs z c new a b) (stuck_back u c a b all on) on).0 in
          let from = subst (λ (z : ℕ). IsNeedWalk needs s.front z old s.num s.den) here s.walk in
          apart (subst (λ (z : List ℕ). IsNeedWalk needs z new old s.num s.den) (stuck s.front old s.num s.den s.inside from) from).0

      no_first : (u v : List ℕ) (c d a b : ℕ) → All (Contains tree) u → IsNeedWalk needs u c d a b → IsFirst v c d → ⊥
      no_first u v c d a b all h s =
          let on = subst (λ (z : ℕ). IsNeedWalk needs u z d a b) s.begin h in
          let here : new ≡ d = (subst (λ (z : List ℕ). IsNeedWalk needs z new d a b) (stuck u d a b all on) on).0 in
          let to = subst (λ (z : ℕ). IsNeedWalk needs s.rest old z s.num s.den) (sym here) s.walk in
          apart (sym (subst (λ (z : List ℕ). IsNeedWalk needs z old new s.num s.den) (stuck_back s.rest old s.num s.den s.inside to) to).0)

      no_both : (u v : List ℕ) (c d : ℕ) → IsLast u c d → IsFirst v c d → ⊥
      no_both u v c d s t =
          let from = subst (λ (z : ℕ). IsNeedWalk needs s.front z old s.num s.den) t.begin s.walk in
          apart (subst (λ (z : List ℕ). IsNeedWalk needs z new old s.num s.den) (stuck s.front old s.num s.den s.inside from) from).0

      compare : (u v : List ℕ) (c d a b x y : ℕ) → IsSimple u → IsSimple v → IsNeedWalk needs u c d a b → IsNeedWalk needs v c d x y →
          Shape u c d → Shape v c d → u ≡ v
      compare u v c d a b x y p q g h (inl s) (inl t) = one u v c d a b x y s t p q g h
      compare u v c d a b x y p q g h (inl s) (inr (inl t)) = absurd (no_last u v c d a b s g t)
      compare u v c d a b x y p q g h (inl s) (inr (inr t)) = absurd (no_first u v c d a b s g t)
      compare u v c d a b x y p q g h (inr (inl s)) (inl t) = absurd (no_last v u c d x y t h s)
      compare u v c d a b x y p q g h (inr (inr s)) (inl t) = absurd (no_first v u c d x y t h s)
      compare u v c d a b x y p q g h (inr (inl s)) (inr (inr t)) = absurd (no_both u v c d s t)
      compare u v c d a b x y p q g h (inr (inr s)) (inr (inl t)) = absurd (no_both v u c d t s)
      compare u v c d a b x y p q g h (inr (inl s)) (inr (inl t)) =
          s.is ∙ ap (λ (z : List ℕ). z ++ k ∷ []) (one s.front t.front c old s.num s.den t.num t.den s.inside t.inside
          (simple_front s.front k (subst IsSimple s.is p)) (simple_front t.front k (subst IsSimple t.is q)) s.walk t.walk) ∙ sym t.is
      compare u v c d a b x y p q g h (inr (inr s)) (inr (inr t)) =
          s.is ∙ ap (λ (z : List ℕ). k ∷ z) (one s.rest t.rest old d s.num s.den t.num t.den s.inside t.inside
          (simple_tail k s.rest (subst IsSimple s.is p)) (simple_tail k t.rest (subst IsSimple t.is q)) s.walk t.walk) ∙ sym t.is

      one_more : IsOneWay (tree ++ k ∷ [])
      one_more u v c d a b x y all every p q g h = compare u v c d a b x y p q g h (shape u c d a b all p g) (shape v c d x y every q h)

  -- what joins more is a twig
  pub twig_of : (tree : List ℕ) (k : ℕ) → JoinsMore needs root tree (need_at needs k) → (old : ℕ) × (new : ℕ) × IsTwig tree k old new
  twig_of tree k (inl h) = (
    (first_of (need_at needs k)).clock,
    (second_of (need_at needs k)).clock,
    record {
      there = h.0;
      fresh = h.1;
      ends =
          inl (refl, refl);
    },
  )
  twig_of tree k (inr h) = (
    (second_of (need_at needs k)).clock,
    (first_of (need_at needs k)).clock,
    record {
      there = h.0;
      fresh = h.1;
      ends =
          inr (refl, refl);
    },
  )

  front : (tree : List ℕ) → IsTree needs root tree → (n : ℕ) → n ≤ length tree → IsOneWay (take n tree)
  front tree h zero l = λ u v c d a b x y all every p q g k. nothing_in u all ∙ sym (nothing_in v every)
  front tree h (suc n) l =
      let e : suc n ≡ n + 1 = omega arith in
      let twig = twig_of (take n tree) (get_or tree n 0) (h.joins n (omega arith)) in
      subst IsOneWay (sym (ap (λ z. take z tree) e ∙ take_more tree n 0 (omega arith)))
      (one_more (take n tree) (get_or tree n 0) twig.0 twig.1 twig.2 (front tree h n (omega arith)))

  pub one_way : (tree : List ℕ) → IsTree needs root tree → IsOneWay tree
  one_way tree h = subst IsOneWay (take_all (length tree) tree (omega arith)) (front tree h (length tree) (omega arith))

-- the least clock is one
pub one_root : (needs : List Need) (r s c : ℕ) → IsRoot needs r c → IsRoot needs s c → r ≡ s
one_root needs r s c h k = omega (arith, h.least s k.joined, k.least r h.joined)

pub one_walk_law : OneWalkLaw
one_walk_law needs one two p q =
    let same : p.need ≡ q.need = elim (cases_order p.need q.need) [
      | inl same ↦ same
      | inr (inl less) ↦ absurd (p.uneven (q.before p.need less))
      | inr (inr more) ↦ absurd (q.uneven (p.before q.need more))
    ] in
    let from = λ (k : ℕ). (first_of (need_at needs k)).clock in
    let to = λ (k : ℕ). (second_of (need_at needs k)).clock in
    let root : p.root ≡ q.root =
    one_root needs p.root q.root (from q.need) (subst (λ (k : ℕ). IsRoot needs p.root (from k)) same p.is_root) q.is_root in
    let tree : p.tree ≡ q.tree = one_tree needs q.root p.tree q.tree (subst (λ (r : ℕ). IsTree needs r p.tree) root p.is_tree) q.is_tree in
    let back : p.back ≡ q.back = one_way needs q.root q.tree q.is_tree p.back q.back (to q.need) (from q.need) p.num p.den q.num q.den
    (subst (λ (t : List ℕ). All (Contains t) p.back) tree p.in_tree) q.in_tree p.simple q.simple
    (subst (λ (k : ℕ). IsNeedWalk needs p.back (to k) (from k) p.num p.den) same p.returns) q.returns in
    p.is ∙ ap (λ (k : ℕ). k ∷ p.back) same ∙ ap (λ (w : List ℕ). q.need ∷ w) back ∙ sym q.is
