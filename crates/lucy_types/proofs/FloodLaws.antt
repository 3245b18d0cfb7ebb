-- One place more is reached.
use Rattle.std.proofs.Common.{ℕ, zero, suc, ◌+◌, ◌≡◌, ◌≤◌, ◌<◌, List, [], ◌∷◌, ◌++◌, Option, Some, None, length, get_or, set, refl, ap, sym, ◌∙◌, subst, inl, inr, arith, get_or-set_same, get_or-set_other, length-set}
use Rattle.std.specs.Prelude.{true, false, is_some, slice_get, ◌⊎◌, ◌≢◌}
use Rattle.std.proofs.lemmas.Bool.{cases_lt, cases_eq}
use Rattle.std.proofs.lemmas.List.{length_push, get_or_default}
use Rattle.std.proofs.lemmas.Option.{slice_get_within, same_Some, none-some}
use Rattle.lucy_host.proofs.Elements.{get_last}
use Rattle.lucy_types.specs.declared.ty.Ty.{Ty}
use Rattle.lucy_types.specs.declared.ty.Ty.TheVariants as ty
use Rattle.lucy_types.specs.declared.graph.Graph.{Graph}
use Rattle.lucy_types.specs.declared.flood.Flood.{Flood}
use Rattle.lucy_types.specs.declared.flood.Reached.{Reached}
use Rattle.lucy_types.specs.Flooding.{mark, reached, marked, IsNew, HasOrigin, IsFlood, Comes, Grows, HasGrown}
use Rattle.lucy_types.proofs.ListLaws.{get_old, get_push}

pub marked_more : (marks : List (Option Ty)) (p : ℕ) (t : Ty) → p < length marks → get_or marks p None ≡ None → marked (set marks p (Some t)) ≡ marked marks + 1
marked_more [] p t h e = absurd (omega arith)
marked_more (None ∷ marks) zero t h e = refl
marked_more (Some s ∷ marks) zero t h e = absurd (none-some s (sym e))
marked_more (None ∷ marks) (suc p) t h e = marked_more marks p t (omega arith) e
marked_more (Some s ∷ marks) (suc p) t h e = ap (λ n. n + 1) (marked_more marks p t (omega arith) e)

pub marked_most : (marks : List (Option Ty)) → marked marks ≤ length marks
marked_most [] = omega arith
marked_most (None ∷ marks) = let h = marked_most marks in omega arith
marked_most (Some s ∷ marks) = let h = marked_most marks in omega arith

pub queue_most : (g : Graph) (f : Flood) → IsFlood g f → length f.queue.items ≤ length g.near.items
queue_most g f h =
    let c : length f.queue.items ≡ marked f.marks.items = h.count in
    let r : length f.marks.items ≡ length g.near.items = h.room in
    let m : marked f.marks.items ≤ length f.marks.items = marked_most f.marks.items in
    omega arith

-- a place was reached or not
pub was_reached : {A : Type 0} (o : Option A) → (o ≡ None) ⊎ ((x : A) × (o ≡ Some x))
was_reached None = inl refl
was_reached (Some x) = inr (x, refl)

-- a place that was not reached is so now
pub record Reaches (g : Graph) (p from : ℕ) (t : Ty) (old new : Flood) : Type 0 where
  pub flood : IsFlood g old
  pub first : 1 ≤ p
  pub last : p < length g.near.items
  pub comes : Comes g old p from t
  pub unmarked : mark old p ≡ None
  pub queue : new.queue.items ≡ old.queue.items ++ record { place = p; from = from } ∷ []
  pub marks : new.marks.items ≡ set old.marks.items p (Some t)

-- what was reached
abbrev step : ℕ → ℕ → Reached
step p from = record { place = p; from = from }

mark_new : (g : Graph) (p from : ℕ) (t : Ty) (old new : Flood) → Reaches g p from t old new → mark new p ≡ Some t
mark_new g p from t old new r =
    let e : length old.marks.items ≡ length g.near.items = r.flood.room in
    let l : p < length g.near.items = r.last in
    ap (λ ms. get_or ms p None) r.marks ∙ get_or-set_same old.marks.items p (Some t) None (omega arith)

mark_other : (g : Graph) (p from : ℕ) (t : Ty) (old new : Flood) → Reaches g p from t old new → (q : ℕ) → q ≢ p → mark new q ≡ mark old q
mark_other g p from t old new r q n = ap (λ ms. get_or ms q None) r.marks ∙ get_or-set_other old.marks.items p q (Some t) None n

mark_kept : (g : Graph) (p from : ℕ) (t : Ty) (old new : Flood) → Reaches g p from t old new → (q : ℕ) (s : Ty) → mark old q ≡ Some s → mark new q ≡ Some s
mark_kept g p from t old new r q s e =
    mark_other g p from t old new r q (λ h. none-some s (sym r.unmarked ∙ ap (mark old) (sym h) ∙ e)) ∙ e

mark_only : (g : Graph) (p from : ℕ) (t : Ty) (old new : Flood) → Reaches g p from t old new → (q : ℕ) (s : Ty) → mark new q ≡ Some s → (mark old q ≡ Some s) ⊎ ((q ≡ p) × (s ≡ t))
mark_only g p from t old new r q s e =
    elim (cases_eq q p) [
      | inl h ↦ inr (h, same_Some s t (sym e ∙ ap (mark new) h ∙ mark_new g p from t old new r))
      | inr h ↦ inl (sym (mark_other g p from t old new r q h) ∙ e)
    ]

reached_old : (g : Graph) (p from : ℕ) (t : Ty) (old new : Flood) → Reaches g p from t old new → (i : ℕ) → i < length old.queue.items → reached new i ≡ reached old i
reached_old g p from t old new r i h = ap (λ q. slice_get q i) r.queue ∙ get_old old.queue.items (step p from) i h

reached_last : (g : Graph) (p from : ℕ) (t : Ty) (old new : Flood) → Reaches g p from t old new → reached new (length old.queue.items) ≡ Some (step p from)
reached_last g p from t old new r = ap (λ q. slice_get q (length old.queue.items)) r.queue ∙ get_last old.queue.items (step p from)

reached_cases : (g : Graph) (p from : ℕ) (t : Ty) (old new : Flood) → Reaches g p from t old new → (i : ℕ) (x : Reached) → reached new i ≡ Some x
    → ((i < length old.queue.items) × (reached old i ≡ Some x)) ⊎ ((i ≡ length old.queue.items) × (step p from ≡ x))
reached_cases g p from t old new r i x e = get_push old.queue.items (step p from) i x (sym (ap (λ q. slice_get q i) r.queue) ∙ e)

-- a place that was reached before has the type it had
was_typed : (g : Graph) (p from : ℕ) (t : Ty) (old new : Flood) → Reaches g p from t old new → (i : ℕ) (x : Reached) (s : Ty) → reached old i ≡ Some x
    → mark new x.place ≡ Some s → mark old x.place ≡ Some s
was_typed g p from t old new r i x s e m =
    let h = r.flood.typed i x e in
    h.1 ∙ sym (mark_kept g p from t old new r x.place h.0 h.1) ∙ m

-- the new one has the new type
is_typed : (g : Graph) (p from : ℕ) (t : Ty) (old new : Flood) → Reaches g p from t old new → (x : Reached) (s : Ty) → step p from ≡ x
    → mark new x.place ≡ Some s → t ≡ s
is_typed g p from t old new r x s e m = same_Some t s (sym (mark_new g p from t old new r) ∙ ap (λ y. mark new y.place) e ∙ m)

origin_kept : (g : Graph) (p from : ℕ) (t : Ty) (old new : Flood) → Reaches g p from t old new → (i : ℕ) (x : Reached) (s : Ty) → i ≤ length old.queue.items
    → HasOrigin g old i x s → HasOrigin g new i x s
origin_kept g p from t old new r i x s l (inl h) = inl h
origin_kept g p from t old new r i x s l (inr h) =
    let b : x.from < i = h.0 in
    inr (h.0, h.1, reached_old g p from t old new r x.from (omega arith) ∙ h.2, h.3, mark_kept g p from t old new r h.1.place s h.4)

origin_new : (g : Graph) (p from : ℕ) (t : Ty) (old : Flood) → Comes g old p from t → HasOrigin g old (length old.queue.items) (step p from) t
origin_new g p from t old (inl h) = inl (h.0, h.1)
origin_new g p from t old (inr h) = inr h

reach_origin : (g : Graph) (p from : ℕ) (t : Ty) (old new : Flood) → Reaches g p from t old new → (i : ℕ) (x : Reached) (s : Ty) → reached new i ≡ Some x
    → mark new x.place ≡ Some s → HasOrigin g new i x s
reach_origin g p from t old new r i x s e m =
    elim (reached_cases g p from t old new r i x e) [
      | inl h ↦
          let l : i < length old.queue.items = h.0 in
          origin_kept g p from t old new r i x s (omega arith) (r.flood.origin i x s h.1 (was_typed g p from t old new r i x s h.1 m))
      | inr h ↦
          let o = origin_kept g p from t old new r (length old.queue.items) (step p from) t (omega arith) (origin_new g p from t old r.comes) in
          let u : t ≡ s = is_typed g p from t old new r x s h.1 m in
          subst (λ j. HasOrigin g new j x s) (sym h.0) (subst (λ y. HasOrigin g new (length old.queue.items) y s) h.1 (subst (λ v. HasOrigin g new (length old.queue.items) (step p from) v) u o))
    ]

-- a class that comes anew was of no place
is_fresh : (g : Graph) (p from : ℕ) (t : Ty) (old : Flood) (k q : ℕ) → Comes g old p from t → from ≡ length old.queue.items → t ≡ ty.Open k
    → mark old q ≡ Some (ty.Open k) → ⊥
is_fresh g p from t old k q (inl h) e u m = subst (λ v. IsNew old v) u h.2 q m
is_fresh g p from t old k q (inr h) e u m = let l : from < length old.queue.items = h.0 in absurd (omega arith)

reach_single : (g : Graph) (p from : ℕ) (t : Ty) (old new : Flood) → Reaches g p from t old new → (i j k : ℕ) (x y : Reached) → reached new i ≡ Some x → reached new j ≡ Some y
    → x.from ≡ i → y.from ≡ j → mark new x.place ≡ Some (ty.Open k) → mark new y.place ≡ Some (ty.Open k) → i ≡ j
reach_single g p from t old new r i j k x y e f a b m n =
    elim (reached_cases g p from t old new r i x e) [
      | inl h ↦ elim (reached_cases g p from t old new r j y f) [
        | inl h' ↦ r.flood.single i j k x y h.1 h'.1 a b (was_typed g p from t old new r i x (ty.Open k) h.1 m) (was_typed g p from t old new r j y (ty.Open k) h'.1 n)
        | inr h' ↦ absurd (is_fresh g p from t old k x.place r.comes (ap (λ z. z.from) h'.1 ∙ b ∙ h'.0) (is_typed g p from t old new r y (ty.Open k) h'.1 n)
            (was_typed g p from t old new r i x (ty.Open k) h.1 m))
      ]
      | inr h ↦ elim (reached_cases g p from t old new r j y f) [
        | inl h' ↦ absurd (is_fresh g p from t old k y.place r.comes (ap (λ z. z.from) h.1 ∙ a ∙ h.0) (is_typed g p from t old new r x (ty.Open k) h.1 m)
            (was_typed g p from t old new r j y (ty.Open k) h'.1 n))
        | inr h' ↦ h.0 ∙ sym h'.0
      ]
    ]

reach_flood : (g : Graph) (p from : ℕ) (t : Ty) (old new : Flood) → Reaches g p from t old new → IsFlood g new
reach_flood g p from t old new r = record {
  room = ap length r.marks ∙ length-set old.marks.items p (Some t) ∙ r.flood.room;
  count =
      let e : length old.marks.items ≡ length g.near.items = r.flood.room in
      let l : p < length g.near.items = r.last in
      ap length r.queue ∙ length_push old.queue.items (step p from) ∙ ap (λ n. n + 1) r.flood.count ∙ sym (marked_more old.marks.items p t (omega arith) r.unmarked) ∙ sym (ap marked r.marks);
  inside = λ i x e. elim (reached_cases g p from t old new r i x e) [
    | inl h ↦ r.flood.inside i x h.1
    | inr h ↦ subst (λ (y : Reached). (1 ≤ y.place) × (y.place < length g.near.items)) h.1 (r.first, r.last)
  ];
  typed = λ i x e. elim (reached_cases g p from t old new r i x e) [
    | inl h ↦ let u = r.flood.typed i x h.1 in (u.0, mark_kept g p from t old new r x.place u.0 u.1)
    | inr h ↦ (t, ap (λ y. mark new y.place) (sym h.1) ∙ mark_new g p from t old new r)
  ];
  queued = λ q s e. elim (mark_only g p from t old new r q s e) [
    | inl h ↦ let u = r.flood.queued q s h in (u.0, u.1, reached_old g p from t old new r u.0 (slice_get_within old.queue.items u.0 u.1 u.2) ∙ u.2, u.3)
    | inr h ↦ (length old.queue.items, step p from, reached_last g p from t old new r, sym h.0)
  ];
  origin = reach_origin g p from t old new r;
  single = reach_single g p from t old new r;
}

reach_grows : (g : Graph) (p from : ℕ) (t : Ty) (old new : Flood) → Reaches g p from t old new → Grows t old new
reach_grows g p from t old new r = record {
  kept = mark_kept g p from t old new r;
  only = λ q s e. elim (mark_only g p from t old new r q s e) [ inl h ↦ inl h | inr h ↦ inr (ap (mark old) h.0 ∙ r.unmarked, h.1) ];
  longer = let e : length new.queue.items ≡ length old.queue.items + 1 = ap length r.queue ∙ length_push old.queue.items (step p from) in omega arith;
  queue = reached_old g p from t old new r;
  recent = λ i x l e. elim (reached_cases g p from t old new r i x e) [
    | inl h ↦ let b : i < length old.queue.items = h.0 in absurd (omega arith)
    | inr h ↦ ap (λ y. mark new y.place) (sym h.1) ∙ mark_new g p from t old new r
  ];
}

-- a place that is reached makes a flood that has grown
pub reach_grown : (g : Graph) (p from : ℕ) (t : Ty) (old new : Flood) → Reaches g p from t old new → HasGrown g p t old new
reach_grown g p from t old new r = record { flood = reach_flood g p from t old new r; grows = reach_grows g p from t old new r; reaches = mark_new g p from t old new r }

-- a flood grows by nothing, and by one growth after another
pub grows_none : (t : Ty) (f : Flood) → Grows t f f
grows_none t f = record {
  kept = λ p s e. e;
  only = λ p s e. inl e;
  longer = omega arith;
  queue = λ i l. refl;
  recent = λ i x l e. absurd (let h : i < length f.queue.items = slice_get_within f.queue.items i x e in omega arith);
}

pub grows_on : (t : Ty) (a b c : Flood) → Grows t a b → Grows t b c → Grows t a c
grows_on t a b c g h = record {
  kept = λ p s e. h.kept p s (g.kept p s e);
  only = λ p s e. elim (h.only p s e) [
    | inl u ↦ g.only p s u
    | inr u ↦ elim (was_reached (mark a p)) [
      | inl v ↦ inr (v, u.1)
      | inr v ↦ absurd (none-some v.0 (sym u.0 ∙ g.kept p v.0 v.1))
    ]
  ];
  longer = let u : length a.queue.items ≤ length b.queue.items = g.longer in let v : length b.queue.items ≤ length c.queue.items = h.longer in omega arith;
  queue = λ i l. let u : length a.queue.items ≤ length b.queue.items = g.longer in h.queue i (omega arith) ∙ g.queue i l;
  recent = λ i x l e. elim (cases_lt i (length b.queue.items)) [
    | inl u ↦ h.kept x.place t (g.recent i x l (sym (h.queue i u) ∙ e))
    | inr u ↦ h.recent i x u e
  ];
}

-- what a read of a mark tells of a place
pub unmarked_read : (f : Flood) (p : ℕ) (r : Option Ty) → r ≡ get_or f.marks.items p r → is_some r ≡ false → mark f p ≡ None
unmarked_read f p None h e = sym h
unmarked_read f p (Some t) h e = cc

pub marked_read : (f : Flood) (p : ℕ) (r : Option Ty) → p < length f.marks.items → r ≡ get_or f.marks.items p r → is_some r ≡ true → (t : Ty) × (mark f p ≡ Some t)
marked_read f p None l h e = cc
marked_read f p (Some t) l h e = (t, get_or_default f.marks.items p None (Some t) l ∙ sym h)

-- a place that was reached need not be so again
pub grown_none : (g : Graph) (p : ℕ) (t : Ty) (f : Flood) → IsFlood g f → (mark f p ≡ None) ⊎ (mark f p ≡ Some t) → (s : Ty) × (mark f p ≡ Some s) → HasGrown g p t f f
grown_none g p t f h m s = record {
  flood = h;
  grows = grows_none t f;
  reaches = elim m [ inl u ↦ absurd (none-some s.0 (sym u ∙ s.1)) | inr u ↦ u ];
}
