-- Floods from the places that must be of a type, and then from all others.
use Rattle.std.proofs.Common.{ℕ, suc, ◌+◌, ◌-◌, ◌≡◌, ◌≤◌, ◌<◌, List, [], ◌∷◌, ◌++◌, Option, Some, None, length, map, take, drop, get_or, ap, sym, ◌∙◌, subst, inl, inr, arith}
use Rattle.std.specs.Prelude.{◌⊎◌}
use Rattle.std.proofs.lemmas.Bool.{cases_lt}
use Rattle.std.proofs.lemmas.List.{map_push, take_more, take_rest, length-drop, get_or-drop}
use Rattle.std.proofs.lemmas.Option.{none-some}
use Rattle.lucy_types.specs.declared.ty.Ty.{Ty}
use Rattle.lucy_types.specs.declared.ty.Ty.TheVariants as ty
use Rattle.lucy_types.specs.declared.graph.Graph.{Graph}
use Rattle.lucy_types.specs.declared.flood.Flood.{Flood}
use Rattle.lucy_types.specs.Flooding.{mark, IsFixed, IsSettled, IsReached, Settles, HaveOrder, FloodsAll}
use Rattle.lucy_types.proofs.HeadLaws.{same_open}

-- of the places before this one, those that must be were reached
pub record ForcedUpto (g : Graph) (forced : ℕ → Type 0) (t : Ty) (old : Flood) (upto : ℕ) (new : Flood) : Type 0 where
  pub settled : IsSettled g new
  pub kept : (p : ℕ) (s : Ty) → mark old p ≡ Some s → mark new p ≡ Some s
  pub only : (p : ℕ) (s : Ty) → mark new p ≡ Some s → (mark old p ≡ Some s) ⊎ (s ≡ t)
  pub all : (p : ℕ) → p < upto → forced p → IsReached new p

pub forced_yes : (g : Graph) (forced : ℕ → Type 0) (t : Ty) (old f new : Flood) (p : ℕ) → ForcedUpto g forced t old p f → Settles g t f new → IsReached new p
    → ForcedUpto g forced t old (p + 1) new
forced_yes g forced t old f new p u s r = record {
  settled = s.settled;
  kept = λ q v e. s.grows.kept q v (u.kept q v e);
  only = λ q v e. elim (s.grows.only q v e) [ inl w ↦ u.only q v w | inr w ↦ inr w.1 ];
  all = λ q l w. elim (cases_lt q p) [
    | inl b ↦ let x = u.all q b w in (x.0, s.grows.kept q x.0 x.1)
    | inr b ↦ subst (IsReached new) (let e : p ≡ q = omega arith in e) r
  ];
}

pub forced_no : (g : Graph) (forced : ℕ → Type 0) (t : Ty) (old f : Flood) (p : ℕ) → ForcedUpto g forced t old p f → (forced p → ⊥) → ForcedUpto g forced t old (p + 1) f
forced_no g forced t old f p u n = record {
  settled = u.settled;
  kept = u.kept;
  only = u.only;
  all = λ q l w. elim (cases_lt q p) [
    | inl b ↦ u.all q b w
    | inr b ↦ absurd (n (subst forced (let e : q ≡ p = omega arith in e) w))
  ];
}

-- the places before this one were reached, the new ones in so many open classes
pub record OpenUpto (g : Graph) (old : Flood) (next classes : ℕ) (new : Flood) : Type 0 where
  pub settled : IsSettled g new
  pub kept : (p : ℕ) (s : Ty) → mark old p ≡ Some s → mark new p ≡ Some s
  pub only : (p : ℕ) (s : Ty) → mark new p ≡ Some s → (mark old p ≡ Some s) ⊎ ((k : ℕ) × (s ≡ ty.Open k))
  pub all : (p : ℕ) → 1 ≤ p → p < next → IsReached new p
  pub few : classes < next
  pub bounds : (p k : ℕ) → mark new p ≡ Some (ty.Open k) → (1 ≤ k) × (k ≤ classes)
  pub met : (k : ℕ) → 1 ≤ k → k ≤ classes → (p : ℕ) × (p < next) × (mark new p ≡ Some (ty.Open k))
  pub order : HaveOrder new

not_fixed : (f : Flood) → ((p : ℕ) (t : Ty) → mark f p ≡ Some t → IsFixed t) → (p k : ℕ) → mark f p ≡ Some (ty.Open k) → ⊥
not_fixed f h p k e = h p (ty.Open k) e

pub open_none : (g : Graph) (f : Flood) → IsSettled g f → ((p : ℕ) (t : Ty) → mark f p ≡ Some t → IsFixed t) → OpenUpto g f 1 0 f
open_none g f s h = record {
  settled = s;
  kept = λ p t e. e;
  only = λ p t e. inl e;
  all = λ p l b. absurd (omega arith);
  few = omega arith;
  bounds = λ p k e. absurd (not_fixed f h p k e);
  met = λ k l b. absurd (omega arith);
  order = record { from_one = λ p e. not_fixed f h p 0 e; in_order = λ p k e. absurd (not_fixed f h p (suc (suc k)) e) };
}

-- what was reached last stands no earlier than the place from which it was
late : (g : Graph) (old f new : Flood) (next classes q : ℕ) (s : Ty) → OpenUpto g old next classes f → IsSettled g new → mark f q ≡ None → mark new q ≡ Some s → next ≤ q
late g old f new next classes q s u h n e =
    elim (cases_lt q next) [
      | inl b ↦
          let w = h.flood.queued q s e in
          let i = h.flood.inside w.0 w.1 w.2 in
          let one : 1 ≤ q = subst (λ z. 1 ≤ z) w.3 i.0 in
          let r = u.all q one b in absurd (none-some r.0 (sym n ∙ r.1))
      | inr b ↦ b
    ]

pub open_yes : (g : Graph) (old f new : Flood) (next classes : ℕ) → OpenUpto g old next classes f → Settles g (ty.Open (classes + 1)) f new
    → mark new next ≡ Some (ty.Open (classes + 1)) → OpenUpto g old (next + 1) (classes + 1) new
open_yes g old f new next classes u s m = record {
  settled = s.settled;
  kept = λ p v e. s.grows.kept p v (u.kept p v e);
  only = λ p v e. elim (s.grows.only p v e) [ inl w ↦ u.only p v w | inr w ↦ inr (classes + 1, w.1) ];
  all = λ p l b. elim (cases_lt p next) [
    | inl w ↦ let x = u.all p l w in (x.0, s.grows.kept p x.0 x.1)
    | inr w ↦ subst (IsReached new) (let e : next ≡ p = omega arith in e) (ty.Open (classes + 1), m)
  ];
  few = let h : classes < next = u.few in omega arith;
  bounds = λ p k e. elim (s.grows.only p (ty.Open k) e) [
    | inl w ↦ let b = u.bounds p k w in let h : k ≤ classes = b.1 in (b.0, omega arith)
    | inr w ↦ let h : k ≡ classes + 1 = same_open k (classes + 1) w.1 in (omega arith, omega arith)
  ];
  met = λ k l b. elim (cases_lt k (classes + 1)) [
    | inl w ↦ let x = u.met k l (omega arith) in let h : x.0 < next = x.1 in (x.0, omega arith, s.grows.kept x.0 (ty.Open k) x.2)
    | inr w ↦ (next, omega arith, m ∙ ap (λ n. Some (ty.Open n)) (let e : classes + 1 ≡ k = omega arith in e))
  ];
  order = record {
    from_one = λ p e. elim (s.grows.only p (ty.Open 0) e) [
      | inl w ↦ u.order.from_one p w
      | inr w ↦ let h : 0 ≡ classes + 1 = same_open 0 (classes + 1) w.1 in absurd (omega arith)
    ];
    in_order = λ p k e. elim (s.grows.only p (ty.Open (suc (suc k))) e) [
      | inl w ↦ let x = u.order.in_order p k w in (x.0, x.1, s.grows.kept x.0 (ty.Open (suc k)) x.2)
      | inr w ↦
          let h : suc (suc k) ≡ classes + 1 = same_open (suc (suc k)) (classes + 1) w.1 in
          let x = u.met (suc k) (omega arith) (omega arith) in
          let b : x.0 < next = x.1 in
          let l : next ≤ p = late g old f new next classes p (ty.Open (suc (suc k))) u s.settled w.0 e in
          (x.0, omega arith, s.grows.kept x.0 (ty.Open (suc k)) x.2)
    ];
  };
}

pub open_no : (g : Graph) (old f : Flood) (next classes : ℕ) → OpenUpto g old next classes f → IsReached f next → OpenUpto g old (next + 1) classes f
open_no g old f next classes u r = record {
  settled = u.settled;
  kept = u.kept;
  only = u.only;
  all = λ p l b. elim (cases_lt p next) [
    | inl w ↦ u.all p l w
    | inr w ↦ subst (IsReached f) (let e : next ≡ p = omega arith in e) r
  ];
  few = let h : classes < next = u.few in omega arith;
  bounds = u.bounds;
  met = λ k l b. let x = u.met k l b in let h : x.0 < next = x.1 in (x.0, omega arith, x.2);
  order = u.order;
}

pub open_all : (g : Graph) (old new : Flood) (next classes : ℕ) → OpenUpto g old next classes new → length g.near.items ≤ next → FloodsAll g old new
open_all g old new next classes u l = record { settled = u.settled; kept = u.kept; only = u.only; all = λ p a b. u.all p a (omega arith); order = u.order }

-- one place further, whether it was reached or begins a class
pub open_step : (g : Graph) (old f new : Flood) (next classes more : ℕ) → OpenUpto g old next classes f
    → ((x : Flood) × (new ≡ x) × (more ≡ classes + 1) × Settles g (ty.Open (classes + 1)) f x × (mark x next ≡ Some (ty.Open (classes + 1))))
    ⊎ ((new ≡ f) × (more ≡ classes) × IsReached f next)
    → OpenUpto g old (next + 1) more new
open_step g old f new next classes more u (inl h) =
    subst (λ x. OpenUpto g old (next + 1) more x) (sym h.1)
    (subst (λ m. OpenUpto g old (next + 1) m h.0) (sym h.2) (open_yes g old f h.0 next classes u h.3 h.4))
open_step g old f new next classes more u (inr h) =
    subst (λ x. OpenUpto g old (next + 1) more x) (sym h.0)
    (subst (λ m. OpenUpto g old (next + 1) m f) (sym h.1) (open_no g old f next classes u h.2))

-- the list of types, one mark more
pub listed_more : (marks : List (Option Ty)) (i : ℕ) (list new : List Ty) (t : Ty) → i < length marks → map Some list ≡ take i marks → get_or marks i None ≡ Some t
    → new ≡ list ++ t ∷ [] → map Some new ≡ take (i + 1) marks
listed_more marks i list new t l e m n =
    ap (map Some) n ∙ map_push Some list t ∙ ap (λ ms. ms ++ Some t ∷ []) e ∙ sym (take_more marks i None l ∙ ap (λ o. take i marks ++ o ∷ []) m)

pub reached_listed : (f : Flood) (marks : List (Option Ty)) (i : ℕ) → marks ≡ f.marks.items → i < length (take (length marks - 1) (drop 1 marks))
    → ((p : ℕ) → 1 ≤ p → p < length f.marks.items → IsReached f p) → (t : Ty) × (get_or (take (length marks - 1) (drop 1 marks)) i None ≡ Some t)
reached_listed f marks i e l h =
    let same : length marks ≡ length f.marks.items = ap length e in
    let rest : take (length marks - 1) (drop 1 marks) ≡ drop 1 marks = take_rest marks 1 in
    let size : length (drop 1 marks) ≡ length marks - 1 = length-drop 1 marks in
    let less : i < length (drop 1 marks) = subst (λ ms. i < length ms) rest l in
    let r = h (1 + i) (omega arith) (omega arith) in
    (r.0, ap (λ ms. get_or ms i None) rest ∙ get_or-drop 1 marks i None ∙ ap (λ ms. get_or ms (1 + i) None) e ∙ r.1)
