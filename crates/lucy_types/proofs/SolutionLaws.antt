-- What a flood that has reached all places says of them.
use Rattle.std.proofs.Common.{ℕ, zero, suc, ◌+◌, ◌-◌, ◌≡◌, ◌≤◌, ◌<◌, List, [], ◌∷◌, Option, Some, None, length, map, drop, get_or, replicate, refl, ap, sym, ◌∙◌, subst, inl, inr, arith}
use Rattle.std.specs.Prelude.{slice_get}
use Rattle.std.specs.List.{Contains}
use Rattle.std.proofs.lemmas.Option.{same_Some, slice_get_within, none-some}
use Rattle.std.proofs.lemmas.List.{length-map, length-drop, length-replicate, get_or-drop}
use Rattle.lucy_host.specs.declared.data_type.DataType.{DataType}
use Rattle.lucy_host.specs.declared.data_type.DataType.TheVariants.{Int, Bool}
use Rattle.lucy_place.specs.Proper.{at_one}
use Rattle.lucy_types.specs.declared.ty.Ty.{Ty}
use Rattle.lucy_types.specs.declared.ty.Ty.TheVariants as ty
use Rattle.lucy_types.specs.declared.graph.Graph.{Graph}
use Rattle.lucy_types.specs.declared.flood.Flood.{Flood}
use Rattle.lucy_types.specs.declared.flood.Reached.{Reached}
use Rattle.lucy_types.specs.declared.rule.Rule.{Rule}
use Rattle.lucy_types.specs.declared.rule.Rule.TheVariants.{Is, Alike}
use Rattle.lucy_types.specs.Typing.{Typing, IsTyping, SaysType, AgreeOnType, AreTypes, as_ty}
use Rattle.lucy_types.specs.Clash.{Touch, IsClashPath}
use Rattle.lucy_types.specs.Graphs.{HasTrue, GraphRule, IsDrawn, IsGraph, room}
use Rattle.lucy_types.specs.Flooding.{mark, reached, marked, MayBegin, IsFixed, IsFlood, IsSettled, IsReached, IsTorn, HaveOrder, FloodsForced, HasFlooded, Tells}
use Rattle.lucy_types.specs.declared.solve.Solution.{Solution}
use Rattle.lucy_types.specs.declared.solve.Solution.TheVariants.{Types, Clash}
use Rattle.lucy_types.specs.Nodes.{Solves}
use Rattle.lucy_types.proofs.TypingLaws.{int_no_bool, clash_weaker, same_typings}

-- what a place of a type is, where each open class is given a type
abbrev value_of : (ℕ → DataType) → Option Ty → DataType
value_of v None = Int
value_of v (Some ty.Int) = Int
value_of v (Some ty.Bool) = Bool
value_of v (Some (ty.Open k)) = v k

-- all places are reached, and those that a rule makes int or bool are so
pub record IsSolved (g : Graph) (f : Flood) : Type 0 where
  pub graph : IsGraph g
  pub settled : IsSettled g f
  pub all : (p : ℕ) → 1 ≤ p → p < length g.near.items → IsReached f p
  pub order : HaveOrder f
  pub ints : (p : ℕ) → HasTrue g.ints.items p → mark f p ≡ Some ty.Int
  pub bools : (p : ℕ) → HasTrue g.bools.items p → mark f p ≡ Some ty.Bool

same_mark : (g : Graph) (f : Flood) → IsSolved g f → (p q : ℕ) → GraphRule g (Alike p q) → mark f p ≡ mark f q
same_mark g f s p q h =
    let b = s.graph.fits (Alike p q) h in
    let r = s.all p b.0.0 b.0.1 in
    let w = s.settled.flood.queued p r.0 r.1 in
    let e = s.settled.closed w.0 q w.1 (slice_get_within f.queue.items w.0 w.1 w.2) w.2 (subst (λ z. GraphRule g (Alike z q)) (sym w.3) h) in
    ap (mark f) (sym w.3) ∙ sym e

-- each choice of types for the open classes is a typing
meets : (g : Graph) (f : Flood) → IsSolved g f → (v : ℕ → DataType) → IsTyping (GraphRule g) (λ p. value_of v (mark f p))
meets g f s v (Is p Int) h = ap (value_of v) (s.ints p h)
meets g f s v (Is p Bool) h = ap (value_of v) (s.bools p h)
meets g f s v (Alike p q) h = ap (value_of v) (same_mark g f s p q h)

-- a place and the first of its class, which agree
record HasRoot (g : Graph) (f : Flood) (p : ℕ) (t : Ty) : Type 0 where
  number : ℕ
  root : Reached
  stands : reached f number ≡ Some root
  first : root.from ≡ number
  begins : MayBegin g root.place t
  typed : mark f root.place ≡ Some t
  agree : AgreeOnType (GraphRule g) root.place p

root_below : (g : Graph) (f : Flood) → IsFlood g f → (m i : ℕ) → i < m → (r : Reached) (t : Ty) → reached f i ≡ Some r → mark f r.place ≡ Some t → HasRoot g f r.place t
root_below g f h zero i l r t e m = absurd (omega arith)
root_below g f h (suc n) i l r t e m =
    elim (h.origin i r t e m) [
      | inl o ↦ record { number = i; root = r; stands = e; first = o.0; begins = o.1; typed = m; agree = λ a w. refl }
      | inr o ↦
          let b : r.from < i = o.0 in
          let u = root_below g f h n r.from (omega arith) o.1 t o.2 o.4 in
          record {
            number = u.number;
            root = u.root;
            stands = u.stands;
            first = u.first;
            begins = u.begins;
            typed = u.typed;
            agree = λ a w. u.agree a w ∙ w (Alike o.1.place r.place) o.3;
          }
    ]

root_of : (g : Graph) (f : Flood) → IsFlood g f → (p : ℕ) (t : Ty) → mark f p ≡ Some t → HasRoot g f p t
root_of g f h p t m =
    let w = h.queued p t m in
    subst (λ z. HasRoot g f z t) w.3 (root_below g f h (suc w.0) w.0 (omega arith) w.1 t w.2 (ap (mark f) w.3 ∙ m))

says_int : (g : Graph) (f : Flood) → IsFlood g f → (p : ℕ) → mark f p ≡ Some ty.Int → SaysType (GraphRule g) p Int
says_int g f h p m a w = let r = root_of g f h p ty.Int m in sym (r.agree a w) ∙ w (Is r.root.place Int) r.begins

says_bool : (g : Graph) (f : Flood) → IsFlood g f → (p : ℕ) → mark f p ≡ Some ty.Bool → SaysType (GraphRule g) p Bool
says_bool g f h p m a w = let r = root_of g f h p ty.Bool m in sym (r.agree a w) ∙ w (Is r.root.place Bool) r.begins

class_agrees : (g : Graph) (f : Flood) → IsFlood g f → (p q k : ℕ) → mark f p ≡ Some (ty.Open k) → mark f q ≡ Some (ty.Open k) → AgreeOnType (GraphRule g) p q
class_agrees g f h p q k m n a w =
    let r = root_of g f h p (ty.Open k) m in
    let s = root_of g f h q (ty.Open k) n in
    let e : r.number ≡ s.number = h.single r.number s.number k r.root s.root r.stands s.stands r.first s.first r.typed s.typed in
    let same : r.root ≡ s.root = same_Some r.root s.root (sym r.stands ∙ ap (reached f) e ∙ s.stands) in
    sym (r.agree a w) ∙ ap (λ (z : Reached). a z.place) same ∙ s.agree a w

-- int for one class and bool for the others
abbrev one_int : ℕ → ℕ → DataType
one_int zero zero = Int
one_int zero (suc l) = Bool
one_int (suc k) zero = Bool
one_int (suc k) (suc l) = one_int k l

one_itself : (k : ℕ) → one_int k k ≡ Int
one_itself zero = refl
one_itself (suc k) = one_itself k

one_other : (k l : ℕ) → one_int k l ≡ Int → k ≡ l
one_other zero zero e = refl
one_other zero (suc l) e = absurd (int_no_bool (sym e))
one_other (suc k) zero e = absurd (int_no_bool (sym e))
one_other (suc k) (suc l) e = ap suc (one_other k l e)

agree_class : (g : Graph) (f : Flood) → IsSolved g f → (p q k l : ℕ) → mark f p ≡ Some (ty.Open k) → mark f q ≡ Some (ty.Open l) → AgreeOnType (GraphRule g) p q → k ≡ l
agree_class g f s p q k l m n a =
    let v : ℕ → DataType = one_int k in
    let e : value_of v (mark f p) ≡ value_of v (mark f q) = a (λ z. value_of v (mark f z)) (meets g f s v) in
    one_other k l (sym (ap (value_of v) n) ∙ sym e ∙ ap (value_of v) m ∙ one_itself k)

says_told : (g : Graph) (f : Flood) → IsFlood g f → (p : ℕ) (t : DataType) → mark f p ≡ Some (as_ty t) → SaysType (GraphRule g) p t
says_told g f s p Int h = says_int g f s p h
says_told g f s p Bool h = says_bool g f s p h

-- the types of a flood
types_of_flood : (g : Graph) (f : Flood) (n : ℕ) (tys : List Ty) → IsSolved g f → length tys ≡ n → ((p : ℕ) → at_one tys p ≡ mark f p) → AreTypes (GraphRule g) n tys
types_of_flood g f n tys s l e = record {
  typing = λ p. value_of (λ k. Int) (mark f p);
  meets = meets g f s (λ k. Int);
  all = l;
  told = λ p t h. says_told g f s.settled.flood p t (sym (e p) ∙ h);
  untold = λ p k t h. ((λ q. value_of (λ m. t) (mark f q)), meets g f s (λ m. t), ap (value_of (λ m. t)) (sym (e p) ∙ h));
  classes = λ p q k m h i. (
    (λ same. class_agrees g f s.settled.flood p q m (sym (e p) ∙ h ∙ ap (λ x. Some (ty.Open x)) same) (sym (e q) ∙ i)),
    (λ a. agree_class g f s p q k m (sym (e p) ∙ h) (sym (e q) ∙ i) a),
  );
  numbered = record {
    from_one = λ p h. s.order.from_one p (sym (e p) ∙ h);
    in_order = λ p k h. let o = s.order.in_order p k (sym (e p) ∙ h) in (o.0, o.1, e o.0 ∙ o.2);
  };
}

-- typings of the graph are those of the rules
drawn_typing : (rules : List Rule) (g : Graph) → IsDrawn rules g → (a : Typing) → IsTyping (Contains rules) a → IsTyping (GraphRule g) a
drawn_typing rules g d a m (Is p t) h = m (Is p t) (d.says_is p t h)
drawn_typing rules g d a m (Alike p q) h = elim (d.says_alike p q h) [ inl u ↦ m (Alike p q) u | inr u ↦ sym (m (Alike q p) u) ]

drawn_types : (rules : List Rule) (g : Graph) (n : ℕ) (tys : List Ty) → IsDrawn rules g → AreTypes (GraphRule g) n tys → AreTypes (Contains rules) n tys
drawn_types rules g n tys d t =
    same_typings (GraphRule g) (Contains rules) (λ a m rule c. m rule (d.all rule c)) (drawn_typing rules g d) n tys t

drawn_path : (rules : List Rule) (g : Graph) (path : List ℕ) → IsDrawn rules g → IsClashPath (GraphRule g) path → IsClashPath (Contains rules) path
drawn_path rules g path d h = clash_weaker (GraphRule g) (Contains rules) d.says_is (drawn_touch rules g d) path h
  where
    drawn_touch : (rules : List Rule) (g : Graph) → IsDrawn rules g → (p q : ℕ) → Touch (GraphRule g) p q → Touch (Contains rules) p q
    drawn_touch rules g d p q (inl h) = d.says_alike p q h
    drawn_touch rules g d p q (inr h) = elim (d.says_alike q p h) [ inl u ↦ inr u | inr u ↦ inl u ]

-- a flood that has reached nothing
no_mark : (n p : ℕ) → get_or (replicate n (let o : Option Ty = None in o)) p None ≡ None
no_mark zero p = refl
no_mark (suc n) zero = refl
no_mark (suc n) (suc p) = no_mark n p

none_marked : (n : ℕ) → marked (replicate n None) ≡ 0
none_marked zero = refl
none_marked (suc n) = none_marked n

pub dry_marks : (f : Flood) (n p : ℕ) → f.marks.items ≡ replicate n None → mark f p ≡ None
dry_marks f n p e = ap (λ ms. get_or ms p None) e ∙ no_mark n p

no_reached : (f : Flood) → f.queue.items ≡ [] → (i : ℕ) (r : Reached) → reached f i ≡ Some r → ⊥
no_reached f e i r h = none-some r (sym (ap (λ q. slice_get q i) e) ∙ h)

pub dry_settled : (g : Graph) (f : Flood) (n : ℕ) → length g.near.items ≡ n → f.queue.items ≡ [] → f.marks.items ≡ replicate n None → IsSettled g f
dry_settled g f n l q m = record {
  flood = record {
    room = ap length m ∙ length-replicate n None ∙ sym l;
    count = ap length q ∙ sym (ap marked m ∙ none_marked n);
    inside = λ i r e. absurd (no_reached f q i r e);
    typed = λ i r e. absurd (no_reached f q i r e);
    queued = λ p t e. absurd (none-some t (sym (dry_marks f n p m) ∙ e));
    origin = λ i r t e. absurd (no_reached f q i r e);
    single = λ i j k r s e. absurd (no_reached f q i r e);
  };
  closed = λ i p r b e. absurd (no_reached f q i r e);
}

int_marks : (g : Graph) (f₀ f₁ : Flood) → ((p : ℕ) → mark f₀ p ≡ None) → FloodsForced g (HasTrue g.ints.items) ty.Int f₀ f₁ → (p : ℕ) (t : Ty) → mark f₁ p ≡ Some t → t ≡ ty.Int
int_marks g f₀ f₁ d h p t e = elim (h.only p t e) [ inl u ↦ absurd (none-some t (sym (d p) ∙ u)) | inr u ↦ u ]

-- before the last flood no place is open
pub fixed_marks : (g : Graph) (f₀ f₁ f₂ : Flood) → ((p : ℕ) → mark f₀ p ≡ None) → FloodsForced g (HasTrue g.ints.items) ty.Int f₀ f₁
    → FloodsForced g (HasTrue g.bools.items) ty.Bool f₁ f₂ → (p : ℕ) (t : Ty) → mark f₂ p ≡ Some t → IsFixed t
fixed_marks g f₀ f₁ f₂ d h k p t e =
    elim (k.only p t e) [ inl u ↦ subst IsFixed (sym (int_marks g f₀ f₁ d h p t u)) tt | inr u ↦ subst IsFixed (sym u) tt ]

-- where no place is torn, all is solved
floods_solve : (g : Graph) (old new : Flood) → IsGraph g → ((p : ℕ) → mark old p ≡ None) → HasFlooded g old new → ((p : ℕ) → IsTorn g new p → ⊥) → IsSolved g new
floods_solve g old new is dry h torn = record {
  graph = is;
  settled = h.others.settled;
  all = h.others.all;
  order = h.others.order;
  ints = λ p w.
      let r = h.forced_ints.all p w in
      h.others.kept p ty.Int (h.forced_bools.kept p ty.Int (r.1 ∙ ap Some (int_marks g old h.ints dry h.forced_ints p r.0 r.1)));
  bools = λ p w.
      let r = h.forced_bools.all p w in
      elim (h.forced_bools.only p r.0 r.1) [
        | inl u ↦ absurd (torn p (w, h.others.kept p ty.Int (r.1 ∙ ap Some (int_marks g old h.ints dry h.forced_ints p r.0 u))))
        | inr u ↦ h.others.kept p ty.Bool (r.1 ∙ ap Some u)
      ];
}

some_get : (xs : List Ty) (i : ℕ) → get_or (map Some xs) i None ≡ slice_get xs i
some_get [] i = refl
some_get (x ∷ xs) zero = refl
some_get (x ∷ xs) (suc i) = some_get xs i

-- the list of the types of a flood
listed_types : (g : Graph) (f : Flood) (tys : List Ty) → IsFlood g f → map Some tys ≡ drop 1 f.marks.items → (p : ℕ) → at_one tys p ≡ mark f p
listed_types g f tys h e zero = sym (no_zero (mark f 0) refl)
  where
    no_zero : (o : Option Ty) → mark f 0 ≡ o → o ≡ None
    no_zero None m = refl
    no_zero (Some t) m =
        let w = h.queued 0 t m in
        let i = h.inside w.0 w.1 w.2 in
        let b : 1 ≤ w.1.place = i.0 in
        let z : w.1.place ≡ 0 = w.3 in
        absurd (omega arith)
listed_types g f tys h e (suc i) =
    sym (some_get tys i) ∙ ap (λ ms. get_or ms i None) e ∙ get_or-drop 1 f.marks.items i None ∙ ap (λ m. get_or f.marks.items m None) (let d : 1 + i ≡ suc i = omega arith in d)

listed_length : (tys : List Ty) (marks : List (Option Ty)) (n : ℕ) → map Some tys ≡ drop 1 marks → length marks ≡ n + 1 → length tys ≡ n
listed_length tys marks n e l =
    let a : length (map Some tys) ≡ length tys = length-map tys Some in
    let b : length (drop 1 marks) ≡ length marks - 1 = length-drop 1 marks in
    let c : length (map Some tys) ≡ length (drop 1 marks) = ap length e in
    omega arith

-- what the floods tell solves the rules
pub floods_tell : (rules : List Rule) (g : Graph) (old new : Flood) (n : ℕ) → IsDrawn rules g → room g ≡ n + 1 → IsGraph g → ((p : ℕ) → mark old p ≡ None) → HasFlooded g old new
    → (s : Solution) → Tells g new s → Solves (Contains rules) n s
floods_tell rules g old new n d r is dry h (Types tys) t =
    drawn_types rules g n tys.items d
    (types_of_flood g new n tys.items (floods_solve g old new is dry h t.0) (listed_length tys.items new.marks.items n t.1 (h.others.settled.flood.room ∙ r))
    (listed_types g new tys.items h.others.settled.flood t.1))
floods_tell rules g old new n d r is dry h (Clash path) t = drawn_path rules g path.items d t
