-- The types that rules leave are unique, and a clash path leaves none.
use Rattle.std.proofs.Common.{ℕ, zero, suc, ◌+◌, ◌-◌, ◌≡◌, ◌<◌, List, [], ◌∷◌, Option, Some, None, refl, ap, sym, ◌∙◌, subst, inl, inr, arith}
use Rattle.std.proofs.lemmas.Bool.{cases_lt}
use Rattle.lucy_host.specs.declared.data_type.DataType.{DataType}
use Rattle.lucy_host.specs.declared.data_type.DataType.TheVariants.{Int, Bool}
use Rattle.lucy_place.specs.Proper.{at_one}
use Rattle.lucy_types.specs.declared.ty.Ty.{Ty}
use Rattle.lucy_types.specs.declared.ty.Ty.TheVariants as ty
use Rattle.lucy_types.specs.declared.rule.Rule.{Rule}
use Rattle.lucy_types.specs.declared.rule.Rule.TheVariants.{Is, Alike}
use Rattle.lucy_types.specs.Typing.{Typing, IsTyping, AreNumbered, AreTypes}
use Rattle.lucy_types.specs.Clash.{Touch, EndsInBool, IsClashPath}
use Rattle.lucy_types.proofs.ListLaws.{same_at_one, no_element}

pub int_no_bool : Int ≡ Bool → ⊥
int_no_bool h = cc

touch_same : (R : Rule → Type 0) (a : Typing) → IsTyping R a → (p q : ℕ) → Touch R p q → a p ≡ a q
touch_same R a m p q (inl h) = m (Alike p q) h
touch_same R a m p q (inr h) = sym (m (Alike q p) h)

ends_bool : (R : Rule → Type 0) (a : Typing) → IsTyping R a → (p : ℕ) (path : List ℕ) → EndsInBool R p path → a p ≡ Bool
ends_bool R a m p [] h = m (Is p Bool) h
ends_bool R a m p (q ∷ path) h = touch_same R a m p q h.0 ∙ ends_bool R a m q path h.1

-- rules with a clash path have no typing
pub clash_refutes : (R : Rule → Type 0) (path : List ℕ) → IsClashPath R path → (a : Typing) → IsTyping R a → ⊥
clash_refutes R [] h a m = h
clash_refutes R (p ∷ path) h a m = int_no_bool (sym (m (Is p Int) h.0) ∙ ends_bool R a m p path h.1)

ends_weaker : (R S : Rule → Type 0) → ((p : ℕ) → R (Is p Bool) → S (Is p Bool)) → ((p q : ℕ) → Touch R p q → Touch S p q)
    → (p : ℕ) (path : List ℕ) → EndsInBool R p path → EndsInBool S p path
ends_weaker R S b t p [] h = b p h
ends_weaker R S b t p (q ∷ path) h = (t p q h.0, ends_weaker R S b t q path h.1)

-- a clash path of rules is one of more rules
pub clash_weaker : (R S : Rule → Type 0) → ((p : ℕ) (u : DataType) → R (Is p u) → S (Is p u)) → ((p q : ℕ) → Touch R p q → Touch S p q)
    → (path : List ℕ) → IsClashPath R path → IsClashPath S path
clash_weaker R S i t [] h = h
clash_weaker R S i t (p ∷ path) h = (i p Int h.0, ends_weaker R S (λ q. i q Bool) t p path h.1)

pub touch_weaker : (R S : Rule → Type 0) → ((rule : Rule) → R rule → S rule) → (p q : ℕ) → Touch R p q → Touch S p q
touch_weaker R S w p q (inl h) = inl (w (Alike p q) h)
touch_weaker R S w p q (inr h) = inr (w (Alike q p) h)

-- rules that the same typings meet leave the same types
pub same_typings : (R S : Rule → Type 0) → ((a : Typing) → IsTyping R a → IsTyping S a) → ((a : Typing) → IsTyping S a → IsTyping R a)
    → (n : ℕ) (tys : List Ty) → AreTypes R n tys → AreTypes S n tys
same_typings R S to from n tys t = record {
  typing = t.typing;
  meets = to t.typing t.meets;
  all = t.all;
  told = λ p u e a m. t.told p u e a (from a m);
  untold = λ p k u e. let o = t.untold p k u e in (o.0, to o.0 o.1, o.2);
  classes = λ p q k l e f. let c = t.classes p q k l e f in ((λ g a m. c.0 g a (from a m)), (λ g. c.1 (λ a m. g a (to a m))));
  numbered = t.numbered;
}

-- before a place of a class stands one of each lower class
pub lower_class : (tys : List Ty) → AreNumbered tys → (d k p m : ℕ) → m ≡ suc (suc k) + d → at_one tys p ≡ Some (ty.Open m)
    → (q : ℕ) × (q < p) × (at_one tys q ≡ Some (ty.Open (suc k)))
lower_class tys n zero k p m e h = n.in_order p k (subst (λ u. at_one tys p ≡ Some (ty.Open u)) (let f : m ≡ suc (suc k) = omega arith in f) h)
lower_class tys n (suc d) k p m e h =
    let one = n.in_order p (suc k + d) (subst (λ u. at_one tys p ≡ Some (ty.Open u)) (let f : m ≡ suc (suc (suc k + d)) = omega arith in f) h) in
    let two = lower_class tys n d k one.0 (suc (suc k + d)) (omega arith) one.2 in
    let l : one.0 < p = one.1 in
    let r : two.0 < one.0 = two.1 in
    (two.0, omega arith, two.2)

-- two tables of the same rules that agree below a place: the class there is not lower in the first
not_lower : (R : Rule → Type 0) (n : ℕ) (xs ys : List Ty) → AreTypes R n xs → AreTypes R n ys → (p k l : ℕ)
    → ((q : ℕ) → q < p → at_one xs q ≡ at_one ys q) → at_one xs p ≡ Some (ty.Open k) → at_one ys p ≡ Some (ty.Open l) → k < l → ⊥
not_lower R n xs ys x y p zero l same e f h = x.numbered.from_one p e
not_lower R n xs ys x y p (suc k) l same e f h =
    let b = lower_class ys y.numbered (l - (k + 2)) k p l (omega arith) f in
    let g : at_one xs b.0 ≡ Some (ty.Open (suc k)) = same b.0 b.1 ∙ b.2 in
    let agree = (x.classes b.0 p (suc k) (suc k) g e).0 refl in
    let i : suc k ≡ l = (y.classes b.0 p (suc k) l b.2 f).1 agree in
    omega arith

same_class : (R : Rule → Type 0) (n : ℕ) (xs ys : List Ty) → AreTypes R n xs → AreTypes R n ys → (p k l : ℕ)
    → ((q : ℕ) → q < p → at_one xs q ≡ at_one ys q) → at_one xs p ≡ Some (ty.Open k) → at_one ys p ≡ Some (ty.Open l) → k ≡ l
same_class R n xs ys x y p k l same e f =
    elim (cases_lt k l) [
      | inl h ↦ absurd (not_lower R n xs ys x y p k l same e f h)
      | inr h ↦ elim (cases_lt l k) [
        | inl g ↦ absurd (not_lower R n ys xs y x p l k (λ q b. sym (same q b)) f e g)
        | inr g ↦ omega arith
      ]
    ]

same_ty : (R : Rule → Type 0) (n : ℕ) (xs ys : List Ty) → AreTypes R n xs → AreTypes R n ys → (p : ℕ)
    → ((q : ℕ) → q < p → at_one xs q ≡ at_one ys q) → (s t : Ty) → at_one xs p ≡ Some s → at_one ys p ≡ Some t → s ≡ t
same_ty R n xs ys x y p same ty.Int ty.Int e f = refl
same_ty R n xs ys x y p same ty.Int ty.Bool e f = absurd (int_no_bool (sym (x.told p Int e x.typing x.meets) ∙ y.told p Bool f x.typing x.meets))
same_ty R n xs ys x y p same ty.Int (ty.Open l) e f = let o = y.untold p l Bool f in absurd (int_no_bool (sym (x.told p Int e o.0 o.1) ∙ o.2))
same_ty R n xs ys x y p same ty.Bool ty.Int e f = absurd (int_no_bool (sym (y.told p Int f x.typing x.meets) ∙ x.told p Bool e x.typing x.meets))
same_ty R n xs ys x y p same ty.Bool ty.Bool e f = refl
same_ty R n xs ys x y p same ty.Bool (ty.Open l) e f = let o = y.untold p l Int f in absurd (int_no_bool (sym o.2 ∙ x.told p Bool e o.0 o.1))
same_ty R n xs ys x y p same (ty.Open k) ty.Int e f = let o = x.untold p k Bool e in absurd (int_no_bool (sym (y.told p Int f o.0 o.1) ∙ o.2))
same_ty R n xs ys x y p same (ty.Open k) ty.Bool e f = let o = x.untold p k Int e in absurd (int_no_bool (sym o.2 ∙ y.told p Bool f o.0 o.1))
same_ty R n xs ys x y p same (ty.Open k) (ty.Open l) e f = ap ty.Open (same_class R n xs ys x y p k l same e f)

same_there : (R : Rule → Type 0) (n : ℕ) (xs ys : List Ty) → AreTypes R n xs → AreTypes R n ys → (p : ℕ)
    → ((q : ℕ) → q < p → at_one xs q ≡ at_one ys q) → (o u : Option Ty) → at_one xs p ≡ o → at_one ys p ≡ u → o ≡ u
same_there R n xs ys x y p same None None e f = refl
same_there R n xs ys x y p same None (Some t) e f = absurd (no_element xs ys p t (x.all ∙ sym y.all) e f)
same_there R n xs ys x y p same (Some s) None e f = absurd (no_element ys xs p s (y.all ∙ sym x.all) f e)
same_there R n xs ys x y p same (Some s) (Some t) e f = ap Some (same_ty R n xs ys x y p same s t e f)

same_below : (R : Rule → Type 0) (n : ℕ) (xs ys : List Ty) → AreTypes R n xs → AreTypes R n ys → (m q : ℕ) → q < m → at_one xs q ≡ at_one ys q
same_below R n xs ys x y zero q h = absurd (omega arith)
same_below R n xs ys x y (suc m) q h =
    same_there R n xs ys x y q (λ r g. same_below R n xs ys x y m r (omega arith)) (at_one xs q) (at_one ys q) refl refl

-- rules leave no more than one table
pub types_unique : (R : Rule → Type 0) (n : ℕ) (xs ys : List Ty) → AreTypes R n xs → AreTypes R n ys → xs ≡ ys
types_unique R n xs ys x y = same_at_one xs ys (λ p. same_below R n xs ys x y (suc p) p (omega arith))
