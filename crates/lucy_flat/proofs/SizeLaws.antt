-- The sizes of a node's buffers, added up over its places.
use Rattle.std.proofs.Common.{ℕ, suc, zero, ◌+◌, ◌-◌, ◌<◌, ◌≤◌, ◌≡◌, List, [], ◌∷◌, Some, length, take, get_or, ap, sym, refl, ◌∙◌, arith}
use Rattle.std.specs.Prelude.{sum, sum_by, slice_get}
use Rattle.std.proofs.lemmas.List.Sums.{sum_by-cons}
use Rattle.std.proofs.lemmas.Option.{same_Some}
use Rattle.lucy_host.proofs.Elements.{get_there}
use Rattle.lucy_place.specs.declared.entry.PlaceEntry.{PlaceEntry}
use Rattle.lucy_place.specs.declared.entry.PlaceKind.{PlaceKind}
use Rattle.lucy_place.specs.declared.entry.PlaceKind.TheVariants.{Param, Defined, Lit, Op, Host, When, Merge, Fby, Buffer, Result}
use Rattle.lucy_place.specs.Proper.{at_one}
use Rattle.lucy_flat.specs.Extents.{size_in}
use Rattle.lucy_flat.proofs.ExtentLaws.{sum_take}

-- sums
pub sum_add : {A : Type 0} (f g : A → ℕ) (xs : List A) → sum_by (λ x. f x + g x) xs ≡ sum_by f xs + sum_by g xs
sum_add f g [] = refl
sum_add f g (x ∷ xs) = omega (arith, sum_by-cons (λ y. f y + g y) x xs, sum_by-cons f x xs, sum_by-cons g x xs, sum_add f g xs)

sum_none : {A : Type 0} (f : A → ℕ) (xs : List A) → ((x : A) → f x ≡ 0) → sum_by f xs ≡ 0
sum_none f [] h = refl
sum_none f (x ∷ xs) h = omega (arith, sum_by-cons f x xs, h x, sum_none f xs h)

sum_alike : {A : Type 0} (f g : A → ℕ) (zs : List A) → ((j : ℕ) (z : A) → slice_get zs j ≡ Some z → g z ≡ f z) → sum_by g zs ≡ sum_by f zs
sum_alike f g [] h = refl
sum_alike f g (z ∷ zs) h = omega (arith, sum_by-cons g z zs, sum_by-cons f z zs, h 0 z refl, sum_alike f g zs (λ j w k. h (suc j) w k))

sum_one : {A : Type 0} (f g : A → ℕ) (xs : List A) (i d : ℕ) (x : A) → slice_get xs i ≡ Some x → g x ≡ f x + d → ((j : ℕ) (y : A) → slice_get xs j ≡ Some y → (j ≡ i → ⊥) → g y ≡ f y) → sum_by g xs ≡ sum_by f xs + d
sum_one f g [] i d x e here other = absurd (cc e)
sum_one f g (y ∷ xs) zero d x e here other =
    let same : y ≡ x = same_Some y x e in
    let a : g y ≡ g x = ap g same in
    let b : f y ≡ f x = ap f same in
    let rest = sum_alike f g xs (λ j z k. other (suc j) z k (λ s. absurd (omega (arith, s)))) in
    omega (arith, sum_by-cons g y xs, sum_by-cons f y xs, a, b, here, rest)
sum_one f g (y ∷ xs) (suc i) d x e here other =
    let first = other 0 y refl (λ s. absurd (omega (arith, s))) in
    let rest = sum_one f g xs i d x e here (λ j z k n. other (suc j) z k (λ s. n (omega (arith, s)))) in
    omega (arith, sum_by-cons g y xs, sum_by-cons f y xs, first, rest)

-- the sizes of a node's buffers are those of its places
module _ (places : List PlaceEntry) (buffers sizes : List ℕ) (count : length sizes ≡ length buffers)
    (there_is : (k p : ℕ) → at_one buffers k ≡ Some p → (e : ℕ) × (entry : PlaceEntry) × (at_one places p ≡ Some entry) × (entry.kind ≡ Buffer k e))
    (only : (c : ℕ) (entry : PlaceEntry) → slice_get places c ≡ Some entry → (k e : ℕ) → entry.kind ≡ Buffer k e → at_one buffers k ≡ Some (suc c)) where
  size_before : (k : ℕ) (x : ℕ) (kind : PlaceKind) (q : ℕ) → slice_get sizes k ≡ Some x → kind ≡ Buffer (suc k) q → size_in (take (suc k) sizes) kind ≡ size_in (take k sizes) kind + x
  size_before k x kind q e is = at_kind (taken_last sizes k x e) (taken_past sizes k)
    where
      taken_last : (xs : List ℕ) (i y : ℕ) → slice_get xs i ≡ Some y → get_or (take (suc i) xs) i 0 ≡ y
      taken_last [] i y f = absurd (cc f)
      taken_last (z ∷ xs) zero y f = same_Some z y f
      taken_last (z ∷ xs) (suc i) y f = taken_last xs i y f

      taken_past : (xs : List ℕ) (i : ℕ) → get_or (take i xs) i 0 ≡ 0
      taken_past [] zero = refl
      taken_past [] (suc i) = refl
      taken_past (z ∷ xs) zero = refl
      taken_past (z ∷ xs) (suc i) = taken_past xs i

      at_kind : get_or (take (suc k) sizes) k 0 ≡ x → get_or (take k sizes) k 0 ≡ 0 → size_in (take (suc k) sizes) kind ≡ size_in (take k sizes) kind + x
      at_kind new old =
          let back : suc k - 1 ≡ k = omega arith in
          let a : size_in (take (suc k) sizes) kind ≡ x = ap (size_in (take (suc k) sizes)) is ∙ ap (λ n. get_or (take (suc k) sizes) n 0) back ∙ new in
          let b : size_in (take k sizes) kind ≡ 0 = ap (size_in (take k sizes)) is ∙ ap (λ n. get_or (take k sizes) n 0) back ∙ old in
          omega (arith, a, b)

  size_other : (k : ℕ) (kind : PlaceKind) → ((q : ℕ) → kind ≡ Buffer (suc k) q → ⊥) → ((j q : ℕ) → kind ≡ Buffer j q → 0 < j) → size_in (take (suc k) sizes) kind ≡ size_in (take k sizes) kind
  size_other k Param differs low = refl
  size_other k (Defined q) differs low = refl
  size_other k (Lit l) differs low = refl
  size_other k (Op op args) differs low = refl
  size_other k (Host op a b) differs low = refl
  size_other k (When q w) differs low = refl
  size_other k (Merge w a b) differs low = refl
  size_other k (Fby l q) differs low = refl
  size_other k (Buffer zero q) differs low = absurd (let l = low zero q refl in omega arith)
  size_other k (Buffer (suc j) q) differs low =
      let back : suc j - 1 ≡ j = omega arith in
      ap (λ n. get_or (take (suc k) sizes) n 0) back ∙ taken_other sizes k j (λ e. differs q (ap (λ n. Buffer (suc n) q) e)) ∙ ap (λ n. get_or (take k sizes) n 0) (sym back)
    where
      taken_other : (xs : List ℕ) (i l : ℕ) → (l ≡ i → ⊥) → get_or (take (suc i) xs) l 0 ≡ get_or (take i xs) l 0
      taken_other [] zero l n = refl
      taken_other [] (suc i) l n = refl
      taken_other (z ∷ xs) zero zero n = absurd (n refl)
      taken_other (z ∷ xs) zero (suc l) n = refl
      taken_other (z ∷ xs) (suc i) zero n = refl
      taken_other (z ∷ xs) (suc i) (suc l) n = taken_other xs i l (λ e. n (ap suc e))
  size_other k (Result c j) differs low = refl

  pub sizes_to : (k : ℕ) → k ≤ length sizes → sum_by (λ (e : PlaceEntry). size_in (take k sizes) e.kind) places ≡ sum (take k sizes)
  sizes_to zero l = sum_none (λ (e : PlaceEntry). size_in [] e.kind) places (λ e. size_none e.kind)
    where
      size_none : (kind : PlaceKind) → size_in [] kind ≡ 0
      size_none Param = refl
      size_none (Defined q) = refl
      size_none (Lit l) = refl
      size_none (Op op args) = refl
      size_none (Host op a b) = refl
      size_none (When q w) = refl
      size_none (Merge w a b) = refl
      size_none (Fby l q) = refl
      size_none (Buffer j q) = refl
      size_none (Result c j) = refl
  sizes_to (suc k) l =
      let x = get_there sizes k (omega (arith, l)) in
      let b = get_there buffers k (omega (arith, l, count)) in
      let is = there_is (suc k) b.0 b.1 in
      step k x.0 b.0 x.1 b.1 is (sizes_to k (omega (arith, l)))
    where
      buffer_low : (c : ℕ) (entry : PlaceEntry) → slice_get places c ≡ Some entry → (j q : ℕ) → entry.kind ≡ Buffer j q → 0 < j
      buffer_low c entry e zero q is = absurd (cc (only c entry e zero q is))
      buffer_low c entry e (suc j) q is = omega arith

      step : (k x p : ℕ) → slice_get sizes k ≡ Some x → slice_get buffers k ≡ Some p → ((e : ℕ) × (entry : PlaceEntry) × (at_one places p ≡ Some entry) × (entry.kind ≡ Buffer (suc k) e)) →
          sum_by (λ (e : PlaceEntry). size_in (take k sizes) e.kind) places ≡ sum (take k sizes) → sum_by (λ (e : PlaceEntry). size_in (take (suc k) sizes) e.kind) places ≡ sum (take (suc k) sizes)
      step k x zero e f is before = absurd (cc is.2)
      step k x (suc i) e f is before =
          let small : ℕ → PlaceEntry → ℕ = λ (m : ℕ) (t : PlaceEntry). size_in (take m sizes) t.kind in
          let one = sum_one (small k) (small (suc k)) places i x is.1 is.2 (size_before k x is.1.kind is.0 e is.3)
          (λ j y g n. size_other k y.kind (λ q h. n (other j i (sym (only j y g (suc k) q h) ∙ f))) (buffer_low j y g)) in
          let s : suc k ≡ k + 1 = omega arith in
          let more : sum (take (suc k) sizes) ≡ sum (take k sizes) + x = ap (λ m. sum (take m sizes)) s ∙ sum_take (λ (y : ℕ). y) sizes k x e in
          omega (arith, one, more, before)
        where
          other : (a b : ℕ) → Some (suc a) ≡ Some (suc b) → a ≡ b
          other a b h = let e : suc a ≡ suc b = same_Some (suc a) (suc b) h in omega arith
