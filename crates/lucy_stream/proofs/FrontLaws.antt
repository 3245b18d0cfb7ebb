-- Laws of fronts.
use Rattle.std.proofs.Common.{ℕ, suc, zero, ◌+◌, ◌<◌, ◌≤◌, ◌≡◌, List, [], ◌∷◌, ◌++◌, map, length, take, drop, ap, sym, refl, ◌∙◌, arith}
use Rattle.std.specs.Prelude.{ℤ, Some, slice_get, replicate}
use Rattle.std.specs.List.{range_with_len}
use Rattle.lucy_stream.specs.Items.{item_at}
use Rattle.lucy_stream.specs.Fronts.{IsFront, AreFronts}

pub IsFront-refl : (xs : List ℤ) → IsFront xs xs
IsFront-refl [] = tt
IsFront-refl (x ∷ xs) = (refl, IsFront-refl xs)

pub IsFront-trans : (xs ys zs : List ℤ) → IsFront xs ys → IsFront ys zs → IsFront xs zs
IsFront-trans [] ys zs f g = tt
IsFront-trans (x ∷ xs) [] zs f g = absurd f
IsFront-trans (x ∷ xs) (y ∷ ys) [] f g = absurd g
IsFront-trans (x ∷ xs) (y ∷ ys) (z ∷ zs) f g = (f.0 ∙ g.0, IsFront-trans xs ys zs f.1 g.1)

pub IsFront-append : (xs ys : List ℤ) → IsFront xs (xs ++ ys)
IsFront-append [] ys = tt
IsFront-append (x ∷ xs) ys = (refl, IsFront-append xs ys)

pub IsFront-take : (n : ℕ) (xs : List ℤ) → IsFront (take n xs) xs
IsFront-take zero xs = tt
IsFront-take (suc n) [] = tt
IsFront-take (suc n) (x ∷ xs) = (refl, IsFront-take n xs)

pub IsFront-replicate : (v : ℤ) (n m : ℕ) → n ≤ m → IsFront (replicate n v) (replicate m v)
IsFront-replicate v zero m l = tt
IsFront-replicate v (suc n) zero l = absurd (omega arith)
IsFront-replicate v (suc n) (suc m) l = (refl, IsFront-replicate v n m (omega arith))

-- a front is no longer
pub IsFront-length : (xs ys : List ℤ) → IsFront xs ys → length xs ≤ length ys
IsFront-length [] ys f = omega arith
IsFront-length (x ∷ xs) [] f = absurd f
IsFront-length (x ∷ xs) (y ∷ ys) f = omega (arith, IsFront-length xs ys f.1)

-- and is the other list, cut
pub IsFront-cut : (xs ys : List ℤ) → IsFront xs ys → xs ≡ take (length xs) ys
IsFront-cut [] ys f = refl
IsFront-cut (x ∷ xs) [] f = absurd f
IsFront-cut (x ∷ xs) (y ∷ ys) f = ap (λ t. t ∷ xs) f.0 ∙ ap (λ t. y ∷ t) (IsFront-cut xs ys f.1)

-- it has the other list's items
pub IsFront-item : (xs ys : List ℤ) (i : ℕ) → IsFront xs ys → i < length xs → item_at xs i ≡ item_at ys i
IsFront-item [] ys i f l = absurd (omega arith)
IsFront-item (x ∷ xs) [] i f l = absurd f
IsFront-item (x ∷ xs) (y ∷ ys) zero f l = f.0
IsFront-item (x ∷ xs) (y ∷ ys) (suc i) f l = IsFront-item xs ys i f.1 (omega arith)

pub IsFront-get : (xs ys : List ℤ) (i : ℕ) (v : ℤ) → IsFront xs ys → slice_get xs i ≡ Some v → slice_get ys i ≡ Some v
IsFront-get [] ys i v f h = cc
IsFront-get (x ∷ xs) [] i v f h = absurd f
IsFront-get (x ∷ xs) (y ∷ ys) zero v f h = ap Some (sym f.0) ∙ h
IsFront-get (x ∷ xs) (y ∷ ys) (suc i) v f h = IsFront-get xs ys i v f.1 h

-- a front with the next item is a front
pub IsFront-push : (xs ys : List ℤ) (v : ℤ) → IsFront xs ys → length xs < length ys → v ≡ item_at ys (length xs) → IsFront (xs ++ v ∷ []) ys
IsFront-push [] [] v f l e = absurd (omega arith)
IsFront-push [] (y ∷ ys) v f l e = (e, tt)
IsFront-push (x ∷ xs) [] v f l e = absurd f
IsFront-push (x ∷ xs) (y ∷ ys) v f l e = (f.0, IsFront-push xs ys v f.1 (omega arith) e)

-- and so is one with the first of what it lacks, if it lacks any
pub IsFront-more : (xs ys : List ℤ) → IsFront xs ys → IsFront (xs ++ take 1 (drop (length xs) ys)) ys
IsFront-more [] ys f = IsFront-take 1 ys
IsFront-more (x ∷ xs) [] f = absurd f
IsFront-more (x ∷ xs) (y ∷ ys) f = (f.0, IsFront-more xs ys f.1)

-- of two fronts of one list the shorter is a front of the longer
pub IsFront-shorter : (xs ys zs : List ℤ) → IsFront xs zs → IsFront ys zs → length xs ≤ length ys → IsFront xs ys
IsFront-shorter [] ys zs f g l = tt
IsFront-shorter (x ∷ xs) [] zs f g l = absurd (omega arith)
IsFront-shorter (x ∷ xs) (y ∷ ys) [] f g l = absurd f
IsFront-shorter (x ∷ xs) (y ∷ ys) (z ∷ zs) f g l = (f.0 ∙ sym g.0, IsFront-shorter xs ys zs f.1 g.1 (omega arith))

-- lists by a function of the item's number
pub IsFront-by_number : (f g : ℕ → ℤ) (a n m : ℕ) → n ≤ m → ((k : ℕ) → a ≤ k → k < a + n → f k ≡ g k) → IsFront (map f (range_with_len a n)) (map g (range_with_len a m))
IsFront-by_number f g a zero m l h = tt
IsFront-by_number f g a (suc n) zero l h = absurd (omega arith)
IsFront-by_number f g a (suc n) (suc m) l h =
    (h a (omega arith) (omega arith), IsFront-by_number f g (a + 1) n m (omega arith) (λ k above below. h k (omega arith) (omega arith)))

-- lists by functions of the same elements
pub AreFronts-map : {X : Type 0} (f g : X → List ℤ) (xs : List X) → ((x : X) → IsFront (f x) (g x)) → AreFronts (map f xs) (map g xs)
AreFronts-map f g [] h i = tt
AreFronts-map f g (x ∷ xs) h zero = h x
AreFronts-map f g (x ∷ xs) h (suc i) = AreFronts-map f g xs h i
