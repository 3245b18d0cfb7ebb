-- Elements of lists that were made of numbers.
use Rattle.std.proofs.Common.{ℕ, ◌+◌, ◌<◌, ◌≡◌, [], Option, Some, None, length, map, ap, refl, ◌∙◌, arith}
use Rattle.std.specs.Prelude.{slice_get, option_map}
use Rattle.std.specs.List.{range_with_len}
use Rattle.std.proofs.lemmas.Option.{slice_get-map, slice_get-get_or}
use Rattle.std.proofs.lemmas.List.FromFn.{get_or-range_with_len, length-range_with_len}

-- numbers in order, each as something else
pub get_range : {A : Type 0} (f : ℕ → A) (from count k : ℕ) → k < count → slice_get (map f (range_with_len from count)) k ≡ Some (f (from + k))
get_range f from count k h =
    let l : k < length (range_with_len from count) = omega (arith, length-range_with_len from count) in
    slice_get-map f (range_with_len from count) k
    ∙ ap (option_map f) (slice_get-get_or (range_with_len from count) k 0 l ∙ ap (λ n. Some n) (get_or-range_with_len from count k 0 h))

-- what an option is
pub mapped : {A B : Type 0} (f : A → B) (o : Option A) (y : B) → option_map f o ≡ Some y → (x : A) × (o ≡ Some x) × (f x ≡ y)
mapped f None y e = absurd (cc e)
mapped f (Some x) y e = (x, refl, cc)
