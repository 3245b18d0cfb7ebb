-- How large the net of a program is, and where instances begin.
use Rattle.std.proofs.Common.{ℕ, suc, zero, ◌+◌, ◌<◌, ◌≤◌, ◌≡◌, List, [], ◌∷◌, ◌++◌, Some, length, get_or, take, ap, sym, refl, ◌∙◌, inl, inr, arith, add-one}
use Rattle.std.specs.Prelude.{sum_by, slice_get, ◌⊎◌}
use Rattle.std.proofs.lemmas.Bool.{cases_lt}
use Rattle.lucy_place.specs.Proper.{IsProperNode}
use Rattle.std.proofs.lemmas.List.{length-take, length_push, get_or_append_left, get_or_push}
use Rattle.std.proofs.lemmas.List.Sums.{sum_by-cons}
use Rattle.std.proofs.lemmas.Option.{same_Some, slice_get_within, slice_get_read}
use Rattle.lucy_place.specs.declared.placed.PlacedNode.{PlacedNode}
use Rattle.lucy_place.specs.declared.entry.CallSite.{CallSite}
use Rattle.lucy_flat.specs.Extents.{actors_in, AreSumsOf}

-- one more of a sum
pub sum_take : {A : Type 0} (f : A → ℕ) (xs : List A) (j : ℕ) (x : A) → slice_get xs j ≡ Some x → sum_by f (take (j + 1) xs) ≡ sum_by f (take j xs) + f x
sum_take f xs j x e = ap (λ n. sum_by f (take n xs)) (add-one j) ∙ step f xs j x e
  where
    step : {B : Type 0} (f : B → ℕ) (ys : List B) (i : ℕ) (y : B) → slice_get ys i ≡ Some y → sum_by f (take (suc i) ys) ≡ sum_by f (take i ys) + f y
    step f [] i y g = absurd (cc g)
    step f (z ∷ ys) zero y g =
        let same : f z ≡ f y = ap f (same_Some z y g) in
        omega (arith, sum_by-cons f z [])
    step f (z ∷ ys) (suc i) y g = omega (arith, sum_by-cons f z (take (suc i) ys), sum_by-cons f z (take i ys), step f ys i y g)

-- a front of a sum and one more are no more than the sum
pub sum_part : {A : Type 0} (f : A → ℕ) (xs : List A) (j : ℕ) (x : A) → slice_get xs j ≡ Some x → sum_by f (take j xs) + f x ≤ sum_by f xs
sum_part f [] j x e = absurd (cc e)
sum_part f (y ∷ xs) zero x e = let same : f y ≡ f x = ap f (same_Some y x e) in omega (arith, sum_by-cons f y xs)
sum_part f (y ∷ xs) (suc j) x e = omega (arith, sum_by-cons f y xs, sum_by-cons f y (take j xs), sum_part f xs j x e)

pub sums_more : (sizes : List ℕ) (sites : List CallSite) (first j : ℕ) (sums : List ℕ) (next : ℕ) → AreSumsOf sizes sites first j sums → next ≡ first + actors_in sizes (take j sites) → AreSumsOf sizes sites first (j + 1) (sums ++ next ∷ [])
sums_more sizes sites first j sums next are e = record {
  count = omega (arith, are.count, length_push sums next);
  each = λ k l. each_at k l (cases_lt k j);
}
  where
    each_at : (k : ℕ) → k < j + 1 → (k < j) ⊎ (j ≤ k) → get_or (sums ++ next ∷ []) k 0 ≡ first + actors_in sizes (take k sites)
    each_at k l (inl low) = get_or_append_left sums (next ∷ []) 0 k (omega (arith, low, are.count)) ∙ are.each k low
    each_at k l (inr high) =
        let same : j ≡ k = omega (arith, l, high) in
        get_or_push sums next 0 k (omega (arith, same, are.count)) ∙ e ∙ ap (λ t. first + actors_in sizes (take t sites)) same

-- a call in a loop over a node's calls is of a node above
pub call_above : (nodes : List PlacedNode) (i : ℕ) (n : PlacedNode) (sites : List CallSite) (j : ℕ) (s : CallSite) → IsProperNode (take i nodes) n → sites ≡ n.calls → j < length sites → s ≡ get_or sites j s → s.node < i
call_above nodes i n sites j s proper e l at =
    let there : slice_get n.calls j ≡ Some s = ap (λ ss. slice_get ss j) (sym e) ∙ slice_get_read sites (length sites) j s refl l at in
    let is = proper.calls (suc j) s there in
    let w = slice_get_within (take i nodes) s.node is.callee is.found in
    let t = length-take i nodes in
    omega arith
