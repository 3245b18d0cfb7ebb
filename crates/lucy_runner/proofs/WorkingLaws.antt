-- Workers can be made of the parts of a net that are put to their places.
use Rattle.std.proofs.Common.{ℕ, suc, zero, ◌+◌, ◌<◌, ◌≤◌, ◌≡◌, List, [], ◌∷◌, length, get_or, take, ap, sym, refl, ◌∙◌, subst, arith}
use Rattle.std.specs.Prelude.{Option, Some, None, All, slice_get, sum_by}
use Rattle.std.proofs.lemmas.Option.{slice_get_within, slice_get-get_or, get_or_from_slice_get}
use Rattle.std.proofs.lemmas.List.{take_all}
use Rattle.std.proofs.lemmas.List.Sums.{sum_by-cons, sum_by_more, get_or-le-sum_by}
use Rattle.std.proofs.lemmas.List.Elements.{All-get_or}
use Rattle.lucy_host.proofs.Elements.{get_there}
use Rattle.lucy_stream.specs.Totals.{total}
use Rattle.lucy_core.proofs.ListLaws.{some_same}
use Rattle.lucy_worker.specs.declared.part.Part.{Part}
use Rattle.lucy_worker.specs.News.{IsNew, ends_of, ends_by}
use Rattle.lucy_runner.specs.declared.place.Place.{Place}
use Rattle.lucy_runner.specs.Crews.{number_of, sum_seated}
use Rattle.lucy_runner.specs.Making.{ArePlaced, CanWork}
use Rattle.lucy_runner.proofs.PlacingLaws.{at_is}

-- each part of a seat is the one of its number
pub in_order : (parts : List Part) (crew : List (List Part)) (places : List Place) (s k : ℕ) (row : List Part) (p : Part) → ArePlaced parts (length parts) crew places → slice_get crew s ≡ Some row → slice_get row k ≡ Some p → slice_get parts p.number ≡ Some p
in_order parts crew places s k row p is e f =
    let place : slice_get places p.number ≡ Some (record { seat = s; part = k }) = is.covered s k row p e f in
    let l : p.number < length parts = (let w : p.number < length places = slice_get_within places p.number (record { seat = s; part = k }) place in let n : length places ≡ length parts = is.placed in omega arith) in
    let there = get_there parts p.number l in
    let same : there.0 ≡ p = some_same (Some there.0) there.0 p refl (sym (is.each p.number there.0 l there.1) ∙ at_is crew places p.number s k row p place e f) in
    there.1 ∙ ap Some same

-- sums of functions that are alike on a list
pub sum_same : {X : Type 0} (f g : X → ℕ) (xs : List X) → ((k : ℕ) (x : X) → slice_get xs k ≡ Some x → f x ≡ g x) → sum_by f xs ≡ sum_by g xs
sum_same f g [] h = refl
sum_same f g (x ∷ xs) h =
    let first : f x ≡ g x = h 0 x refl in
    let rest : sum_by f xs ≡ sum_by g xs = sum_same f g xs (λ k y e. h (suc k) y e) in
    omega (arith, sum_by-cons f x xs, sum_by-cons g x xs, first, rest)

-- of a list the value of the element of a number
abbrev pub value_in : {X : Type 0} → (X → ℕ) → Option X → ℕ
value_in f None = 0
value_in f (Some x) = f x

-- the sum of all elements, number by number
sum_numbered : {X : Type 0} (f : X → ℕ) (xs : List X) (n : ℕ) → n ≤ length xs → total n (λ a. value_in f (slice_get xs a)) ≡ sum_by f (take n xs)
sum_numbered f xs zero l = refl
sum_numbered f xs (suc n) l =
    let (x, e) = get_there xs n (omega arith) in
    let more : sum_by f (take (n + 1) xs) ≡ sum_by f (take n xs) + f (get_or xs n x) = sum_by_more f xs n x (omega arith) in
    let same : f (get_or xs n x) ≡ f x = ap f (get_or_from_slice_get xs n x x e) in
    let here : value_in f (slice_get xs n) ≡ f x = ap (value_in f) e in
    let old : total n (λ a. value_in f (slice_get xs a)) ≡ sum_by f (take n xs) = sum_numbered f xs n (omega arith) in
    let one : sum_by f (take (suc n) xs) ≡ sum_by f (take (n + 1) xs) = ap (λ k. sum_by f (take k xs)) (let z : suc n ≡ n + 1 = omega arith in z) in
    omega (arith, more, same, here, old, one)

pub sum_all : {X : Type 0} (f : X → ℕ) (xs : List X) → total (length xs) (λ a. value_in f (slice_get xs a)) ≡ sum_by f xs
sum_all f xs = sum_numbered f xs (length xs) (omega arith) ∙ ap (sum_by f) (take_all (length xs) xs (omega arith))

row_new : (parts : List Part) (crew : List (List Part)) (places : List Place) (s : ℕ) (row : List Part) → ArePlaced parts (length parts) crew places → All IsNew parts → slice_get crew s ≡ Some row → All IsNew row
row_new parts crew places s row is new e = λ k d l.
    let at : slice_get parts (get_or row k d).number ≡ Some (get_or row k d) = in_order parts crew places s k row (get_or row k d) is e (slice_get-get_or row k d l) in
    let inside : (get_or row k d).number < length parts = slice_get_within parts (get_or row k d).number (get_or row k d) at in
    subst IsNew (get_or_from_slice_get parts (get_or row k d).number (get_or row k d) d at) (All-get_or IsNew parts (get_or row k d).number d inside new)

row_few : (parts : List Part) (crew : List (List Part)) (places : List Place) (s : ℕ) (row : List Part) → ArePlaced parts (length parts) crew places → slice_get crew s ≡ Some row → ends_by row ≤ ends_by parts
row_few parts crew places s row is e =
    let g : ℕ → ℕ = λ (a : ℕ). value_in ends_of (slice_get parts a) in
    let l : s < length crew = slice_get_within crew s row e in
    let own : ends_by row ≡ sum_seated g row = sum_same ends_of (number_of g) row (λ k p f. sym (ap (value_in ends_of) (in_order parts crew places s k row p is e f))) in
    let most : sum_seated g (get_or crew s row) ≤ sum_by (sum_seated g) crew = get_or-le-sum_by (sum_seated g) crew s row l in
    let same : sum_seated g (get_or crew s row) ≡ sum_seated g row = ap (sum_seated g) (get_or_from_slice_get crew s row row e) in
    let all : sum_by (sum_seated g) crew ≡ total (length parts) g = is.shared g in
    omega (arith, own, most, same, all, sum_all ends_of parts)

pub row_works : (parts : List Part) (crew : List (List Part)) (places : List Place) (s : ℕ) (row : List Part) → ArePlaced parts (length parts) crew places → CanWork parts → slice_get crew s ≡ Some row → CanWork row
row_works parts crew places s row is can e = (row_new parts crew places s row is can.0 e, (let few = row_few parts crew places s row is e in let most = can.1 in omega (arith, few, most)))
