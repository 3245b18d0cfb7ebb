-- What is seen of parts at their places: counts, inputs, and sums over them.
use Rattle.std.proofs.Common.{ℕ, suc, zero, ◌≡◌, cond, List, [], ◌∷◌, map, length, get_or, ap, sym, refl, ◌∙◌, arith}
use Rattle.std.specs.Prelude.{ℤ, Option, Some, None, sum_by, slice_get}
use Rattle.std.specs.List.{range_with_len}
use Rattle.std.proofs.lemmas.Option.{slice_get_within, slice_get-get_or}
use Rattle.std.proofs.lemmas.List.Sums.{sum_by-cons}
use Rattle.lucy_stream.specs.Totals.{total}
use Rattle.lucy_net.specs.declared.net.Actor.{Actor}
use Rattle.lucy_net.specs.declared.net.Net.{Net}
use Rattle.lucy_core.specs.Seen.{done_of}
use Rattle.lucy_worker.specs.declared.part.Part.{Part}
use Rattle.lucy_worker.specs.Turns.{done_by}
use Rattle.lucy_worker.specs.Parts as parts
use Rattle.lucy_runner.specs.declared.place.Place.{Place}
use Rattle.lucy_runner.specs.Views.{input_count, is_input}
use Rattle.lucy_runner.specs.Homes.{actors_by}
use Rattle.lucy_runner.specs.Crews.{part_at, part_of, done_in, done_list, items_among, items_of, inputs_of, number_of, sum_seated, AreShared}
use Rattle.lucy_runner.specs.Standing.{AreCovered}

-- the count of an actor is that of its part
pub done_is : (crew : List (List Part)) (places : List Place) (a : ℕ) → done_of (done_list crew places) a ≡ done_in (part_of crew places a)
unfolding done_of
done_is crew [] a = refl
done_is crew (place ∷ places) zero = refl
done_is crew (place ∷ places) (suc a) = done_is crew places a

-- the same counts at each place are the same list
pub counts_same : (crew next : List (List Part)) (places : List Place) → ((a : ℕ) → done_in (part_of crew places a) ≡ done_in (part_of next places a)) → done_list crew places ≡ done_list next places
counts_same crew next [] h = refl
counts_same crew next (place ∷ places) h =
    (let head : done_in (part_at crew place) ≡ done_in (part_at next place) = h 0 in let rest = counts_same crew next places (λ a. h (suc a)) in cc)

-- the same actor with the same items, if there is one
abbrev pub IsSameInput : Option Part → Option Part → Type 0
IsSameInput None None = Unit {0}
IsSameInput None (Some q) = ⊥
IsSameInput (Some p) None = ⊥
IsSameInput (Some p) (Some q) = (q.actor ≡ p.actor) × (q.input.items ≡ p.input.items)

among_same : (i : ℕ) (x y : Option Part) (xs ys : List (Option Part)) → IsSameInput x y → items_among i xs ≡ items_among i ys → items_among i (x ∷ xs) ≡ items_among i (y ∷ ys)
among_same i None None xs ys same rest = rest
among_same i None (Some q) xs ys same rest = absurd same
among_same i (Some p) None xs ys same rest = absurd same
among_same i (Some p) (Some q) xs ys same rest =
    ap (λ (a : Actor). cond (is_input i a.kind) p.input.items (items_among i xs)) (sym same.0)
    ∙ ap (λ (items : List ℤ). cond (is_input i q.actor.kind) items (items_among i xs)) (sym same.1)
    ∙ ap (λ (items : List ℤ). cond (is_input i q.actor.kind) q.input.items items) rest

items_same : (i : ℕ) (crew next : List (List Part)) (places : List Place) → ((a : ℕ) → IsSameInput (part_of crew places a) (part_of next places a)) → items_of crew places i ≡ items_of next places i
items_same i crew next [] h = refl
items_same i crew next (place ∷ places) h =
    among_same i (part_at crew place) (part_at next place) (map (part_at crew) places) (map (part_at next) places) (h 0) (items_same i crew next places (λ a. h (suc a)))

lists_same : (crew next : List (List Part)) (places : List Place) (is : List ℕ) → ((a : ℕ) → IsSameInput (part_of crew places a) (part_of next places a)) → map (items_of crew places) is ≡ map (items_of next places) is
lists_same crew next places [] h = refl
lists_same crew next places (i ∷ is) h = (let head = items_same i crew next places h in let rest = lists_same crew next places is h in cc)

-- so the inputs that are seen are the same
pub inputs_same : (net : Net) (crew next : List (List Part)) (places : List Place) → ((a : ℕ) → IsSameInput (part_of crew places a) (part_of next places a)) → inputs_of net crew places ≡ inputs_of net next places
inputs_same net crew next places h = lists_same crew next places (range_with_len 0 (input_count net.actors)) h

sums_same : {A B : Type 0} (f : A → ℕ) (g : B → ℕ) (xs : List A) (ys : List B) → length xs ≡ length ys → ((k : ℕ) (x : A) (y : B) → slice_get xs k ≡ Some x → slice_get ys k ≡ Some y → f x ≡ g y) → sum_by f xs ≡ sum_by g ys
sums_same f g [] [] len h = refl
sums_same f g [] (y ∷ ys) len h = absurd (omega arith)
sums_same f g (x ∷ xs) [] len h = absurd (omega arith)
sums_same f g (x ∷ xs) (y ∷ ys) len h =
    omega (arith, sum_by-cons f x xs, sum_by-cons g y ys, h 0 x y refl refl, sums_same f g xs ys (omega arith) (λ k v w e d. h (suc k) v w e d))

-- the operations of all workers' parts are those of all actors
pub all_counted : (crew : List (List Part)) (n : ℕ) (g : ℕ → ℕ) → AreShared crew n → ((s k : ℕ) (ps : List Part) (p : Part) → slice_get crew s ≡ Some ps → slice_get ps k ≡ Some p → g p.number ≡ parts.done_of p) → sum_by done_by crew ≡ total n g
all_counted crew n g shared h =
    sym (sums_same (sum_seated g) done_by crew crew refl (λ s ps qs e f.
    (let same : ps ≡ qs = (let o : Some ps ≡ Some qs = sym e ∙ f in cc) in
    sums_same (number_of g) parts.done_of ps ps refl (λ k p q d c. (let one : p ≡ q = (let o : Some p ≡ Some q = sym d ∙ c in cc) in h s k ps p e d ∙ ap parts.done_of one))
    ∙ ap done_by same)))
    ∙ shared g

-- the parts of the same actors
pub record HaveNumbers (crew next : List (List Part)) : Type 0 where
  pub seats : length next ≡ length crew
  pub counts : (s : ℕ) (ps qs : List Part) → slice_get crew s ≡ Some ps → slice_get next s ≡ Some qs → length qs ≡ length ps
  pub number : (s k : ℕ) (ps qs : List Part) (p q : Part) → slice_get crew s ≡ Some ps → slice_get next s ≡ Some qs → slice_get ps k ≡ Some p → slice_get qs k ≡ Some q → q.number ≡ p.number

pub still_shared : (crew next : List (List Part)) (n : ℕ) → HaveNumbers crew next → AreShared crew n → AreShared next n
still_shared crew next n same shared g =
    sums_same (sum_seated g) (sum_seated g) next crew same.seats (λ s qs ps f e.
    sums_same (number_of g) (number_of g) qs ps (same.counts s ps qs e f) (λ k q p c d. ap g (same.number s k ps qs p q e f d c)))
    ∙ shared g

maps_same : {X Y : Type 0} (f : X → Y) (xs ys : List X) → length xs ≡ length ys → ((k : ℕ) (x y : X) → slice_get xs k ≡ Some x → slice_get ys k ≡ Some y → f x ≡ f y) → map f xs ≡ map f ys
maps_same f [] [] len h = refl
maps_same f [] (y ∷ ys) len h = absurd (omega arith)
maps_same f (x ∷ xs) [] len h = absurd (omega arith)
maps_same f (x ∷ xs) (y ∷ ys) len h =
    let first : f x ≡ f y = h 0 x y refl refl in
    let rest : map f xs ≡ map f ys = maps_same f xs ys (omega arith) (λ k v w e d. h (suc k) v w e d) in
    cc

-- so each worker keeps its actors
pub still_held : (crew next : List (List Part)) → HaveNumbers crew next → actors_by next ≡ actors_by crew
still_held crew next same =
    let number : Part → ℕ = λ (p : Part). p.number in
    maps_same (map number) next crew same.seats (λ s qs ps f e.
    maps_same number qs ps (same.counts s ps qs e f) (λ k q p c d. same.number s k ps qs p q e f d c))

pub still_covered : (crew next : List (List Part)) (places : List Place) → HaveNumbers crew next → AreCovered crew places → AreCovered next places
still_covered crew next places same covered s k qs q f c =
    let ps : List Part = get_or crew s [] in
    let e : slice_get crew s ≡ Some ps = slice_get-get_or crew s [] (omega (arith, slice_get_within next s qs f, same.seats)) in
    let p : Part = get_or ps k q in
    let d : slice_get ps k ≡ Some p = slice_get-get_or ps k q (omega (arith, slice_get_within qs k q c, same.counts s ps qs e f)) in
    ap (slice_get places) (same.number s k ps qs p q e f d c) ∙ covered s k ps p e d
