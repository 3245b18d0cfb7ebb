-- The inputs of a net, by the parts of its actors.
use Rattle.std.proofs.Common.{ℕ, suc, zero, ◌+◌, ◌<◌, ◌≤◌, ◌≡◌, true, false, cond, List, [], ◌∷◌, map, length, ap, sym, refl, ◌∙◌, inl, inr, arith}
use Rattle.std.specs.Prelude.{ℤ, Option, Some, slice_get, ◌||◌}
use Rattle.std.specs.List.{range_with_len}
use Rattle.std.proofs.lemmas.Bool.{cases_Bool, eqb-true, eq-eqb, or_left, or_right}
use Rattle.std.proofs.lemmas.List.{get_or_past}
use Rattle.std.proofs.lemmas.List.FromFn.{get_or-map-range_with_len, length-map-range_with_len}
use Rattle.lucy_stream.specs.Items.{list_at}
use Rattle.lucy_net.specs.declared.kind.ActorKind.{ActorKind}
use Rattle.lucy_net.specs.declared.kind.ActorKind.TheVariants as kind
use Rattle.lucy_net.specs.declared.net.Actor.{Actor}
use Rattle.lucy_worker.specs.declared.part.Part.{Part}
use Rattle.lucy_runner.specs.declared.place.Place.{Place}
use Rattle.lucy_runner.specs.Views.{is_input, is_read, after_input, input_count}
use Rattle.lucy_runner.specs.Crews.{part_at, part_of, items_among, items_of}

-- an input's list is that of its number
abbrev pub HasListOf : (ℕ → List ℤ) → ActorKind → List ℤ → Type 0
HasListOf f (kind.Input n) items = items ≡ f n
HasListOf f what items = Unit {0}

list_of : (f : ℕ → List ℤ) (i : ℕ) (what : ActorKind) (items : List ℤ) → is_input i what ≡ true → HasListOf f what items → items ≡ f i
list_of f i (kind.Input n) items is has = has ∙ ap f (eqb-true n i is)
list_of f i what items is has = absurd (cc)

-- the part of an actor, whose items are the list of its input
pub record IsInputPart (f : ℕ → List ℤ) (part : Option Part) (actor : Actor) : Type 0 where
  pub is : Part
  pub there : part ≡ Some is
  pub same : is.actor ≡ actor
  pub list : HasListOf f is.actor.kind is.input.items

-- where all inputs' parts have the lists of their numbers, these are what is seen of the inputs that are read
pub items_are : (f : ℕ → List ℤ) (i : ℕ) (crew : List (List Part)) (places : List Place) (actors : List Actor) → length places ≡ length actors →
    ((a : ℕ) (actor : Actor) → slice_get actors a ≡ Some actor → IsInputPart f (part_of crew places a) actor) → items_of crew places i ≡ cond (is_read i actors) (f i) []
items_are f i crew [] [] len h = refl
items_are f i crew [] (x ∷ actors) len h = absurd (omega arith)
items_are f i crew (place ∷ places) [] len h = absurd (omega arith)
items_are f i crew (place ∷ places) (actor ∷ actors) len h =
    let here : IsInputPart f (part_at crew place) actor = h 0 actor refl in
    let p : Part = here.is in
    let rest : items_of crew places i ≡ cond (is_read i actors) (f i) [] = items_are f i crew places actors (omega arith) (λ a x e. h (suc a) x e) in
    let head : items_of crew (place ∷ places) i ≡ cond (is_input i p.actor.kind) p.input.items (items_of crew places i) =
    ap (λ o. items_among i (o ∷ map (part_at crew) places)) here.there in
    elim (cases_Bool (is_input i p.actor.kind)) [
      | inl here_is ↦
          let read : is_read i (actor ∷ actors) ≡ true = or_left (is_input i actor.kind) (is_read i actors) (ap (λ (x : Actor). is_input i x.kind) (sym here.same) ∙ here_is) in
          head ∙ ap (λ b. cond b p.input.items (items_of crew places i)) here_is ∙ list_of f i p.actor.kind p.input.items here_is here.list ∙ sym (ap (λ b. cond b (f i) []) read)
      | inr other ↦
          let not_here : is_input i actor.kind ≡ false = ap (λ (x : Actor). is_input i x.kind) (sym here.same) ∙ other in
          let same : is_read i (actor ∷ actors) ≡ is_read i actors = ap (λ b. b || is_read i actors) not_here in
          head ∙ ap (λ b. cond b p.input.items (items_of crew places i)) other ∙ rest ∙ sym (ap (λ b. cond b (f i) []) same)
    ]

-- an input of the net is read
pub read_here : (actors : List Actor) (a n : ℕ) (actor : Actor) → slice_get actors a ≡ Some actor → actor.kind ≡ kind.Input n → is_read n actors ≡ true
read_here [] a n actor at is = absurd (cc)
read_here (x ∷ actors) zero n actor at is =
    let same : x ≡ actor = cc in
    or_left (is_input n x.kind) (is_read n actors) (ap (λ (y : Actor). is_input n y.kind) same ∙ ap (is_input n) is ∙ eq-eqb n n refl)
read_here (x ∷ actors) (suc a) n actor at is = or_right (is_input n x.kind) (is_read n actors) (read_here actors a n actor at is)

-- and has its number below the count of inputs
pub counted_here : (actors : List Actor) (a n : ℕ) (actor : Actor) → slice_get actors a ≡ Some actor → actor.kind ≡ kind.Input n → n < input_count actors
counted_here [] a n actor at is = absurd (cc)
counted_here (x ∷ actors) zero n actor at is =
    let same : x ≡ actor = cc in
    let after : after_input x.kind ≡ n + 1 = ap (λ (y : Actor). after_input y.kind) same ∙ ap after_input is in
    omega arith
counted_here (x ∷ actors) (suc a) n actor at is = omega (arith, counted_here actors a n actor at is)

-- the list of this number
pub numbered : (f : ℕ → List ℤ) (count n : ℕ) → n < count → list_at (map f (range_with_len 0 count)) n ≡ f n
numbered f count n l = get_or-map-range_with_len f 0 count n n [] l (omega arith)

pub unnumbered : (f : ℕ → List ℤ) (count n : ℕ) → count ≤ n → list_at (map f (range_with_len 0 count)) n ≡ []
unnumbered f count n l = get_or_past (map f (range_with_len 0 count)) n [] (omega (arith, length-map-range_with_len f 0 count))
