-- A closed walk that is begun elsewhere.
use Rattle.std.proofs.Common.{ℕ, ◌+◌, ◌<◌, ◌≤◌, ◌≡◌, List, [], ◌∷◌, ◌++◌, map, length, get_or, take, drop, ap, sym, ◌∙◌, subst, inl, inr, ◌⊎◌, arith}
use Rattle.std.specs.Prelude.{All}
use Rattle.std.proofs.lemmas.Bool.{cases_lt}
use Rattle.std.proofs.lemmas.List.Elements.{All-append, All-take, All-drop, All-map}
use Rattle.std.proofs.Math.Seq.{drop-append_seam, take-append_seam}
use Rattle.lucy_net.specs.declared.net.Net.{Net}
use Rattle.lucy_net.specs.Causal.{net_places, IsOfInstant}
use Rattle.lucy_net.specs.declared.settle.Wait.{Wait}
use Rattle.lucy_net.specs.Waiting.{actor_at, IsTurnedToLeast}
use Rattle.lucy_net.specs.Faults.{item_now, BeginsLeast}
use Rattle.std.proofs.lemmas.List.{take-append-drop, map-append, drop_more, get_or-map, append-nil}
use Rattle.lucy_stream.specs.Iterates.{Place}
use Rattle.lucy_stream.specs.Needs.{StreamItem, IsWalk, IsCycle}

-- a walk through an item is one up to it and one from it
walk_split : (places : List Place) (x y : StreamItem) (walk rest : List StreamItem) (end : StreamItem) → IsWalk places x (walk ++ y ∷ rest) end → IsWalk places x walk y × IsWalk places y rest end
walk_split places x y [] rest end w = w
walk_split places x y (z ∷ walk) rest end w = let tail = walk_split places z y walk rest end w.1 in ((w.0, tail.0), tail.1)

walk_join : (places : List Place) (x y : StreamItem) (walk rest : List StreamItem) (end : StreamItem) → IsWalk places x walk y → IsWalk places y rest end → IsWalk places x (walk ++ y ∷ rest) end
walk_join places x y [] rest end w v = (w, v)
walk_join places x y (z ∷ walk) rest end w v = (w.0, walk_join places z y walk rest end w.1 v)

pub cycle_turned : (places : List Place) (xs ys : List StreamItem) → IsCycle places (xs ++ ys) → IsCycle places (ys ++ xs)
cycle_turned places [] ys c = subst (IsCycle places) (sym (append-nil ys)) c
cycle_turned places (x ∷ xs) [] c = subst (IsCycle places) (append-nil (x ∷ xs)) c
cycle_turned places (x ∷ xs) (y ∷ ys) c = let parts = walk_split places x y xs ys x c in walk_join places y x ys xs y parts.1 parts.0

-- the lesser of a place and the least so far
pub least_more : (waits : List Wait) (least place new : ℕ) → least < length waits → place < length waits → ((k : ℕ) → k < place → actor_at waits 0 least ≤ actor_at waits 0 k) →
    ((new ≡ place) × (actor_at waits 0 place < actor_at waits 0 least)) ⊎ ((new ≡ least) × (actor_at waits 0 least ≤ actor_at waits 0 place)) → (new < length waits) × ((k : ℕ) → k < place + 1 → actor_at waits 0 new ≤ actor_at waits 0 k)
least_more waits least place new l p old (inl (e, h)) = (
  omega arith,
  λ k up_to. elim (cases_lt k place) [
    | inl below ↦ let z : actor_at waits 0 new ≡ actor_at waits 0 place = ap (actor_at waits 0) e in omega (arith, old k below)
    | inr top ↦ let z : actor_at waits 0 new ≡ actor_at waits 0 k = ap (actor_at waits 0) (let same : new ≡ k = omega arith in same) in omega arith
  ],
)
least_more waits least place new l p old (inr (e, h)) = (
  omega arith,
  λ k up_to. elim (cases_lt k place) [
    | inl below ↦ let z : actor_at waits 0 new ≡ actor_at waits 0 least = ap (actor_at waits 0) e in omega (arith, old k below)
    | inr top ↦
        let z : actor_at waits 0 new ≡ actor_at waits 0 least = ap (actor_at waits 0) e in
        let y : actor_at waits 0 k ≡ actor_at waits 0 place = ap (actor_at waits 0) (let same : k ≡ place = omega arith in same) in
        omega arith
  ],
)

-- what holds of all, in turn
all_turned : {X : Type 0} (P : X → Type 0) (xs ys : List X) → All P (xs ++ ys) → All P (ys ++ xs)
all_turned P xs ys h =
    All-append P ys xs (subst (All P) (drop-append_seam xs ys) (All-drop P (length xs) (xs ++ ys) h)) (subst (All P) (take-append_seam xs ys) (All-take P (length xs) (xs ++ ys) h))

-- those that wait, begun at the least
pub turned_cycle : (net : Net) (n : ℕ) (waits new : List Wait) → IsTurnedToLeast waits new → IsCycle (net_places net) (map (λ w. item_now net (n + 1) w.actor) waits) → All (IsOfInstant net n) (map (λ w. item_now net (n + 1) w.actor) waits) →
    IsCycle (net_places net) (map (λ w. item_now net (n + 1) w.actor) new) × All (IsOfInstant net n) (map (λ w. item_now net (n + 1) w.actor) new)
turned_cycle net n waits new is cycle all =
    let f : Wait → StreamItem = λ w. item_now net (n + 1) w.actor in
    let front : List Wait = take is.place waits in
    let rest : List Wait = drop is.place waits in
    let parts : map f waits ≡ map f front ++ map f rest = ap (map f) (sym (take-append-drop is.place waits)) ∙ map-append f front rest in
    let turned : map f rest ++ map f front ≡ map f new = sym (ap (map f) is.turned ∙ map-append f rest front) in (
      subst (IsCycle (net_places net)) turned (cycle_turned (net_places net) (map f front) (map f rest) (subst (IsCycle (net_places net)) parts cycle)),
      subst (All (IsOfInstant net n)) turned (all_turned (IsOfInstant net n) (map f front) (map f rest) (subst (All (IsOfInstant net n)) parts all)),
    )

pub turned_least : (net : Net) (n : ℕ) (waits new : List Wait) → IsTurnedToLeast waits new → BeginsLeast (map (λ w. item_now net (n + 1) w.actor) new)
turned_least net n waits new is =
    let f : Wait → StreamItem = λ w. item_now net (n + 1) w.actor in
    let d : Wait = record { actor = 0; ring = 0 } in
    let first : Wait = get_or waits is.place d in
    let P : Wait → Type 0 = λ w. first.actor ≤ w.actor in
    let own : actor_at waits 0 is.place ≡ first.actor = get_or-map (λ (w : Wait). w.actor) waits is.place d 0 is.there in
    let all : All P waits = λ k e l. let other : actor_at waits 0 k ≡ (get_or waits k e).actor = get_or-map (λ (w : Wait). w.actor) waits k e 0 l in omega (arith, is.least k l) in
    let turned : All P new = subst (All P) (sym is.turned) (All-append P (drop is.place waits) (take is.place waits) (All-drop P is.place waits all) (All-take P is.place waits all)) in
    let items : map f new ≡ f first ∷ map f (drop (is.place + 1) waits ++ take is.place waits) = ap (map f) (is.turned ∙ ap (λ xs. xs ++ take is.place waits) (drop_more waits is.place d is.there)) in
    subst BeginsLeast (sym items) (subst (All (λ (y : StreamItem). first.actor ≤ y.place)) items (All-map (λ (y : StreamItem). first.actor ≤ y.place) f new turned))
