-- Meetings of the ends at seats.
use Rattle.std.proofs.Common.{ℕ, ◌-◌, ◌<◌, ◌≡◌, List, [], ◌++◌, length, get_or, set, ap, sym, ◌∙◌, subst, arith, length-append}
use Rattle.std.proofs.lemmas.Option.{get_or_from_slice_get}
use Rattle.std.proofs.lemmas.List.{map-set, length-map, get_or_append_left, get_or-append_right}
use Rattle.lucy_worker.specs.declared.part.Part.{Part}
use Rattle.lucy_worker.specs.declared.place.EndPlace.{EndPlace}
use Rattle.lucy_worker.specs.Meets.{HasGiver, HasTaker, AreOfOneRing, MetBetween, MetWithin}
use Rattle.lucy_worker.proofs.WithinLaws.{set_two, set_apart}
use Rattle.lucy_runner.specs.declared.seat.Seat.{Seat}
use Rattle.lucy_runner.specs.Crews.{seated, crew_of}
use Rattle.lucy_runner.specs.Seats.{parts_at, HaveMetAt}
use Rattle.lucy_runner.proofs.TurningLaws.{crew_at}
use Rattle.lucy_runner.proofs.MeetingLaws.{within_all, between_all}

-- the parts of the worker of a seat
pub parts_are : (seats : List Seat) (s : ℕ) (d : Seat) → s < length seats → parts_at (crew_of seats) s ≡ seated (get_or seats s d)
parts_are seats s d l = get_or_from_slice_get (crew_of seats) s (seated (get_or seats s d)) [] (crew_at seats s d l)

-- in a list that was cut in two
pub left_parts : (seats l r : List Seat) (s : ℕ) (d : Seat) → seats ≡ l ++ r → s < length l → parts_at (crew_of seats) s ≡ seated (get_or l s d)
left_parts seats l r s d e less =
    let inside : s < length seats = omega (arith, ap (λ (xs : List Seat). length xs) e, length-append l r) in
    parts_are seats s d inside ∙ ap seated (ap (λ (xs : List Seat). get_or xs s d) e ∙ get_or_append_left l r d s less)

pub right_parts : (seats l r : List Seat) (t : ℕ) (d : Seat) → seats ≡ l ++ r → length l ≡ t → t < length seats → parts_at (crew_of seats) t ≡ seated (get_or r 0 d)
right_parts seats l r t d e len there =
    let zero_it : t - t ≡ 0 = omega arith in
    parts_are seats t d there ∙ ap seated (ap (λ (xs : List Seat). get_or xs t d) e ∙ get_or-append_right l r t t d len (omega arith) ∙ ap (λ (k : ℕ). get_or r k d) zero_it)

-- the same parts have the same ends
pub has_giver : (ps qs : List Part) (giver : EndPlace) → ps ≡ qs → HasGiver ps giver → HasGiver qs giver
has_giver ps qs giver same has = subst (λ (xs : List Part). HasGiver xs giver) same has

pub has_taker : (ps qs : List Part) (taker : EndPlace) → ps ≡ qs → HasTaker ps taker → HasTaker qs taker
has_taker ps qs taker same has = subst (λ (xs : List Part). HasTaker xs taker) same has

pub one_ring : (ps ps2 qs qs2 : List Part) (giver taker : EndPlace) → ps ≡ ps2 → qs ≡ qs2 → AreOfOneRing ps giver qs taker → AreOfOneRing ps2 giver qs2 taker
one_ring ps ps2 qs qs2 giver taker same other ring = subst (λ (xs : List Part). AreOfOneRing xs giver qs2 taker) same (subst (λ (xs : List Part). AreOfOneRing ps giver xs taker) other ring)

-- ends of one worker that met
pub own_met : (seats : List Seat) (s t : ℕ) (giver taker : EndPlace) (d y : Seat) → s ≡ t → s < length seats → MetWithin (seated (get_or seats s d)) giver taker (seated y) → HaveMetAt (crew_of seats) s giver t taker (crew_of (set seats s y))
own_met seats s t giver taker d y same l met =
    let here : MetWithin (parts_at (crew_of seats) s) giver taker (seated y) = subst (λ (ps : List Part). MetWithin ps giver taker (seated y)) (sym (parts_are seats s d l)) met in
    let all : HaveMetAt (crew_of seats) s giver s taker (set (crew_of seats) s (seated y)) = within_all (crew_of seats) s giver taker (seated y) (omega (arith, length-map seats seated)) here in
    subst (λ (k : ℕ). HaveMetAt (crew_of seats) s giver k taker (crew_of (set seats s y))) same
    (subst (λ (c : List (List Part)). HaveMetAt (crew_of seats) s giver s taker c) (sym (map-set seated seats s y)) all)

-- ends of two
two_met : (seats next : List Seat) (s t : ℕ) (giver taker : EndPlace) (a b x y : Seat) → (s ≡ t → ⊥) → parts_at (crew_of seats) s ≡ seated a → parts_at (crew_of seats) t ≡ seated b → MetBetween (seated a) giver (seated b) taker (seated x) (seated y) →
    next ≡ set (set seats s x) t y → HaveMetAt (crew_of seats) s giver t taker (crew_of next)
two_met seats next s t giver taker a b x y ne a_is b_is met e =
    let crew : List (List Part) = crew_of seats in
    let first : MetBetween (parts_at crew s) giver (seated b) taker (seated x) (seated y) = subst (λ (ps : List Part). MetBetween ps giver (seated b) taker (seated x) (seated y)) (sym a_is) met in
    let both : MetBetween (parts_at crew s) giver (parts_at crew t) taker (seated x) (seated y) = subst (λ (ps : List Part). MetBetween (parts_at crew s) giver ps taker (seated x) (seated y)) (sym b_is) first in
    let all : HaveMetAt crew s giver t taker (set (set crew s (seated x)) t (seated y)) = between_all crew s t giver taker (seated x) (seated y) ne both in
    let as_set : crew_of next ≡ set (set crew s (seated x)) t (seated y) = ap crew_of e ∙ map-set seated (set seats s x) t y ∙ ap (λ (c : List (List Part)). set c t (seated y)) (map-set seated seats s x) in
    subst (λ (c : List (List Part)). HaveMetAt crew s giver t taker c) (sym as_set) all

pub left_met : (seats l r : List Seat) (s t : ℕ) (giver taker : EndPlace) (d e x y : Seat) → seats ≡ l ++ r → length l ≡ t → s < t → t < length seats → MetBetween (seated (get_or l s d)) giver (seated (get_or r 0 e)) taker (seated x) (seated y) →
    HaveMetAt (crew_of seats) s giver t taker (crew_of (set l s x ++ set r 0 y))
left_met seats l r s t giver taker d e x y cut len less there met =
    two_met seats (set l s x ++ set r 0 y) s t giver taker (get_or l s d) (get_or r 0 e) x y (λ (same : s ≡ t). absurd (omega arith))
    (left_parts seats l r s d cut (omega arith)) (right_parts seats l r t e cut len there) met (set_two seats l r s t x y cut len less)

pub right_met : (seats l r : List Seat) (s t : ℕ) (giver taker : EndPlace) (d e x y : Seat) → seats ≡ l ++ r → length l ≡ s → t < s → s < length seats → MetBetween (seated (get_or r 0 d)) giver (seated (get_or l t e)) taker (seated x) (seated y) →
    HaveMetAt (crew_of seats) s giver t taker (crew_of (set l t y ++ set r 0 x))
right_met seats l r s t giver taker d e x y cut len less there met =
    two_met seats (set l t y ++ set r 0 x) s t giver taker (get_or r 0 d) (get_or l t e) x y (λ (same : s ≡ t). absurd (omega arith))
    (right_parts seats l r s d cut len there) (left_parts seats l r t e cut (omega arith)) met
    (set_two seats l r t s y x cut len less ∙ set_apart seats t s y x (λ (same : t ≡ s). absurd (omega arith)))
