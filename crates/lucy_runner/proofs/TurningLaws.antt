-- A turn of the worker of each seat is one of all parts.
use Rattle.std.proofs.Common.{ℕ, suc, zero, ◌+◌, ◌<◌, ◌≤◌, ◌≡◌, List, [], ◌∷◌, length, get_or, set, ap, sym, refl, ◌∙◌, subst, inl, inr, arith}
use Rattle.std.specs.Prelude.{All, Some, slice_get, sum_by}
use Rattle.std.specs.Option.{option_map}
use Rattle.std.proofs.lemmas.Option.{slice_get-map, slice_get-get_or, slice_get_within, get_or_from_slice_get}
use Rattle.std.proofs.lemmas.Bool.{cases_eq}
use Rattle.std.proofs.lemmas.List.{length-map, get_or_default, get_or-set_same, get_or-set_other}
use Rattle.std.proofs.lemmas.List.Sums.{sum_by-cons}
use Rattle.lucy_host.specs.declared.kind.HostKind.{HostKind}
use Rattle.lucy_worker.specs.declared.part.Part.{Part}
use Rattle.lucy_worker.specs.Parts.{IsDone}
use Rattle.lucy_worker.specs.Turns.{IsServed, done_by, most_moves}
use Rattle.lucy_runner.specs.declared.seat.Seat.{Seat}
use Rattle.lucy_runner.specs.Crews.{seated, crew_of}
use Rattle.lucy_runner.specs.Turns.{AreServed, HasTurned, HaveTurned}
use Rattle.lucy_runner.specs.Seats.{moves_of, IsTurned}

-- the parts of a seat's worker
pub crew_at : (seats : List Seat) (s : ℕ) (d : Seat) → s < length seats → slice_get (crew_of seats) s ≡ Some (seated (get_or seats s d))
crew_at seats s d l = slice_get-map seated seats s ∙ ap (option_map seated) (slice_get-get_or seats s d l)

pub crew_get : (seats : List Seat) (s : ℕ) (d : Seat) (parts : List Part) → slice_get (crew_of seats) s ≡ Some parts → seated (get_or seats s d) ≡ parts
crew_get [] s d parts e = absurd (cc)
crew_get (x ∷ seats) zero d parts e = cc
crew_get (x ∷ seats) (suc s) d parts e = crew_get seats s d parts e

-- the operators of a seat's worker
pub served_at : (seats : List Seat) (count k : ℕ) (d : Seat) → AreServed count (crew_of seats) → k < length seats → All (IsServed count) (get_or seats k d).worker.parts
served_at seats count k d served l = λ j e m.
    let parts : List Part = (get_or seats k d).worker.parts in
    served k j parts (get_or parts j e) (crew_at seats k d l) (slice_get-get_or parts j e m)

-- those of all seats
pub served_each : (seats : List Seat) (count : ℕ) → AreServed count (crew_of seats) → All (λ seat. All (IsServed count) seat.worker.parts)
    seats
served_each seats count served = λ k d l. served_at seats count k d served l

sums : (kinds : List HostKind) (before after : List Seat) → length after ≡ length before → ((k : ℕ) (d : Seat) → k < length before → IsTurned kinds (get_or before k d) (get_or after k d)) →
    sum_by done_by (crew_of after) ≡ sum_by done_by (crew_of before) + sum_by moves_of after
sums kinds [] [] len each = refl
sums kinds [] (y ∷ after) len each = absurd (omega arith)
sums kinds (x ∷ before) [] len each = absurd (omega arith)
sums kinds (x ∷ before) (y ∷ after) len each =
    let one : done_by (seated y) ≡ done_by (seated x) + moves_of y = (each 0 x (omega arith)).counted in
    let rest : sum_by done_by (crew_of after) ≡ sum_by done_by (crew_of before) + sum_by moves_of after = sums kinds before after (omega arith) (λ k d l. each (suc k) d (omega arith)) in
    omega (arith, one, rest, sum_by-cons done_by (seated y) (crew_of after), sum_by-cons done_by (seated x) (crew_of before), sum_by-cons moves_of y after)

each_turned : (kinds : List HostKind) (before after : List Seat) (s : ℕ) → s < length before → ((k : ℕ) (d : Seat) → k < length before → IsTurned kinds (get_or before k d) (get_or after k d)) → (ps qs : List Part) →
    slice_get (crew_of before) s ≡ Some ps → slice_get (crew_of after) s ≡ Some qs → HasTurned kinds ps qs
each_turned kinds [] after s l each ps qs e f = absurd (omega arith)
each_turned kinds (x ∷ before) after s l each ps qs e f =
    let one : HasTurned kinds (seated (get_or (x ∷ before) s x)) (seated (get_or after s x)) = (each s x l).turned in
    subst (λ (p : List Part). HasTurned kinds p qs) (crew_get (x ∷ before) s x ps e) (subst (λ (q : List Part). HasTurned kinds (seated (get_or (x ∷ before) s x)) q) (crew_get after s x qs f) one)

pub all_turned : (kinds : List HostKind) (before after : List Seat) (moves : ℕ) → length after ≡ length before → ((k : ℕ) (d : Seat) → k < length before → IsTurned kinds (get_or before k d) (get_or after k d)) → moves ≡ sum_by moves_of after →
    HaveTurned kinds (crew_of before) (crew_of after) moves
all_turned kinds before after moves len each is = record {
  as_many = length-map after seated ∙ len ∙ sym (length-map before seated);
  each = λ s ps qs e f.
      (let l : s < length before = omega (arith, slice_get_within (crew_of before) s ps e, length-map before seated) in
      each_turned kinds before after s l each ps qs e f);
  counted = omega (arith, sums kinds before after len each);
}

-- one seat more
pub turned_more : (kinds : List HostKind) (before now : List Seat) (i : ℕ) (d y : Seat) → i < length now → ((k : ℕ) (e : Seat) → k < i → IsTurned kinds (get_or before k e) (get_or now k e)) → ((k : ℕ) (e : Seat) → i ≤ k → get_or now k e ≡ get_or before k e) →
    IsTurned kinds (get_or now i d) y → (k : ℕ) (e : Seat) → k < i + 1 → IsTurned kinds (get_or before k e) (get_or (set now i y) k e)
turned_more kinds before now i d y l done same one k e less = elim (cases_eq k i) [
  | inl here ↦
      let x : get_or now i d ≡ get_or before k e = get_or_default now i d e l ∙ same i e (omega arith) ∙ ap (λ n. get_or before n e) (sym here) in
      let z : y ≡ get_or (set now i y) k e = sym (get_or-set_same now i y e l) ∙ ap (λ n. get_or (set now i y) n e) (sym here) in
      subst (λ (v : Seat). IsTurned kinds v (get_or (set now i y) k e)) x (subst (λ (v : Seat). IsTurned kinds (get_or now i d) v) z one)
  | inr ne ↦ subst (λ (v : Seat). IsTurned kinds (get_or before k e) v) (sym (get_or-set_other now i k y e ne)) (done k e (omega (arith, ne)))
]

pub rest_more : (before now : List Seat) (i : ℕ) (y : Seat) → ((k : ℕ) (e : Seat) → i ≤ k → get_or now k e ≡ get_or before k e) → (k : ℕ) (e : Seat) → i + 1 ≤ k → get_or (set now i y) k e ≡ get_or before k e
rest_more before now i y same k e l = get_or-set_other now i k y e (λ (here : k ≡ i). absurd (omega arith)) ∙ same k e (omega arith)

-- no worker made many moves
pub turned_few : (kinds : List HostKind) (before after : List Seat) → length after ≡ length before →
    ((k : ℕ) (d : Seat) → k < length before → IsTurned kinds (get_or before k d) (get_or after k d)) → All
    (λ seat. seat.moves ≤ most_moves) after
turned_few kinds before after len each = λ k d l. (each k d (omega arith)).few

-- all parts are done where those of each seat are
pub done_at : (seats : List Seat) → All (λ seat. All IsDone seat.worker.parts) seats → (s k : ℕ) (parts : List Part) (p : Part) → slice_get (crew_of seats) s ≡ Some parts → slice_get parts k ≡ Some p → IsDone p
done_at [] done s k parts p e f = absurd (cc)
done_at (x ∷ seats) done s k parts p e f =
    let l : s < length (x ∷ seats) = omega (arith, slice_get_within (crew_of (x ∷ seats)) s parts e, length-map (x ∷ seats) seated) in
    let same : seated (get_or (x ∷ seats) s x) ≡ parts = crew_get (x ∷ seats) s x parts e in
    let here : All IsDone parts = subst (λ (ps : List Part). All IsDone ps) same (done s x l) in
    subst IsDone (get_or_from_slice_get parts k p p f) (here k p (slice_get_within parts k p f))

pub done_each : (seats : List Seat) → ((s k : ℕ) (parts : List Part) (p : Part) → slice_get (crew_of seats) s ≡ Some parts → slice_get parts k ≡ Some p → IsDone p) → All (λ seat. All IsDone seat.worker.parts) seats
done_each seats done = λ s d l k e m.
    let parts : List Part = seated (get_or seats s d) in
    done s k parts (get_or parts k e) (crew_at seats s d l) (slice_get-get_or parts k e m)
