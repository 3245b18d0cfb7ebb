-- Runs of the parts of all workers, one after another and behind a turn.
use Rattle.std.proofs.Common.{ℕ, ◌+◌, ◌<◌, ◌≡◌, List, [], length, get_or, set, ap, sym, ◌∙◌, refl, subst, inl, inr, arith}
use Rattle.std.specs.Prelude.{Some, slice_get, sum_by}
use Rattle.std.proofs.lemmas.Bool.{cases_eq}
use Rattle.std.proofs.lemmas.Option.{slice_get-get_or, slice_get_within, get_or_from_slice_get}
use Rattle.std.proofs.lemmas.List.{length-map, length-set, map-set, get_or-set_same, get_or-set_other}
use Rattle.std.proofs.lemmas.List.Sums.{sum_by-set}
use Rattle.lucy_host.specs.declared.kind.HostKind.{HostKind}
use Rattle.lucy_worker.specs.declared.part.Part.{Part}
use Rattle.lucy_worker.specs.Turns.{HasRun, HaveRun, done_by}
use Rattle.lucy_worker.proofs.Runs.{all_stay, run_on, moved_on, still_served}
use Rattle.lucy_runner.specs.declared.seat.Seat.{Seat}
use Rattle.lucy_runner.specs.Crews.{seated, crew_of}
use Rattle.lucy_runner.specs.Turns.{AreServed, HasTurned, HaveTurned, HaveAllRun}
use Rattle.lucy_runner.proofs.TurningLaws.{crew_at, crew_get}

-- where nothing moves
pub none_run : (kinds : List HostKind) (crew : List (List Part)) → HaveAllRun kinds crew crew 0
none_run kinds crew = record {
  as_many = refl;
  each = λ s ps qs e f. (let same : ps ≡ qs = (let o : Some ps ≡ Some qs = sym e ∙ f in cc) in subst (λ (xs : List Part). HaveRun kinds ps xs) same (all_stay kinds ps));
  counted = omega arith;
}

-- the parts of one more worker
one_run : (kinds : List HostKind) (seats : List Seat) (s moves : ℕ) (d y : Seat) → s < length seats → HaveRun kinds
    (seated (get_or seats s d)) (seated y) → done_by (seated y) ≡ done_by (seated (get_or seats s d)) + moves →
    HaveAllRun kinds (crew_of seats) (crew_of (set seats s y)) moves
one_run kinds seats s moves d y l run counted = record {
  as_many = length-map (set seats s y) seated ∙ length-set seats s y ∙ sym (length-map seats seated);
  each = λ k ps qs e f. elim (cases_eq k s) [
    | inl here ↦
        let was : seated (get_or seats s d) ≡ ps = ap (λ n. seated (get_or seats n d)) (sym here) ∙ crew_get seats k d ps e in
        let is : seated y ≡ qs = ap seated (sym (get_or-set_same seats s y d l)) ∙ ap (λ n. seated (get_or (set seats s y) n d)) (sym here) ∙ crew_get (set seats s y) k d qs f in
        subst (λ (xs : List Part). HaveRun kinds xs qs) was (subst (λ (xs : List Part). HaveRun kinds (seated (get_or seats s d)) xs) is run)
    | inr ne ↦
        let same : ps ≡ qs = sym (crew_get seats k d ps e) ∙ ap seated (sym (get_or-set_other seats s k y d ne)) ∙ crew_get (set seats s y) k d qs f in
        subst (λ (xs : List Part). HaveRun kinds ps xs) same (all_stay kinds ps)
  ];
  counted =
      let sums : sum_by done_by (set (crew_of seats) s (seated y)) + done_by (get_or (crew_of seats) s (seated (get_or seats s d))) ≡ sum_by done_by (crew_of seats) + done_by (seated y) =
      sum_by-set done_by (crew_of seats) s (seated y) (seated (get_or seats s d)) (omega (arith, l, length-map seats seated)) in
      let set_is : sum_by done_by (crew_of (set seats s y)) ≡ sum_by done_by (set (crew_of seats) s (seated y)) = ap (sum_by done_by) (map-set seated seats s y) in
      let at : done_by (get_or (crew_of seats) s (seated (get_or seats s d))) ≡ done_by (seated (get_or seats s d)) =
      ap done_by (get_or_from_slice_get (crew_of seats) s (seated (get_or seats s d)) (seated (get_or seats s d)) (crew_at seats s d l)) in
      omega (arith, sums, set_is, at, counted);
}

-- one run after another
pub runs_on : (kinds : List HostKind) (crew next last : List (List Part)) (moves more : ℕ) → HaveAllRun kinds crew next moves → HaveAllRun kinds next last more → HaveAllRun kinds crew last (moves + more)
runs_on kinds crew next last moves more one two = record {
  as_many = two.as_many ∙ one.as_many;
  each = λ s ps rs e f.
      (let less : s < length next = omega (arith, slice_get_within crew s ps e, one.as_many) in
      let here = slice_get-get_or next s [] less in
      run_on kinds ps (get_or next s []) rs (one.each s ps (get_or next s []) e here) (two.each s (get_or next s []) rs here f));
  counted = omega (arith, one.counted, two.counted);
}

-- the same by other names
pub still_run : (kinds : List HostKind) (before seats after : List Seat) (moves all : ℕ) → HaveAllRun kinds (crew_of before) (crew_of seats)
    moves → after ≡ seats → all ≡ moves → HaveAllRun kinds (crew_of before) (crew_of after) all
still_run kinds before seats after moves all run after_is all_is =
    subst (λ (xs : List Seat). HaveAllRun kinds (crew_of before) (crew_of xs) all) (sym after_is)
    (subst (λ (n : ℕ). HaveAllRun kinds (crew_of before) (crew_of seats) n) (sym all_is) run)

-- and one more worker
pub runs_more : (kinds : List HostKind) (before seats after : List Seat) (s moves more all : ℕ) (d y : Seat) → HaveAllRun kinds
    (crew_of before) (crew_of seats) moves → s < length seats → HaveRun kinds (seated (get_or seats s d)) (seated y) →
    done_by (seated y) ≡ done_by (seated (get_or seats s d)) + more → after ≡ set seats s y → all ≡ moves + more → HaveAllRun kinds
    (crew_of before) (crew_of after) all
runs_more kinds before seats after s moves more all d y run l one counted after_is all_is =
    still_run kinds before (set seats s y) after (moves + more) all
    (runs_on kinds (crew_of before) (crew_of seats) (crew_of (set seats s y)) moves more run
    (one_run kinds seats s more d y l one counted)) after_is all_is

-- and one behind a turn, in which what moved has moved
pub turned_on : (kinds : List HostKind) (crew turned last : List (List Part)) (moves more : ℕ) → HaveTurned kinds crew turned moves → HaveAllRun kinds turned last more → HaveTurned kinds crew last (moves + more)
turned_on kinds crew turned last moves more one two = record {
  as_many = two.as_many ∙ one.as_many;
  each = λ s ps rs e f.
      (let less : s < length turned = omega (arith, slice_get_within crew s ps e, one.as_many) in
      let qs : List Part = get_or turned s [] in
      let here : slice_get turned s ≡ Some qs = slice_get-get_or turned s [] less in
      let first : HasTurned kinds ps qs = one.each s ps qs e here in
      let rest : HaveRun kinds qs rs = two.each s qs rs here f in
      record { run = run_on kinds ps qs rs first.run rest; moved = moved_on kinds ps qs rs first.run first.moved rest });
  counted = omega (arith, one.counted, two.counted);
}

-- by other names
pub turned_as : (kinds : List HostKind) (before turned after : List Seat) (moves all : ℕ) → HaveTurned kinds (crew_of before)
    (crew_of turned) moves → after ≡ turned → all ≡ moves → HaveTurned kinds (crew_of before) (crew_of after) all
turned_as kinds before turned after moves all turns after_is all_is =
    subst (λ (xs : List Seat). HaveTurned kinds (crew_of before) (crew_of xs) all) (sym after_is)
    (subst (λ (n : ℕ). HaveTurned kinds (crew_of before) (crew_of turned) n) (sym all_is) turns)

-- a turn is a run
pub turned_run : (kinds : List HostKind) (crew turned : List (List Part)) (moves : ℕ) → HaveTurned kinds crew turned moves → HaveAllRun kinds crew turned moves
turned_run kinds crew turned moves one = record {
  as_many = one.as_many;
  each = λ s ps qs e f. (one.each s ps qs e f).run;
  counted = one.counted;
}

-- the operators that served all still do
pub served_on : (kinds : List HostKind) (count : ℕ) (crew next : List (List Part)) (moves : ℕ) → HaveAllRun kinds crew next moves → AreServed count crew → AreServed count next
served_on kinds count crew next moves one served = λ s k qs q e f.
    let less : s < length crew = omega (arith, slice_get_within next s qs e, one.as_many) in
    let ps : List Part = get_or crew s [] in
    let here = slice_get-get_or crew s [] less in
    let run = one.each s ps qs here e in
    let inside : k < length ps = omega (arith, slice_get_within qs k q f, run.as_many) in
    let was : HasRun kinds (get_or ps k q) (get_or qs k q) = run.run k q inside in
    let now : HasRun kinds (get_or ps k q) q = subst (λ (p : Part). HasRun kinds (get_or ps k q) p) (get_or_from_slice_get qs k q q f) was in
    still_served kinds count (get_or ps k q) q now (served s k ps (get_or ps k q) here (slice_get-get_or ps k q inside))
