use Rattle.std.proofs.Common.{◌≡◌, List, length, ap, ◌∙◌, subst}
use Rattle.lucy_host.specs.Operators.{kinds_of}
use Rattle.lucy_core.specs.Seen.{Seen}
use Rattle.lucy_runner.specs.declared.seat.Seat.{Seat}
use Rattle.lucy_runner.specs.Views.{RunnerView}
use Rattle.lucy_runner.specs.Homes.{actors_by}
use Rattle.lucy_runner.specs.Crews.{crew_of, seen_by}
use Rattle.lucy_runner.specs.Turns.{AreServed}
use Rattle.lucy_runner.specs.Finishing.{HaveFinished}
use Rattle.lucy_runner.specs.Rounds.{IsRoundTo}
use Rattle.lucy_runner.proofs.StandingLaws.{served_in, held_in, back_in, joined_here, round_here}
use Rattle.lucy_runner.proofs.FinishingLaws.{finished_turned, finished_done, done_met, over_here}
use Rattle.lucy_runner.proofs.runner.Runner.round_by_turns.Goals as goal

pub turns-requires : goal.turns-requires
turns-requires g c =
    let x = c.self.inside in
    let entry : List Seat = c.as_mut_slice-seats.result.now in
    let kinds : kinds_of x.ops ≡ kinds_of c.args.self.now.seen.operators = ap (λ (v : RunnerView). kinds_of v.seen.operators)
    c.self.view_is in
    let served : AreServed (length c.args.self.now.seen.operators) (crew_of entry) =
    served_in x.net x.schedule x.ops c.args.self.now.seen.operators x.instants x.before x.seats.items entry x.places.items x.ends.items
    c.self.invariant.0 kinds c.as_mut_slice-seats.ensures.value in
    let held : actors_by (crew_of entry) ≡ c.args.self.now.crew = held_in x.seats.items entry c.args.self.now.crew (ap (λ (v : RunnerView). v.crew) c.self.view_is) c.as_mut_slice-seats.ensures.value in
    (c.requires _ served held).0

pub meet_all-requires : goal.meet_all-requires
meet_all-requires g c =
    let x = c.self.inside in
    let entry : List Seat = c.as_mut_slice-seats.result.now in
    let kinds : kinds_of x.ops ≡ kinds_of c.args.self.now.seen.operators = ap (λ (v : RunnerView). kinds_of v.seen.operators)
    c.self.view_is in
    let served : AreServed (length c.args.self.now.seen.operators) (crew_of entry) =
    served_in x.net x.schedule x.ops c.args.self.now.seen.operators x.instants x.before x.seats.items entry x.places.items x.ends.items
    c.self.invariant.0 kinds c.as_mut_slice-seats.ensures.value in
    let ks = kinds_of c.args.self.now.seen.operators in
    let held : actors_by (crew_of entry) ≡ c.args.self.now.crew = held_in x.seats.items entry c.args.self.now.crew (ap (λ (v : RunnerView). v.crew) c.self.view_is) c.as_mut_slice-seats.ensures.value in
    let finished : HaveFinished ks entry c.turns.new.arg2 = (c.requires _ served held).1 _ _ c.turns.ensures in
    let (moves, turn) = finished_turned ks entry c.turns.new.arg2 finished in
    record {
      joined = joined_here x.net x.schedule x.ops x.instants x.before moves x.seats.len ks x.seats.items entry c.turns.new.arg2
          x.places.items c.as_slice-places.result.now x.ends.items c.as_slice-ends.result.now c.list.result.now
          c.self.invariant.0 kinds c.as_mut_slice-seats.ensures.value c.as_slice-places.ensures.value c.as_slice-ends.ensures.value
          c.list.ensures turn;
    }

pub invariant_of-self : goal.invariant_of-self
invariant_of-self g c =
    let x = c.self.inside in
    let entry : List Seat = c.as_mut_slice-seats.result.now in
    let kinds : kinds_of x.ops ≡ kinds_of c.args.self.now.seen.operators = ap (λ (v : RunnerView). kinds_of v.seen.operators)
    c.self.view_is in
    let served : AreServed (length c.args.self.now.seen.operators) (crew_of entry) =
    served_in x.net x.schedule x.ops c.args.self.now.seen.operators x.instants x.before x.seats.items entry x.places.items x.ends.items
    c.self.invariant.0 kinds c.as_mut_slice-seats.ensures.value in
    let ks = kinds_of c.args.self.now.seen.operators in
    let held : actors_by (crew_of entry) ≡ c.args.self.now.crew = held_in x.seats.items entry c.args.self.now.crew (ap (λ (v : RunnerView). v.crew) c.self.view_is) c.as_mut_slice-seats.ensures.value in
    let finished : HaveFinished ks entry c.turns.new.arg2 = (c.requires _ served held).1 _ _ c.turns.ensures in
    let (moves, turn) = finished_turned ks entry c.turns.new.arg2 finished in
    let over = round_here x.net x.schedule x.ops x.instants x.before moves x.seats.len ks x.seats.items entry c.turns.new.arg2
    x.places.items c.as_slice-places.result.now x.ends.items c.as_slice-ends.result.now c.list.result.now
    c.self.invariant.0 kinds c.as_mut_slice-seats.ensures.value c.as_slice-places.ensures.value c.as_slice-ends.ensures.value
    c.list.ensures turn
    c.meet_all.new.seats (c.meet_all.auto.seats ∙ c.turns.auto.arg2 ∙ c.as_mut_slice-seats.ensures.len) c.meet_all.ensures in
    (over.stands, c.self.invariant.1)

pub returns-clause-round : goal.returns-clause-round
returns-clause-round g c =
    let x = c.self.inside in
    let entry : List Seat = c.as_mut_slice-seats.result.now in
    let kinds : kinds_of x.ops ≡ kinds_of c.args.self.now.seen.operators = ap (λ (v : RunnerView). kinds_of v.seen.operators)
    c.self.view_is in
    let served : AreServed (length c.args.self.now.seen.operators) (crew_of entry) =
    served_in x.net x.schedule x.ops c.args.self.now.seen.operators x.instants x.before x.seats.items entry x.places.items x.ends.items
    c.self.invariant.0 kinds c.as_mut_slice-seats.ensures.value in
    let ks = kinds_of c.args.self.now.seen.operators in
    let held : actors_by (crew_of entry) ≡ c.args.self.now.crew = held_in x.seats.items entry c.args.self.now.crew (ap (λ (v : RunnerView). v.crew) c.self.view_is) c.as_mut_slice-seats.ensures.value in
    let finished : HaveFinished ks entry c.turns.new.arg2 = (c.requires _ served held).1 _ _ c.turns.ensures in
    let (moves, turn) = finished_turned ks entry c.turns.new.arg2 finished in
    let over = round_here x.net x.schedule x.ops x.instants x.before moves x.seats.len ks x.seats.items entry c.turns.new.arg2
    x.places.items c.as_slice-places.result.now x.ends.items c.as_slice-ends.result.now c.list.result.now
    c.self.invariant.0 kinds c.as_mut_slice-seats.ensures.value c.as_slice-places.ensures.value c.as_slice-ends.ensures.value
    c.list.ensures turn
    c.meet_all.new.seats (c.meet_all.auto.seats ∙ c.turns.auto.arg2 ∙ c.as_mut_slice-seats.ensures.len) c.meet_all.ensures in
    let next : Seen = seen_by x.net x.schedule x.ops x.instants (crew_of (back_in x.seats.len c.meet_all.new.seats x.seats.items))
    x.places.items in
    (moves, subst (λ (v : RunnerView). IsRoundTo v.seen next moves) c.self.view_is over.leads)

pub returns-clause-finished : goal.returns-clause-finished
returns-clause-finished g c =
    let x = c.self.inside in
    let entry : List Seat = c.as_mut_slice-seats.result.now in
    let kinds : kinds_of x.ops ≡ kinds_of c.args.self.now.seen.operators = ap (λ (v : RunnerView). kinds_of v.seen.operators)
    c.self.view_is in
    let served : AreServed (length c.args.self.now.seen.operators) (crew_of entry) =
    served_in x.net x.schedule x.ops c.args.self.now.seen.operators x.instants x.before x.seats.items entry x.places.items x.ends.items
    c.self.invariant.0 kinds c.as_mut_slice-seats.ensures.value in
    let ks = kinds_of c.args.self.now.seen.operators in
    let held : actors_by (crew_of entry) ≡ c.args.self.now.crew = held_in x.seats.items entry c.args.self.now.crew (ap (λ (v : RunnerView). v.crew) c.self.view_is) c.as_mut_slice-seats.ensures.value in
    let finished : HaveFinished ks entry c.turns.new.arg2 = (c.requires _ served held).1 _ _ c.turns.ensures in
    let (moves, turn) = finished_turned ks entry c.turns.new.arg2 finished in
    let over = round_here x.net x.schedule x.ops x.instants x.before moves x.seats.len ks x.seats.items entry c.turns.new.arg2
    x.places.items c.as_slice-places.result.now x.ends.items c.as_slice-ends.result.now c.list.result.now
    c.self.invariant.0 kinds c.as_mut_slice-seats.ensures.value c.as_slice-places.ensures.value c.as_slice-ends.ensures.value
    c.list.ensures turn
    c.meet_all.new.seats (c.meet_all.auto.seats ∙ c.turns.auto.arg2 ∙ c.as_mut_slice-seats.ensures.len) c.meet_all.ensures in
    over_here x.net x.schedule x.ops x.instants x.before x.seats.len x.seats.items c.meet_all.new.seats x.places.items x.ends.items
    over.stands
    (c.meet_all.auto.seats ∙ c.turns.auto.arg2 ∙ c.as_mut_slice-seats.ensures.len)
    (done_met (crew_of c.turns.new.arg2) (crew_of c.meet_all.new.seats) c.meet_all.ensures.rest (finished_done ks entry c.turns.new.arg2
    finished))

pub returns-clause-crew : goal.returns-clause-crew
returns-clause-crew g c =
    let x = c.self.inside in
    let entry : List Seat = c.as_mut_slice-seats.result.now in
    let kinds : kinds_of x.ops ≡ kinds_of c.args.self.now.seen.operators = ap (λ (v : RunnerView). kinds_of v.seen.operators)
    c.self.view_is in
    let served : AreServed (length c.args.self.now.seen.operators) (crew_of entry) =
    served_in x.net x.schedule x.ops c.args.self.now.seen.operators x.instants x.before x.seats.items entry x.places.items x.ends.items
    c.self.invariant.0 kinds c.as_mut_slice-seats.ensures.value in
    let ks = kinds_of c.args.self.now.seen.operators in
    let held : actors_by (crew_of entry) ≡ c.args.self.now.crew = held_in x.seats.items entry c.args.self.now.crew (ap (λ (v : RunnerView). v.crew) c.self.view_is) c.as_mut_slice-seats.ensures.value in
    let finished : HaveFinished ks entry c.turns.new.arg2 = (c.requires _ served held).1 _ _ c.turns.ensures in
    let (moves, turn) = finished_turned ks entry c.turns.new.arg2 finished in
    let over = round_here x.net x.schedule x.ops x.instants x.before moves x.seats.len ks x.seats.items entry c.turns.new.arg2
    x.places.items c.as_slice-places.result.now x.ends.items c.as_slice-ends.result.now c.list.result.now
    c.self.invariant.0 kinds c.as_mut_slice-seats.ensures.value c.as_slice-places.ensures.value c.as_slice-ends.ensures.value
    c.list.ensures turn
    c.meet_all.new.seats (c.meet_all.auto.seats ∙ c.turns.auto.arg2 ∙ c.as_mut_slice-seats.ensures.len) c.meet_all.ensures in
    over.kept ∙ ap (λ (v : RunnerView). v.crew) c.self.view_is
