use Rattle.std.proofs.Common.{◌≡◌, ◌+◌, List, length, ap, sym, ◌∙◌, subst}
use Rattle.lucy_host.specs.Host.{lent}
use Rattle.lucy_host.specs.Operators.{kinds_of}
use Rattle.lucy_core.specs.Seen.{Seen}
use Rattle.lucy_runner.specs.declared.seat.Seat.{Seat}
use Rattle.lucy_runner.specs.Views.{RunnerView}
use Rattle.lucy_runner.specs.Crews.{crew_of, seen_by}
use Rattle.lucy_runner.specs.Turns.{HaveTurned}
use Rattle.lucy_runner.specs.Rounds.{IsRoundTo}
use Rattle.lucy_runner.proofs.TurningLaws.{served_each}
use Rattle.lucy_runner.proofs.RunLaws.{turned_run, turned_on, served_on}
use Rattle.lucy_runner.proofs.StandingLaws.{served_in, back_in, joined_here, round_here}
use Rattle.lucy_runner.proofs.runner.Runner.round.Goals as goal

pub turn_apart-turned-requires-clause-served : goal.turn_apart-turned-requires-clause-served
turn_apart-turned-requires-clause-served g c κs within =
    let x = c.self.inside in
    let kinds : kinds_of x.ops ≡ kinds_of (lent c.args.host.now) = ap (λ (v : RunnerView). kinds_of v.seen.operators) c.self.view_is ∙ sym
    c.requires.kinds in
    served_each c.as_mut_slice-seats.result.now (length (lent c.args.host.now))
    (served_in x.net x.schedule x.ops (lent c.args.host.now) x.instants x.before x.seats.items c.as_mut_slice-seats.result.now
    x.places.items x.ends.items c.self.invariant.0 kinds c.as_mut_slice-seats.ensures.value)

pub passes_along-requires-clause-served : goal.passes_along-requires-clause-served
passes_along-requires-clause-served g c κs within =
    let x = c.self.inside in
    let kinds : kinds_of x.ops ≡ kinds_of (lent c.args.host.now) = ap (λ (v : RunnerView). kinds_of v.seen.operators) c.self.view_is ∙ sym
    c.requires.kinds in
    let entry : List Seat = c.as_mut_slice-seats.result.now in
    let ks = kinds_of (lent c.args.host.now) in
    let turn : HaveTurned ks (crew_of entry) (crew_of c.turn_apart-turned.new.seats) c.turn_apart-turned.result = c.turn_apart-turned.ensures.turned in
    served_on ks (length (lent c.args.host.now)) (crew_of entry) (crew_of c.turn_apart-turned.new.seats) c.turn_apart-turned.result
    (turned_run ks (crew_of entry) (crew_of c.turn_apart-turned.new.seats) c.turn_apart-turned.result turn)
    (served_in x.net x.schedule x.ops (lent c.args.host.now) x.instants x.before x.seats.items entry x.places.items x.ends.items
    c.self.invariant.0 kinds c.as_mut_slice-seats.ensures.value)

pub meet_all-requires : goal.meet_all-requires
meet_all-requires g c =
    let x = c.self.inside in
    let ks = kinds_of (lent c.args.host.now) in
    let kinds : kinds_of x.ops ≡ ks = ap (λ (v : RunnerView). kinds_of v.seen.operators) c.self.view_is ∙ sym c.requires.kinds in
    let entry : List Seat = c.as_mut_slice-seats.result.now in
    let turn : HaveTurned ks (crew_of entry) (crew_of c.turn_apart-turned.new.seats) c.turn_apart-turned.result = c.turn_apart-turned.ensures.turned in
    let turned : HaveTurned ks (crew_of entry) (crew_of c.passes_along.new.seats) (c.turn_apart-turned.result + c.passes_along.result) =
    turned_on ks (crew_of entry) (crew_of c.turn_apart-turned.new.seats) (crew_of c.passes_along.new.seats) c.turn_apart-turned.result c.passes_along.result turn
    c.passes_along.ensures.run in
    record {
      joined = joined_here x.net x.schedule x.ops x.instants x.before (c.turn_apart-turned.result + c.passes_along.result) x.seats.len ks
          x.seats.items entry c.passes_along.new.seats
          x.places.items c.as_slice-2.result.now x.ends.items c.as_slice-3.result.now c.list.result.now
          c.self.invariant.0 kinds c.as_mut_slice-seats.ensures.value c.as_slice-2.ensures.value c.as_slice-3.ensures.value c.list.ensures
          turned;
    }

pub invariant_of-self : goal.invariant_of-self
invariant_of-self g c =
    let x = c.self.inside in
    let ks = kinds_of (lent c.args.host.now) in
    let kinds : kinds_of x.ops ≡ ks = ap (λ (v : RunnerView). kinds_of v.seen.operators) c.self.view_is ∙ sym c.requires.kinds in
    let entry : List Seat = c.as_mut_slice-seats.result.now in
    let turn : HaveTurned ks (crew_of entry) (crew_of c.turn_apart-turned.new.seats) c.turn_apart-turned.result = c.turn_apart-turned.ensures.turned in
    let turned : HaveTurned ks (crew_of entry) (crew_of c.passes_along.new.seats) (c.turn_apart-turned.result + c.passes_along.result) =
    turned_on ks (crew_of entry) (crew_of c.turn_apart-turned.new.seats) (crew_of c.passes_along.new.seats) c.turn_apart-turned.result c.passes_along.result turn
    c.passes_along.ensures.run in
    let over = round_here x.net x.schedule x.ops x.instants x.before (c.turn_apart-turned.result + c.passes_along.result) x.seats.len ks
    x.seats.items entry c.passes_along.new.seats
    x.places.items c.as_slice-2.result.now x.ends.items c.as_slice-3.result.now c.list.result.now
    c.self.invariant.0 kinds c.as_mut_slice-seats.ensures.value c.as_slice-2.ensures.value c.as_slice-3.ensures.value c.list.ensures turned
    c.meet_all.new.seats
    (c.meet_all.auto.seats ∙ c.passes_along.auto.seats ∙ c.turn_apart-turned.auto.seats ∙ c.as_mut_slice-seats.ensures.len) c.meet_all.ensures in
    (over.stands, c.self.invariant.1)

pub returns-clause-round : goal.returns-clause-round
returns-clause-round g c =
    let x = c.self.inside in
    let ks = kinds_of (lent c.args.host.now) in
    let kinds : kinds_of x.ops ≡ ks = ap (λ (v : RunnerView). kinds_of v.seen.operators) c.self.view_is ∙ sym c.requires.kinds in
    let entry : List Seat = c.as_mut_slice-seats.result.now in
    let turn : HaveTurned ks (crew_of entry) (crew_of c.turn_apart-turned.new.seats) c.turn_apart-turned.result = c.turn_apart-turned.ensures.turned in
    let turned : HaveTurned ks (crew_of entry) (crew_of c.passes_along.new.seats) (c.turn_apart-turned.result + c.passes_along.result) =
    turned_on ks (crew_of entry) (crew_of c.turn_apart-turned.new.seats) (crew_of c.passes_along.new.seats) c.turn_apart-turned.result c.passes_along.result turn
    c.passes_along.ensures.run in
    let over = round_here x.net x.schedule x.ops x.instants x.before (c.turn_apart-turned.result + c.passes_along.result) x.seats.len ks
    x.seats.items entry c.passes_along.new.seats
    x.places.items c.as_slice-2.result.now x.ends.items c.as_slice-3.result.now c.list.result.now
    c.self.invariant.0 kinds c.as_mut_slice-seats.ensures.value c.as_slice-2.ensures.value c.as_slice-3.ensures.value c.list.ensures turned
    c.meet_all.new.seats
    (c.meet_all.auto.seats ∙ c.passes_along.auto.seats ∙ c.turn_apart-turned.auto.seats ∙ c.as_mut_slice-seats.ensures.len) c.meet_all.ensures in
    let next : Seen = seen_by x.net x.schedule x.ops x.instants (crew_of (back_in x.seats.len c.meet_all.new.seats x.seats.items))
    x.places.items in
    subst (λ (v : RunnerView). IsRoundTo v.seen next (c.turn_apart-turned.result + c.passes_along.result)) c.self.view_is over.leads

pub returns-clause-crew : goal.returns-clause-crew
returns-clause-crew g c =
    let x = c.self.inside in
    let ks = kinds_of (lent c.args.host.now) in
    let kinds : kinds_of x.ops ≡ ks = ap (λ (v : RunnerView). kinds_of v.seen.operators) c.self.view_is ∙ sym c.requires.kinds in
    let entry : List Seat = c.as_mut_slice-seats.result.now in
    let turn : HaveTurned ks (crew_of entry) (crew_of c.turn_apart-turned.new.seats) c.turn_apart-turned.result = c.turn_apart-turned.ensures.turned in
    let turned : HaveTurned ks (crew_of entry) (crew_of c.passes_along.new.seats) (c.turn_apart-turned.result + c.passes_along.result) =
    turned_on ks (crew_of entry) (crew_of c.turn_apart-turned.new.seats) (crew_of c.passes_along.new.seats) c.turn_apart-turned.result c.passes_along.result turn
    c.passes_along.ensures.run in
    let over = round_here x.net x.schedule x.ops x.instants x.before (c.turn_apart-turned.result + c.passes_along.result) x.seats.len ks
    x.seats.items entry c.passes_along.new.seats
    x.places.items c.as_slice-2.result.now x.ends.items c.as_slice-3.result.now c.list.result.now
    c.self.invariant.0 kinds c.as_mut_slice-seats.ensures.value c.as_slice-2.ensures.value c.as_slice-3.ensures.value c.list.ensures turned
    c.meet_all.new.seats
    (c.meet_all.auto.seats ∙ c.passes_along.auto.seats ∙ c.turn_apart-turned.auto.seats ∙ c.as_mut_slice-seats.ensures.len) c.meet_all.ensures in
    over.kept ∙ ap (λ (v : RunnerView). v.crew) c.self.view_is
