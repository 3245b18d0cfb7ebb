use Rattle.std.proofs.Common.{◌<◌, length, ap, sym, ◌∙◌, arith}
use Rattle.std.specs.Prelude.{Some}
use Rattle.lucy_core.specs.Seen as core
use Rattle.lucy_core.specs.Seen.{Seen}
use Rattle.lucy_worker.specs.declared.part.Part.{Part}
use Rattle.lucy_runner.specs.Views.{RunnerView}
use Rattle.lucy_runner.specs.Crews.{crew_of, seen_by}
use Rattle.lucy_runner.proofs.DoneLaws.{IsCountable, countable, done_here}
use Rattle.lucy_runner.proofs.PlaceLaws.{found}
use Rattle.lucy_runner.proofs.StandingLaws.{IsReadAs, seat_read_at, part_read_at}
use Rattle.lucy_runner.proofs.runner.Runner.done.Goals as goal

pub index-place-requires : goal.index-place-requires
index-place-requires c =
    let x = c.self.inside in
    omega (arith, c.requires, ap (λ (v : RunnerView). length v.seen.net.actors) c.self.view_is, c.self.invariant.0.placed)

pub index-requires : goal.index-requires
index-requires c =
    let x = c.self.inside in
    let l : c.args.actor < length x.net.actors = omega (arith, c.requires, ap (λ (v : RunnerView). length v.seen.net.actors) c.self.view_is) in
    let is = c.self.invariant.0.actors c.args.actor l in
    omega (arith, seat_read_at x.seats.items x.places.items c.args.actor c.index-place.result.now is.part (found (crew_of x.seats.items) x.places.items c.args.actor is.part is.at) c.index-place.ensures)

pub bounds-parts-place : goal.bounds-parts-place
bounds-parts-place c =
    let x = c.self.inside in
    let l : c.args.actor < length x.net.actors = omega (arith, c.requires, ap (λ (v : RunnerView). length v.seen.net.actors) c.self.view_is) in
    let is = c.self.invariant.0.actors c.args.actor l in
    let read : IsReadAs x.seats.items x.places.items c.args.actor c.index-place.result.now c.parts-parts.result.now =
    part_read_at x.seats.items x.places.items c.args.actor c.index-place.result.now c.index.result.now c.parts-parts.result.now is.part (found (crew_of x.seats.items) x.places.items c.args.actor is.part is.at) c.index-place.ensures c.index.ensures c.parts-parts.ensures in
    read.inside

pub operations_done-requires : goal.operations_done-requires
operations_done-requires c =
    let x = c.self.inside in
    let seen : Seen = seen_by x.net x.schedule x.ops x.instants (crew_of x.seats.items) x.places.items in
    let l : c.args.actor < length x.net.actors = omega (arith, c.requires, ap (λ (v : RunnerView). length v.seen.net.actors) c.self.view_is) in
    let is = c.self.invariant.0.actors c.args.actor l in
    let read : IsReadAs x.seats.items x.places.items c.args.actor c.index-place.result.now c.parts-parts.result.now =
    part_read_at x.seats.items x.places.items c.args.actor c.index-place.result.now c.index.result.now c.parts-parts.result.now is.part (found (crew_of x.seats.items) x.places.items c.args.actor is.part is.at) c.index-place.ensures c.index.ensures c.parts-parts.ensures in
    let part : Part = c.index-parts-place.result in
    let can : IsCountable part =
    countable seen x.before c.args.actor (crew_of x.seats.items) x.places.items x.ends.items part c.self.invariant.0 l
    (read.at ∙ ap Some (sym (c.index-parts-place.is ∙ read.is part))) in
    record { arity = can.arity; gives = can.gives; fired = can.fired }

pub returns : goal.returns
returns c =
    let x = c.self.inside in
    let l : c.args.actor < length x.net.actors = omega (arith, c.requires, ap (λ (v : RunnerView). length v.seen.net.actors) c.self.view_is) in
    let is = c.self.invariant.0.actors c.args.actor l in
    let read : IsReadAs x.seats.items x.places.items c.args.actor c.index-place.result.now c.parts-parts.result.now =
    part_read_at x.seats.items x.places.items c.args.actor c.index-place.result.now c.index.result.now c.parts-parts.result.now is.part (found (crew_of x.seats.items) x.places.items c.args.actor is.part is.at) c.index-place.ensures c.index.ensures c.parts-parts.ensures in
    let part : Part = c.index-parts-place.result in
    c.operations_done.ensures
    ∙ done_here (crew_of x.seats.items) x.places.items c.args.actor part (read.at ∙ ap Some (sym (c.index-parts-place.is ∙ read.is part)))
    ∙ ap (λ (v : RunnerView). core.done_of v.seen.done c.args.actor) c.self.view_is
