use Rattle.std.proofs.Common.{ℕ, ◌≡◌, List, take, drop, ap, sym, ◌∙◌, subst, arith}
use Rattle.std.specs.Prelude.{ℤ, Some}
use Rattle.std.proofs.lemmas.Option.{slice_get_within}
use Rattle.lucy_word.specs.Bits.{ones_to}
use Rattle.lucy_stream.specs.Fronts.{IsFront}
use Rattle.lucy_stream.specs.Plans.{GiveBelow}
use Rattle.lucy_net.specs.declared.net.Actor.{Actor}
use Rattle.lucy_core.specs.Seen.{Seen, IsOutputOf, IsOver, first_ring, plan_of, state_of, stream_of}
use Rattle.lucy_core.proofs.OpenLaws.{IsSound, took_front}
use Rattle.lucy_worker.specs.declared.part.Part.{Part}
use Rattle.lucy_runner.specs.declared.place.Place.{Place}
use Rattle.lucy_runner.specs.Views.{RunnerView}
use Rattle.lucy_runner.specs.Crews.{crew_of, part_of, seen_by}
use Rattle.lucy_runner.proofs.FinishedLaws.{sound_of}
use Rattle.lucy_runner.proofs.OutputLaws.{output_is, output_ends}
use Rattle.lucy_runner.proofs.StandingLaws.{IsReadAs, output_at, place_at, seat_read_at, part_read_at, front_past}
use Rattle.lucy_runner.proofs.runner.Runner.output.Goals as goal

pub index-actor-requires : goal.index-actor-requires
index-actor-requires c =
    let x = c.self.inside in
    let out = subst (λ (v : RunnerView). (a : ℕ) × (actor : Actor) × IsOutputOf v.seen.net c.args.number a actor) (sym c.self.view_is) c.requires in
    omega (arith, slice_get_within x.outputs.items c.args.number out.0 (c.self.invariant.1 c.args.number out.0 out.1 out.2.there out.2.kind))

pub index-place-requires : goal.index-place-requires
index-place-requires c =
    let x = c.self.inside in
    let seen : Seen = seen_by x.net x.schedule x.ops x.instants (crew_of x.seats.items) x.places.items in
    let out = subst (λ (v : RunnerView). (a : ℕ) × (actor : Actor) × IsOutputOf v.seen.net c.args.number a actor) (sym c.self.view_is) c.requires in
    let v : ℕ = c.index-actor.result.now in
    let here : v ≡ out.0 = output_at x.outputs.items x.net.actors c.args.number out.0 v out.1 c.self.invariant.1 out.2.there out.2.kind c.index-actor.ensures in
    let place = place_at seen x.before x.seats.items x.places.items x.ends.items out.0 v out.1 c.self.invariant.0 out.2.there here in
    omega (arith, slice_get_within x.places.items v place.1.place place.1.at)

pub index-requires : goal.index-requires
index-requires c =
    let x = c.self.inside in
    let seen : Seen = seen_by x.net x.schedule x.ops x.instants (crew_of x.seats.items) x.places.items in
    let out = subst (λ (v : RunnerView). (a : ℕ) × (actor : Actor) × IsOutputOf v.seen.net c.args.number a actor) (sym c.self.view_is) c.requires in
    let v : ℕ = c.index-actor.result.now in
    let here : v ≡ out.0 = output_at x.outputs.items x.net.actors c.args.number out.0 v out.1 c.self.invariant.1 out.2.there out.2.kind c.index-actor.ensures in
    let place = place_at seen x.before x.seats.items x.places.items x.ends.items out.0 v out.1 c.self.invariant.0 out.2.there here in
    omega (arith, seat_read_at x.seats.items x.places.items v c.index-place.result.now place.0 place.1 c.index-place.ensures)

pub bounds-parts-place : goal.bounds-parts-place
bounds-parts-place c =
    let x = c.self.inside in
    let seen : Seen = seen_by x.net x.schedule x.ops x.instants (crew_of x.seats.items) x.places.items in
    let out = subst (λ (v : RunnerView). (a : ℕ) × (actor : Actor) × IsOutputOf v.seen.net c.args.number a actor) (sym c.self.view_is) c.requires in
    let v : ℕ = c.index-actor.result.now in
    let here : v ≡ out.0 = output_at x.outputs.items x.net.actors c.args.number out.0 v out.1 c.self.invariant.1 out.2.there out.2.kind c.index-actor.ensures in
    let place = place_at seen x.before x.seats.items x.places.items x.ends.items out.0 v out.1 c.self.invariant.0 out.2.there here in
    let read : IsReadAs x.seats.items x.places.items v c.index-place.result.now c.parts-parts.result.now =
    part_read_at x.seats.items x.places.items v c.index-place.result.now c.index.result.now c.parts-parts.result.now place.0 place.1 c.index-place.ensures c.index.ensures c.parts-parts.ensures in
    read.inside

pub returns : goal.returns
returns c =
    let x = c.self.inside in
    let seen : Seen = seen_by x.net x.schedule x.ops x.instants (crew_of x.seats.items) x.places.items in
    let number : ℕ = c.args.number in
    let v : ℕ = c.index-actor.result.now in
    let w : Place = c.index-place.result.now in
    let items : List ℤ = c.as_slice.result.now in
    let parts : List Part = c.parts-parts.result.now in
    let read : (a : ℕ) (actor : Actor) → IsOutputOf x.net number a actor → (p : Part) × (part_of (crew_of x.seats.items) x.places.items a ≡ Some p) × (items ≡ p.output.items) = λ a actor out.
    (let here : v ≡ a = output_at x.outputs.items x.net.actors number a v actor c.self.invariant.1 out.there out.kind c.index-actor.ensures in
    let place = place_at seen x.before x.seats.items x.places.items x.ends.items a v actor c.self.invariant.0 out.there here in
    let is : IsReadAs x.seats.items x.places.items v w parts = part_read_at x.seats.items x.places.items v w c.index.result.now parts place.0 place.1 c.index-place.ensures c.index.ensures c.parts-parts.ensures in (
      is.part,
      ap (part_of (crew_of x.seats.items) x.places.items) (sym here) ∙ is.at,
      c.as_slice.ensures.value ∙ ap (λ (p : Part). p.output.items) (is.is c.index-parts-place.result),
    )) in
    let took : (a : ℕ) (actor : Actor) → IsOutputOf c.args.self.now.seen.net number a actor → items ≡ drop (ones_to actor.firing c.args.self.now.before) ((state_of c.args.self.now.seen).took (first_ring actor)) =
    subst (λ (r : RunnerView). (a : ℕ) (actor : Actor) → IsOutputOf r.seen.net number a actor → items ≡ drop (ones_to actor.firing r.before) ((state_of r.seen).took (first_ring actor))) c.self.view_is
    (λ a actor out. (let it = read a actor out in it.2 ∙ output_is seen x.before number a (crew_of x.seats.items) x.places.items x.ends.items actor it.0 c.self.invariant.0 out it.1)) in
    let sound : IsSound c.args.self.now.seen = subst (λ (r : RunnerView). IsSound r.seen) c.self.view_is (sound_of x.net x.schedule x.ops x.instants x.before (crew_of x.seats.items) x.places.items x.ends.items c.self.invariant.0) in
    record {
      took = took;
      front = λ a givers actor out below.
          (let n : ℕ = ones_to actor.firing c.args.self.now.before in
          let stream : List ℤ = stream_of c.args.self.now.seen givers (first_ring actor) in
          subst (λ (xs : List ℤ). IsFront xs (drop n stream)) (sym (took a actor out))
          (front_past n ((state_of c.args.self.now.seen).took (first_ring actor)) stream (took_front c.args.self.now.seen givers (first_ring actor) sound below)));
      finished = subst (λ (r : RunnerView). (a givers : ℕ) (actor : Actor) → IsOutputOf r.seen.net number a actor → GiveBelow (plan_of r.seen) givers → IsOver r.seen →
          items ≡ drop (ones_to actor.firing r.before) (take (ones_to actor.firing r.seen.instants) (stream_of r.seen givers (first_ring actor)))) c.self.view_is
          (λ a givers actor out below over.
          (let it = read a actor out in
          it.2 ∙ output_ends x.net x.schedule x.ops x.instants x.before number a givers (crew_of x.seats.items) x.places.items x.ends.items actor it.0 c.self.invariant.0 out it.1 below over));
    }
