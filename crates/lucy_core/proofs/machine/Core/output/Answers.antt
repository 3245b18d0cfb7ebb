use Rattle.std.proofs.Common.{ℕ, ◌≡◌, length, subst, sym, refl, ◌∙◌}
use Rattle.std.specs.Prelude.{Some, slice_get}
use Rattle.std.proofs.lemmas.Option.{slice_get_read}
use Rattle.lucy_stream.specs.Fronts.{IsFront}
use Rattle.lucy_net.specs.declared.net.Actor.{Actor}
use Rattle.lucy_core.specs.Seen.{Seen, IsOutputOf, first_ring, state_of, stream_of}
use Rattle.lucy_core.proofs.InsideLaws.{sound_of}
use Rattle.lucy_core.proofs.OpenLaws.{IsSound, took_front, took_all}
use Rattle.lucy_core.proofs.machine.Core.output.Goals as goal

pub returns-clause-took : goal.returns-clause-took
returns-clause-took c =
    let x = c.self.inside in
    subst (λ (s : Seen). (a : ℕ) (actor : Actor) → IsOutputOf s.net c.args.number a actor → c.list.result.now ≡ (state_of s).took (first_ring actor)) c.self.view_is (λ a actor out.
    (let has = c.self.invariant.1.trays_hold a c.args.number actor out.there out.kind in
    let tray : slice_get x.trays.items c.args.number ≡ Some c.index.result.now = slice_get_read x.trays.items (length x.trays.items) c.args.number c.index.result.now refl has.there c.index.ensures in
    c.list.ensures ∙ has.items_are c.index.result.now tray))

pub returns-clause-front : goal.returns-clause-front
returns-clause-front c =
    let seen : Seen = c.args.self.now in
    let all : IsSound seen = sound_of c.self.inside c.args.self.now c.self.invariant c.self.view_is in
    λ a givers actor out below. subst (λ xs. IsFront xs (stream_of seen givers (first_ring actor))) (sym (returns-clause-took c a actor out)) (took_front seen givers (first_ring actor) all below)

pub returns-clause-finished : goal.returns-clause-finished
returns-clause-finished c =
    let seen : Seen = c.args.self.now in
    let all : IsSound seen = sound_of c.self.inside c.args.self.now c.self.invariant c.self.view_is in
    λ a givers actor out below over. returns-clause-took c a actor out ∙ took_all seen givers a c.args.number actor all below out over
