-- What the part of an output holds.
use Rattle.std.proofs.Common.{ℕ, ◌≤◌, ◌≡◌, ◌++◌, List, [], length, take, drop, ap, sym, refl, ◌∙◌, subst}
use Rattle.std.specs.Prelude.{ℤ, Some, slice_get}
use Rattle.std.proofs.lemmas.List.{append-nil, drop_at, length-take-le}
use Rattle.std.proofs.lemmas.Option.{slice_get_within}
use Rattle.lucy_word.specs.Bits.{ones_to}
use Rattle.lucy_host.specs.Operators.{Operator}
use Rattle.lucy_stream.specs.Plans.{GiveBelow}
use Rattle.lucy_net.specs.declared.net.Actor.{Actor}
use Rattle.lucy_net.specs.declared.net.Net.{Net}
use Rattle.lucy_net.specs.declared.kind.ActorKind.{ActorKind}
use Rattle.lucy_net.specs.declared.kind.ActorKind.TheVariants.{Output}
use Rattle.lucy_net.specs.Schedules.{Timetable}
use Rattle.lucy_core.specs.Seen.{Seen, state_of, plan_of, stream_of, first_ring, IsOver, IsOutputOf}
use Rattle.lucy_core.proofs.OpenLaws.{took_all}
use Rattle.lucy_worker.specs.declared.part.Part.{Part}
use Rattle.lucy_worker.specs.Parts.{taken_on, PutsOut}
use Rattle.lucy_runner.specs.declared.place.Place.{Place}
use Rattle.lucy_runner.specs.declared.place.Ends.{Ends}
use Rattle.lucy_runner.specs.Crews.{part_of, seen_by}
use Rattle.lucy_runner.specs.Standing.{TookAsMany, IsPartOf, IsStanding}
use Rattle.lucy_runner.proofs.PlaceLaws.{same_part}
use Rattle.lucy_runner.proofs.OwnLaws.{none_taken}
use Rattle.lucy_runner.proofs.FinishedLaws.{sound_of}

-- items that come after a front that was carried away
past_front : (n : ℕ) (took items : List ℤ) → n ≤ length took → took ≡ take n took ++ items → items ≡ drop n took
past_front n took items l e = sym (ap (drop n) e ∙ drop_at (take n took) items n (length-take-le n took l))

-- the output's part has what its actor took since the items of the blocks before
pub output_is : (seen : Seen) (before number a : ℕ) (crew : List (List Part)) (places : List Place) (ends : List Ends) (actor : Actor) (p : Part) →
    IsStanding seen before crew places ends → IsOutputOf seen.net number a actor → part_of crew places a ≡ Some p →
    p.output.items ≡ drop (ones_to actor.firing before) ((state_of seen).took (first_ring actor))
output_is seen before number a crew places ends actor p standing out at =
    let is : IsPartOf seen before crew places a = standing.actors a (slice_get_within seen.net.actors a actor out.there) in
    let q : Part = is.part in
    let same : q ≡ p = same_part crew places a a q p is.at at refl in
    let there : slice_get seen.net.actors a ≡ Some q.actor = ap (slice_get seen.net.actors) (sym is.number) ∙ is.stands.there in
    let own : q.actor ≡ actor = (let o = out.there in cc) in
    let what : q.actor.kind ≡ Output number = ap (λ (o : Actor). o.kind) own ∙ out.kind in
    let r : ℕ = first_ring q.actor in
    let n : ℕ = ones_to q.actor.firing before in
    let took : List ℤ = (state_of seen).took r in
    let none : taken_on q r ≡ [] =
    none_taken seen.net crew places ends (λ i ring e. (standing.rings i ring e).joined) a r q standing.fixed.proper there is.at (λ i ring e. (standing.rings i ring e).holds.taken) in
    let puts : took ++ taken_on q r ≡ take n took ++ q.output.items = subst (λ (k : ActorKind). PutsOut k (take n took) (took ++ taken_on q r) q.output.items) what is.stands.output in
    let many : n ≤ length took = subst (λ (k : ActorKind). TookAsMany k n (length took)) what is.took in
    let all : took ≡ take n took ++ q.output.items = sym (ap (λ (xs : List ℤ). took ++ xs) none ∙ append-nil took) ∙ puts in
    ap (λ (y : Part). y.output.items) (sym same) ∙ past_front n took q.output.items many all ∙ ap (λ (o : Actor). drop (ones_to o.firing before) ((state_of seen).took (first_ring o))) own

-- in the end it has its stream up to the horizon, past those items
pub output_ends : (net : Net) (schedule : Timetable) (ops : List Operator) (instants before number a givers : ℕ) (crew : List (List Part)) (places : List Place) (ends : List Ends) (actor : Actor) (p : Part) →
    IsStanding (seen_by net schedule ops instants crew places) before crew places ends → IsOutputOf net number a actor → part_of crew places a ≡ Some p →
    GiveBelow (plan_of (seen_by net schedule ops instants crew places)) givers → IsOver (seen_by net schedule ops instants crew places) →
    p.output.items ≡ drop (ones_to actor.firing before) (take (ones_to actor.firing instants) (stream_of (seen_by net schedule ops instants crew places) givers (first_ring actor)))
output_ends net schedule ops instants before number a givers crew places ends actor p standing out at below over =
    let seen : Seen = seen_by net schedule ops instants crew places in
    output_is seen before number a crew places ends actor p standing out at
    ∙ ap (drop (ones_to actor.firing before)) (took_all seen givers a number actor (sound_of net schedule ops instants before crew places ends standing) below out over)
