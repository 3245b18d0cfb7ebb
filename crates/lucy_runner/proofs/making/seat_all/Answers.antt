use Rattle.std.proofs.Common.{ℕ, ◌<◌, ◌≡◌, List, [], length, get_or, ap, sym, ◌∙◌, subst}
use Rattle.std.specs.Prelude.{All, Some, slice_get}
use Rattle.std.proofs.lemmas.Option.{slice_get-get_or}
use Rattle.lucy_word.proofs.Lists.{written_back}
use Rattle.lucy_net.specs.declared.kind.ActorKind.TheVariants.{Output}
use Rattle.lucy_net.specs.declared.net.Actor.{Actor}
use Rattle.lucy_net.specs.declared.net.RingSpec.{RingSpec}
use Rattle.lucy_net.specs.States.{IsUsable}
use Rattle.lucy_net.proofs.NetLaws.{usable}
use Rattle.lucy_net.proofs.NumberedLaws.{outputs_apart}
use Rattle.lucy_worker.specs.declared.part.Part.{Part}
use Rattle.lucy_runner.specs.Crews.{crew_of}
use Rattle.lucy_runner.specs.Making.{AreNumbered, CanWork, ArePlaced}
use Rattle.lucy_runner.specs.Standing.{AreOutputs}
use Rattle.lucy_runner.proofs.MadeLaws.{rings_within, alone_none, first_of, joined_of, numbered_all, works_all}
use Rattle.lucy_runner.proofs.making.seat_all.Goals as goal

pub first_parts-requires-clause-usable : goal.first_parts-requires-clause-usable
first_parts-requires-clause-usable c =
    let n = c.args.core.now.net in
    subst (All IsUsable) (sym c.list.ensures) (λ k d l. usable n k (get_or n.actors k d) c.requires.proper (slice_get-get_or n.actors k d l))

pub join_all-requires-clause-actors : goal.join_all-requires-clause-actors
join_all-requires-clause-actors c =
    let first = first_of c.args.core.now.net c.args.core.now.inputs c.args.core.now.instants c.list.result.now c.in_ok-parts.parts.items c.list.ensures c.in_ok-parts.ensures in
    let count : length c.as_mut_slice.result.now ≡ length c.args.core.now.net.actors = ap length c.as_mut_slice.ensures.value ∙ first.count in
    subst (λ (m : ℕ). All (λ (ring : RingSpec). (ring.from < m) × (ring.to < m)) c.list-2.result.now) (sym count)
    (subst (All (λ (ring : RingSpec). (ring.from < length c.args.core.now.net.actors) × (ring.to < length c.args.core.now.net.actors))) (sym c.list-2.ensures) (rings_within c.args.core.now.net c.requires.proper))

pub join_all-requires-clause-none : goal.join_all-requires-clause-none
join_all-requires-clause-none c =
    let first = first_of c.args.core.now.net c.args.core.now.inputs c.args.core.now.instants c.list.result.now c.in_ok-parts.parts.items c.list.ensures c.in_ok-parts.ensures in
    subst (All (λ (p : Part). (p.givers.items ≡ []) × (p.takers.items ≡ []))) (sym c.as_mut_slice.ensures.value) (alone_none c.args.core.now.inputs c.args.core.now.instants c.args.core.now.net.actors c.in_ok-parts.parts.items first)

pub seat_parts-requires-clause-numbered : goal.seat_parts-requires-clause-numbered
seat_parts-requires-clause-numbered c =
    let alone : List Part = c.in_ok-parts.parts.items in
    let after : List Part = c.join_all.new.parts in
    let first = first_of c.args.core.now.net c.args.core.now.inputs c.args.core.now.instants c.list.result.now alone c.list.ensures c.in_ok-parts.ensures in
    let joined = joined_of c.args.core.now.net c.list-2.result.now c.as_mut_slice.result.now alone after c.in_ok-ends.ends.items c.list-2.ensures c.as_mut_slice.ensures.value c.in_ok-ends.ensures in
    subst AreNumbered (sym (written_back c.in_ok-parts.parts.len after alone joined.count c.in_ok-parts.parts.ok.0)) (numbered_all c.args.core.now.net c.args.core.now.inputs c.args.core.now.instants alone after c.in_ok-ends.ends.items c.requires.proper first joined)

pub seat_parts-requires-clause-can : goal.seat_parts-requires-clause-can
seat_parts-requires-clause-can c =
    let alone : List Part = c.in_ok-parts.parts.items in
    let after : List Part = c.join_all.new.parts in
    let first = first_of c.args.core.now.net c.args.core.now.inputs c.args.core.now.instants c.list.result.now alone c.list.ensures c.in_ok-parts.ensures in
    let joined = joined_of c.args.core.now.net c.list-2.result.now c.as_mut_slice.result.now alone after c.in_ok-ends.ends.items c.list-2.ensures c.as_mut_slice.ensures.value c.in_ok-ends.ensures in
    subst CanWork (sym (written_back c.in_ok-parts.parts.len after alone joined.count c.in_ok-parts.parts.ok.0))
    (works_all c.args.core.now.net c.args.core.now.inputs c.args.core.now.instants alone after c.in_ok-ends.ends.items c.requires.proper c.requires.supplied c.requires.early first joined)

pub returns-clause-made : goal.returns-clause-made
returns-clause-made c =
    let alone : List Part = c.in_ok-parts.parts.items in
    let after : List Part = c.join_all.new.parts in
    let first = first_of c.args.core.now.net c.args.core.now.inputs c.args.core.now.instants c.list.result.now alone c.list.ensures c.in_ok-parts.ensures in
    let joined = joined_of c.args.core.now.net c.list-2.result.now c.as_mut_slice.result.now alone after c.in_ok-ends.ends.items c.list-2.ensures c.as_mut_slice.ensures.value c.in_ok-ends.ensures in
    let back = written_back c.in_ok-parts.parts.len after alone joined.count c.in_ok-parts.parts.ok.0 in
    let seated : ArePlaced after (length after) (crew_of c.in_ok-seats.seats.items) c.in_ok-seats.places.items = subst (λ (xs : List Part). ArePlaced xs (length xs) (crew_of c.in_ok-seats.seats.items) c.in_ok-seats.places.items) back c.in_ok-seats.ensures.placed in
    record {
      alone = alone;
      parts = after;
      first = first;
      joined = joined;
      seated = subst (λ (k : ℕ). ArePlaced after k (crew_of c.in_ok-seats.seats.items) c.in_ok-seats.places.items) (joined.count ∙ first.count) seated;
      few = c.in_ok-seats.ensures.few;
    }

pub outputs_of-requires-clause-apart : goal.outputs_of-requires-clause-apart
outputs_of-requires-clause-apart c =
    let n = c.args.core.now.net in
    subst (λ (xs : List Actor). (a b k : ℕ) (x y : Actor) → slice_get xs a ≡ Some x → slice_get xs b ≡ Some y → x.kind ≡ Output k → y.kind ≡ Output k → a ≡ b) (sym c.list-3.ensures)
    (λ a b k x y e f g h. outputs_apart n.actors a b k x y c.requires.proper.outputs e f g h)

pub returns-clause-outputs : goal.returns-clause-outputs
returns-clause-outputs c = subst (λ (xs : List Actor). AreOutputs xs c.in_ok-outputs.outputs.items) c.list-3.ensures c.in_ok-outputs.ensures
