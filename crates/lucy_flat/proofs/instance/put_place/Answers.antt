use Rattle.std.proofs.Common.{length, ap, inl, inr, arith}
use Rattle.std.proofs.lemmas.Result.{on_ok_weaker, IfErr-weaker}
use Rattle.lucy_kahn.proofs.Closed.{place_spot}
use Rattle.lucy_flat.proofs.InstanceLaws.{found_at, word_here, entry_here}
use Rattle.lucy_flat.proofs.UnmadePlaces.{place_kept, place_long}
use Rattle.lucy_flat.proofs.instance.put_place.Goals as goal

pub returns-then-is_past-clause-ok : goal.returns-then-is_past-clause-ok
returns-then-is_past-clause-ok c = λ path old is keeps.
    let nodes = c.args.program.placed.now.nodes in
    let clocks = c.args.program.clocks.now in
    let proper = c.requires.program.proper in
    let clock = c.requires.program.clocked.each is.index c.args.of.node.now c.args.of.clock.now is.node is.clock in
    let words = ap length c.list-then-is_past.ensures in
    let count = clock.count in
    let high = c.requires.place.1 in
    let word = word_here nodes clocks proper path c.args.of is c.args.place c.list-then-is_past.result.now c.index-list-place-then-is_past.result c.list-then-is_past.ensures (omega arith) c.index-list-place-then-is_past.is in
    let entry = entry_here nodes clocks proper path c.args.of is c.args.place c.list.result.now c.index-list-place.result c.list.ensures c.requires.place.0 c.requires.place.1 c.index-list-place.is in
    on_ok_weaker c.test_place.result (λ fits. place_kept nodes clocks proper c.requires.program.clocked path c.args.of is c.requires.base c.args.place c.index-list-place.result c.index-list-place-then-is_past.result old c.args.kept.now high entry word fits keeps (c.is_past.ensures.0 c.if-is_past.true))
    c.test_place.ensures.ok

pub returns-then-is_past-clause-refused : goal.returns-then-is_past-clause-refused
returns-then-is_past-clause-refused c =
    let nodes = c.args.program.placed.now.nodes in
    let clocks = c.args.program.clocks.now in
    let proper = c.requires.program.proper in
    let path = c.requires.of.0 in
    let is = c.requires.of.1 in
    let clock = c.requires.program.clocked.each is.index c.args.of.node.now c.args.of.clock.now is.node is.clock in
    let words = ap length c.list-then-is_past.ensures in
    let count = clock.count in
    let high = c.requires.place.1 in
    let word = word_here nodes clocks proper path c.args.of is c.args.place c.list-then-is_past.result.now c.index-list-place-then-is_past.result c.list-then-is_past.ensures (omega arith) c.index-list-place-then-is_past.is in
    let entry = entry_here nodes clocks proper path c.args.of is c.args.place c.list.result.now c.index-list-place.result c.list.ensures c.requires.place.0 c.requires.place.1 c.index-list-place.is in
    IfErr-weaker c.test_place.result _ _
    (λ e why. elim why [
      | inl none ↦ inl none
      | inr long ↦ inr (long.0, place_long nodes clocks proper c.requires.program.clocked path c.args.of is c.requires.base c.args.place c.index-list-place.result c.index-list-place-then-is_past.result c.requires.place.0 high entry word long.1)
    ])
    c.test_place.ensures.refused

pub returns-clause-ok : goal.returns-clause-ok
returns-clause-ok c = λ path old is keeps.
    let nodes = c.args.program.placed.now.nodes in
    let clocks = c.args.program.clocks.now in
    let spot = place_spot nodes path c.args.of.node.now c.args.place (found_at nodes clocks c.requires.program.proper path c.args.of is) c.requires.place in
    on_ok_weaker c.keep.result (λ keeps_next. record {
      draft = c.in_ok-next.next;
      is = record { kind = spot.0; stands = spot.1; made = c.in_ok-next.ensures.ok path spot.0 is spot.1 };
      fit = c.in_ok-next.ensures.fits path is;
      keeps = keeps_next;
    }) (c.keep.ensures.ok old keeps)
