use Rattle.lucy_core.specs.Cursors.{StandsInOrder}
use Rattle.lucy_core.proofs.CursorLaws.{none_now}
use Rattle.lucy_core.proofs.cursor.Cursor.go_on.Goals as goal

pub instants-init : goal.instants-init
instants-init c = record {
  within = c.pass_row.ensures.within c.args.instants c.requires.within;
  some = c.pass_row.ensures.some c.args.instants c.requires.within;
  none = c.pass_row.ensures.none;
}

pub pass_row-requires-in-instants-clause-row : goal.pass_row-requires-in-instants-clause-row
pass_row-requires-in-instants-clause-row c =
    (c.turn.ensures.within c.args.instants c.args.done.now c.if-self-instants.true (c.instants.invariant.none (none_now c.instants.self.next c.is_none.result c.is_none.ensures c.instants-test.true)) c.instants.invariant.within).row

pub pass_row-requires-in-instants-clause-count : goal.pass_row-requires-in-instants-clause-count
pass_row-requires-in-instants-clause-count c =
    (c.turn.ensures.within c.args.instants c.args.done.now c.if-self-instants.true (c.instants.invariant.none (none_now c.instants.self.next c.is_none.result c.is_none.ensures c.instants-test.true)) c.instants.invariant.within).count

pub instants-preserved : goal.instants-preserved
instants-preserved c =
    let turned : StandsInOrder c.args.schedule.now c.args.instants c.args.done.now c.turn.new.self =
    c.turn.ensures.within c.args.instants c.args.done.now c.if-self-instants.true (c.instants.invariant.none (none_now c.instants.self.next c.is_none.result c.is_none.ensures c.instants-test.true)) c.instants.invariant.within in
    record {
      within = c.pass_row-in-instants.ensures.within c.args.instants turned;
      some = c.pass_row-in-instants.ensures.some c.args.instants turned;
      none = c.pass_row-in-instants.ensures.none;
    }
