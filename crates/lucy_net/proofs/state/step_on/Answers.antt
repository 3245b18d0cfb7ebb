use Rattle.std.proofs.Common.{arith}
use Rattle.lucy_net.proofs.StateLaws.{firing_short, stepped}
use Rattle.lucy_net.proofs.CursorLaws.{cursor_when, cursor_merge, when_cursor, merge_cursor}
use Rattle.lucy_net.proofs.state.step_on.Goals as goal

pub read_on-requires-clause-inside : goal.read_on-requires-clause-inside
read_on-requires-clause-inside c = omega (arith, c.moves_by-moves.ensures c.args.state.now.fired (c.bit_under.ensures c.args.state.now.fired c.requires.cursor), c.requires.inside)

pub read_on-requires-clause-few : goal.read_on-requires-clause-few
read_on-requires-clause-few c = omega (arith, c.moves_by-moves.ensures c.args.state.now.fired (c.bit_under.ensures c.args.state.now.fired c.requires.cursor), firing_short c.args.actor.now c.args.state.now.fired c.requires.usable)

pub read_on-requires-clause-cursor : goal.read_on-requires-clause-cursor
read_on-requires-clause-cursor c = cursor_when c.args.actor.now.kind c.in-When.word c.args.state.now.fired c.args.state.now.cursor c.in-When.is c.requires.cursor

pub returns-in-When : goal.returns-in-When
returns-in-When c =
    stepped c.args.actor.now c.args.state.now c.read_on.new.state c.moves_by-moves.result (c.moves_by-moves.ensures c.args.state.now.fired (c.bit_under.ensures c.args.state.now.fired c.requires.cursor)) c.read_on.ensures.moved
    (when_cursor c.args.actor.now.kind c.in-When.word c.read_on.new.state.fired c.read_on.new.state.cursor c.in-When.is c.read_on.ensures.cursor)

pub returns-in-Merge : goal.returns-in-Merge
returns-in-Merge c =
    stepped c.args.actor.now c.args.state.now c.read_on-in-Merge.new.state c.moves_by-moves-in-Merge.result (c.moves_by-moves-in-Merge.ensures c.args.state.now.fired (c.bit_under-in-Merge.ensures c.args.state.now.fired c.requires.cursor)) c.read_on-in-Merge.ensures.moved
    (merge_cursor c.args.actor.now.kind c.in-Merge.word c.read_on-in-Merge.new.state.fired c.read_on-in-Merge.new.state.cursor c.in-Merge.is c.read_on-in-Merge.ensures.cursor)
