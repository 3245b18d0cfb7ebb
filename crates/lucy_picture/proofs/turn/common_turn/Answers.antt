use Rattle.std.proofs.Common.{map, get_or, refl, arith}
use Rattle.lucy_need.specs.Meeting.{assigned}
use Rattle.lucy_net.proofs.LengthLaws.{lengths_none}
use Rattle.lucy_net.proofs.PeriodLaws.{if_none}
use Rattle.lucy_picture.specs.Turns.{AreTooLong}
use Rattle.lucy_picture.proofs.TurnLaws.{turn_more, turn_too_long}
use Rattle.lucy_picture.proofs.turn.common_turn.Goals as goal

pub each-init : goal.each-init
each-init c = (lengths_none, omega arith)

pub returns-in_err-turn-clause-none : goal.returns-in_err-turn-clause-none
returns-in_err-turn-clause-none c =
    let l = c.each in
    let n = c.in_err-turn.ensures.none in
    let long = turn_too_long c.args.words.now c.args.clocks.now l.i (get_or c.args.clocks.now l.i 0) _ _ n.0 _ c.each-test.true refl c.word_of.ensures l.invariant.0 n.1 n.2 in
    if_none c.from_residual.result (AreTooLong (map (assigned c.args.words.now) c.args.clocks.now)) long

pub each-preserved : goal.each-preserved
each-preserved c =
    let l = c.each in
    let e = c.in_ok-turn.ensures in
    (turn_more c.args.words.now c.args.clocks.now l.i (get_or c.args.clocks.now l.i 0) _ _ _ _ _ c.each-test.true refl c.word_of.ensures l.invariant.0 e.nonempty e.prefix e.period, e.short)
