use Rattle.std.proofs.Common.{◌≡◌, length, ap, arith}
use Rattle.lucy_worker.proofs.GrowLaws.{raised_state}
use Rattle.lucy_worker.proofs.growing.raise.Goals as goal

pub returns-clause-state : goal.returns-clause-state
returns-clause-state c before instants n took e is =
    let takes : length c.list.result.now ≡ length c.args.actor.now.takes = ap (λ xs. length xs) c.list.ensures in
    let gives : length c.list-2.result.now ≡ length c.args.actor.now.gives = ap (λ xs. length xs) c.list-2.ensures in
    raised_state c.args.actor.now before instants n took c.args.state.now c.args.quota c.fired_on-state.result c.cursor_after-state.result c.requires.usable
    (λ none. c.fired_on-state.ensures.none (omega arith)) (λ some. c.fired_on-state.ensures.some (omega arith)) c.requires.done c.requires.more c.cursor_after-state.ensures e is

pub returns-then-quota-state-clause-state : goal.returns-then-quota-state-clause-state
returns-then-quota-state-clause-state c before instants n took e is =
    let same = c.if-quota-state.true in
    record {
      quota = omega arith;
      within = is.within;
      done = is.done;
      inside = is.inside;
      ended = is.ended;
      cursor = is.cursor;
      lists = is.lists;
      a = is.a;
      b = is.b;
      c = is.c;
      kept = is.kept;
    }
