use Rattle.std.proofs.Common.{◌++◌, refl, ap, sym, ◌∙◌, subst, arith}
use Rattle.lucy_word.proofs.Results.{fails_so}
use Rattle.lucy_text.specs.Outside.{Writes, Fails}
use Rattle.lucy_lines.specs.declared.error.OutputError.TheVariants as error
use Rattle.lucy_lines.specs.Outputs.{lines_after}
use Rattle.lucy_run.specs.Owes.{most_instants}
use Rattle.lucy_run.proofs.WriteLaws.{broken_off, lists_enough, writing_broken, written_on}
use Rattle.lucy_run.proofs.running.play.Goals as goal

pub next_block-requires-clause-kinds : goal.next_block-requires-clause-kinds
next_block-requires-clause-kinds g c κs within =
    let (p, first, was, items, can, along, has) = c.requires.written in
    let (all, now, lines) = c.blocks-2.invariant.follows p first was items can along has in
    c.requires.kinds ∙ along.run.kinds ∙ sym now.run.kinds

pub next_block-requires-clause-under_way : goal.next_block-requires-clause-under_way
next_block-requires-clause-under_way g c κs within =
    let (p, first, was, items, can, along, has) = c.requires.written in
    let (all, now, lines) = c.blocks-2.invariant.follows p first was items can along has in
    (p, first, all, can, now)

pub returns-in_err-streams-clause-plays : goal.returns-in_err-streams-clause-plays
returns-in_err-streams-clause-plays g c = λ p first was items can along has.
    let (all, now, lines) = c.blocks-2.invariant.follows p first was items can along has in
    fails_so c.from_residual.result error.OutOfMemory _ _ c.from_residual.ensures.1
    (broken_off p first was all (g.I.Source.seen c.blocks-2.source) c.blocks-2.course now (g.O.Sink.seen c.blocks-2.out) c.blocks-2.writer lines (g.I.Source.seen c.next_block.new.source)
    c.args.course.now.block (most_instants c.args.course.now.given) (ap most_instants c.blocks-2.invariant.given) c.in_err-streams.ensures.gives_up)

pub write-requires-clause-whole : goal.write-requires-clause-whole
write-requires-clause-whole g c =
    let (p, first, was, items, can, along, has) = c.requires.written in
    let (all, now, lines) = c.blocks-2.invariant.follows p first was items can along has in
    lines.whole

pub write-requires-clause-lists : goal.write-requires-clause-lists
write-requires-clause-lists g c =
    let (p, first, was, items, can, along, has) = c.requires.written in
    let (all, now, lines) = c.blocks-2.invariant.follows p first was items can along has in
    let next = c.in_ok-streams.ensures.goes_on p first all can now in
    lists_enough p first was all (g.I.Source.seen c.blocks-2.source) c.blocks-2.course now (g.O.Sink.seen c.blocks-2.out) c.blocks-2.writer lines c.values_in_turn.ensures c.lines_go_on.ensures.blocks
    can (g.I.Source.seen c.next_block.new.source) c.next_block.new.self c.in_ok-streams.streams next

pub write-requires-clause-later : goal.write-requires-clause-later
write-requires-clause-later g c =
    let (p, first, was, items, can, along, has) = c.requires.written in
    let (all, now, lines) = c.blocks-2.invariant.follows p first was items can along has in
    let next = c.in_ok-streams.ensures.goes_on p first all can now in
    omega (arith, lines.instants, next.later, c.horizon.ensures)

pub returns-in_err-write-clause-plays : goal.returns-in_err-write-clause-plays
returns-in_err-write-clause-plays g c = λ p first was items can along has.
    let (all, now, lines) = c.blocks-2.invariant.follows p first was items can along has in
    let next = c.in_ok-streams.ensures.goes_on p first all can now in
    let fails = subst (λ n. Fails (g.O.Sink.seen c.blocks-2.out) (g.O.Sink.seen c.write.new.sink) (lines_after c.blocks-2.writer.outputs c.in_ok-streams.streams c.blocks-2.writer.instants n)) c.horizon.ensures
    c.in_err-write.ensures.failed in
    fails_so c.from_residual-in_err-write.result error.Failed _ _ c.from_residual-in_err-write.ensures.1
    (writing_broken p first was all (g.I.Source.seen c.blocks-2.source) c.blocks-2.course now (g.O.Sink.seen c.blocks-2.out) c.blocks-2.writer lines c.values_in_turn.ensures c.lines_go_on.ensures.blocks
    can (g.I.Source.seen c.next_block.new.source) c.next_block.new.self c.in_ok-streams.streams next c.one_cut.ensures c.some_cut.ensures c.cut_in_pieces.ensures (g.O.Sink.seen c.write.new.sink)
    c.args.course.now.block (most_instants c.args.course.now.given) c.blocks-2.invariant.block (ap most_instants (c.in_ok-streams.ensures.given ∙ c.blocks-2.invariant.given)) fails)

pub returns-clause-plays : goal.returns-clause-plays
returns-clause-plays g c = λ p first was items can along has.
    let (all, now, lines) = c.blocks-2.invariant.follows p first was items can along has in
    (all, now, c.goes_on.ensures.stopped c.blocks-2-test.false, lines)

pub blocks-2-init : goal.blocks-2-init
blocks-2-init g c = record {
  follows = λ p first was items can along has. (items, along, has);
  given = refl;
  block = refl;
  unread = λ none. refl;
  source_count = omega arith;
  out_count = omega arith;
}

pub blocks-2-smaller : goal.blocks-2-smaller
blocks-2-smaller g c =
    let same = ap most_instants c.in_ok-streams.ensures.given in
    omega (arith, same, c.in_ok-streams.ensures.ahead, (c.goes_on.ensures.more c.blocks-2-test.true).1)

pub blocks-2-preserved : goal.blocks-2-preserved
blocks-2-preserved g c = record {
  follows = λ p first was items can along has.
      let (all, now, lines) = c.blocks-2.invariant.follows p first was items can along has in
      let next = c.in_ok-streams.ensures.goes_on p first all can now in
      let state = c.in_ok-write.ensures.state ∙ ap (λ n. record c.blocks-2.writer { instants = n }) c.horizon.ensures in
      let writes = subst (λ n. Writes (g.O.Sink.seen c.blocks-2.out) (g.O.Sink.seen c.write.new.sink) (lines_after c.blocks-2.writer.outputs c.in_ok-streams.streams c.blocks-2.writer.instants n)) c.horizon.ensures
      c.in_ok-write.ensures.ok in (
        all ++ next.more,
        next.along,
        written_on p first was all (g.I.Source.seen c.blocks-2.source) c.blocks-2.course now (g.O.Sink.seen c.blocks-2.out) c.blocks-2.writer lines c.values_in_turn.ensures c.lines_go_on.ensures.blocks
            can (g.I.Source.seen c.next_block.new.source) c.next_block.new.self c.in_ok-streams.streams next (g.O.Sink.seen c.write.new.sink) c.write.new.self state writes,
      );
  given = c.in_ok-streams.ensures.given ∙ c.blocks-2.invariant.given;
  block = c.in_ok-streams.ensures.block ∙ c.blocks-2.invariant.block;
  unread = λ none.
      let (p, first, was, items, can, along, has) = c.requires.written in
      let (all, now, lines) = c.blocks-2.invariant.follows p first was items can along has in
      c.next_block.ensures.unread (now.words ∙ sym along.words ∙ none) ∙ c.blocks-2.invariant.unread none;
  source_count = omega (arith, c.next_block.ensures.count, c.blocks-2.invariant.source_count);
  out_count = omega (arith, c.write.ensures.count, c.blocks-2.invariant.out_count);
}

pub returns-in_err-streams-clause-unread : goal.returns-in_err-streams-clause-unread
returns-in_err-streams-clause-unread g c = λ none.
    let (p, first, was, items, can, along, has) = c.requires.written in
    let (all, now, lines) = c.blocks-2.invariant.follows p first was items can along has in
    c.next_block.ensures.unread (now.words ∙ sym along.words ∙ none) ∙ c.blocks-2.invariant.unread none

pub returns-in_err-write-clause-unread : goal.returns-in_err-write-clause-unread
returns-in_err-write-clause-unread g c = λ none.
    let (p, first, was, items, can, along, has) = c.requires.written in
    let (all, now, lines) = c.blocks-2.invariant.follows p first was items can along has in
    c.next_block.ensures.unread (now.words ∙ sym along.words ∙ none) ∙ c.blocks-2.invariant.unread none
