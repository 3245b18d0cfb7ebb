use Rattle.std.proofs.Common.{◌∙◌, refl, arith}
use Rattle.lucy_word.proofs.Results.{on_err}
use Rattle.lucy_lines.proofs.ResumeLaws.{none_read, reads_on, reads_lacking, given_up_later}
use Rattle.lucy_lines.proofs.WantedLaws.{fewer_left, still_lacks, risen_more}
use Rattle.lucy_lines.proofs.feed_reader.FeedReader.read_until.Goals as goal

pub lines-init : goal.lines-init
lines-init g c = record {
  reads = none_read _ _ c.args.self.now;
  unread = λ has. (refl, refl);
  risen = λ k. omega arith;
  inputs = refl;
  count = omega arith;
}

pub lines-preserved : goal.lines-preserved
lines-preserved g c =
    let i = c.lines.invariant in
    let e = c.in_ok-keep_item.ensures in
    let lacks = c.lacks.ensures.lacks c.lines-test.true in
    record {
      reads = reads_on _ _ _ _ c.args.self.now c.lines.self c.keep_item.new.self i.reads (reads_lacking _ _ c.lines.self c.keep_item.new.self c.args.stream c.args.least lacks.1 e.reads);
      unread = λ has. absurd (still_lacks c.args.self.now c.lines.self c.args.stream c.args.least (i.unread has).1 lacks has);
      risen = risen_more _ _ _ i.risen e.risen;
      inputs = e.inputs ∙ i.inputs;
      count = omega (arith, e.count, i.count);
    }

pub lines-smaller : goal.lines-smaller
lines-smaller g c = fewer_left c.lines.self.reader c.keep_item.new.self.reader (c.lacks.ensures.lacks c.lines-test.true).0 c.in_ok-keep_item.ensures.progress

pub keep_item-requires : goal.keep_item-requires
keep_item-requires g c = (c.lacks.ensures.lacks c.lines-test.true).0

pub returns-in_err-keep_item-clause-gives_up : goal.returns-in_err-keep_item-clause-gives_up
returns-in_err-keep_item-clause-gives_up g c = on_err _ _ (given_up_later _ _ _ _ c.args.self.now c.lines.self c.lines.invariant.reads c.in_err-keep_item.ensures.gives_up)

pub returns-in_err-keep_item-clause-unread : goal.returns-in_err-keep_item-clause-unread
returns-in_err-keep_item-clause-unread g c = λ has.
    absurd (still_lacks c.args.self.now c.lines.self c.args.stream c.args.least (c.lines.invariant.unread has).1 (c.lacks.ensures.lacks c.lines-test.true) has)

pub returns-in_err-keep_item-clause-risen : goal.returns-in_err-keep_item-clause-risen
returns-in_err-keep_item-clause-risen g c = risen_more _ _ _ c.lines.invariant.risen c.in_err-keep_item.ensures.risen
