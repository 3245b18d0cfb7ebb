use Rattle.std.proofs.Common.{length, ap, ◌∙◌, refl, inl, inr, arith}
use Rattle.lucy_word.proofs.Results.{on_err}
use Rattle.lucy_lines.proofs.ResumeLaws.{none_read, reads_on, reads_as, given_up_later}
use Rattle.lucy_lines.proofs.WantedLaws.{risen_more, has_one, enough_more, enough_all}
use Rattle.lucy_lines.proofs.feed_reader.FeedReader.read_to.Goals as goal

pub loop-stream-init : goal.loop-stream-init
loop-stream-init g c = record {
  reads = none_read _ _ c.args.self.now;
  enough = inr (λ k lt. absurd (omega arith));
  unread = λ has. (refl, refl);
  risen = λ k. omega arith;
  inputs = refl;
  count = omega arith;
}

pub read_until-requires : goal.read_until-requires
read_until-requires g c = let kept = ap length c.loop-stream.invariant.inputs in let many = c.requires in omega arith

pub loop-stream-preserved : goal.loop-stream-preserved
loop-stream-preserved g c =
    let i = c.loop-stream.invariant in
    let e = c.in_ok-read_until.ensures in
    record {
      reads = reads_on _ _ _ _ c.args.self.now c.loop-stream.self c.read_until.new.self i.reads (reads_as _ _ _ _ c.loop-stream.self c.read_until.new.self (λ inputs xs few. (c.loop-stream.stream, few)) e.reads);
      enough = enough_more c.loop-stream.self c.read_until.new.self c.args.wanted.now c.loop-stream.stream _ refl e.risen i.enough (λ ended. (e.unread (inl ended)).2) e.enough;
      unread = λ has.
          let before = i.unread has in
          let same = e.unread (has_one c.args.self.now c.loop-stream.self c.args.wanted.now c.loop-stream.stream _ before.1 refl has) in
          (same.1 ∙ before.0, same.2 ∙ before.1);
      risen = risen_more _ _ _ i.risen e.risen;
      inputs = e.inputs ∙ i.inputs;
      count = omega (arith, e.count, i.count);
    }

pub returns-in_err-read_until-clause-gives_up : goal.returns-in_err-read_until-clause-gives_up
returns-in_err-read_until-clause-gives_up g c = on_err _ _ (given_up_later _ _ _ _ c.args.self.now c.loop-stream.self c.loop-stream.invariant.reads c.in_err-read_until.ensures.gives_up)

pub returns-in_err-read_until-clause-unread : goal.returns-in_err-read_until-clause-unread
returns-in_err-read_until-clause-unread g c = λ has.
    let before = c.loop-stream.invariant.unread has in
    let same = c.in_err-read_until.ensures.unread (has_one c.args.self.now c.loop-stream.self c.args.wanted.now c.loop-stream.stream _ before.1 refl has) in
    let no_error = same.0 in cc

pub returns-in_err-read_until-clause-risen : goal.returns-in_err-read_until-clause-risen
returns-in_err-read_until-clause-risen g c = risen_more _ _ _ c.loop-stream.invariant.risen c.in_err-read_until.ensures.risen

pub returns-clause-enough : goal.returns-clause-enough
returns-clause-enough g c = enough_all c.loop-stream.self c.args.wanted.now c.loop-stream.stream (omega arith) c.loop-stream.invariant.enough
