use Rattle.std.proofs.Common.{◌∙◌, refl, sym, arith}
use Rattle.lucy_lines.proofs.ResumeLaws.{none_passed, passes_on, line_passed, one_way}
use Rattle.lucy_lines.proofs.WantedLaws.{fewer_left, still_open_as, risen_more}
use Rattle.lucy_lines.proofs.feed_reader.FeedReader.pass_rest.Goals as goal

pub lines-init : goal.lines-init
lines-init g c = record {
  reads = none_passed _ c.args.self.now;
  unread = λ has. (refl, refl);
  risen = λ k. omega arith;
  fresh = refl;
  inputs = refl;
  count = omega arith;
}

pub next_item-requires : goal.next_item-requires
next_item-requires g c = sym c.stopped.ensures ∙ c.lines-test.true

pub lines-preserved : goal.lines-preserved
lines-preserved g c =
    let i = c.lines.invariant in
    let e = c.next_item.ensures in
    let open_yet = sym c.stopped.ensures ∙ c.lines-test.true in
    record {
      reads = passes_on _ _ _ c.args.self.now c.lines.self c.next_item.new.self i.reads
          (line_passed _ _ c.lines.self c.next_item.new.self c.next_item.result (λ i. record { stream = i.0; value = i.1 }) open_yet e.item e.stop);
      unread = λ has. absurd (still_open_as c.args.self.now c.lines.self (i.unread has).1 open_yet has);
      risen = risen_more _ _ _ i.risen e.risen;
      fresh = e.fresh ∙ i.fresh;
      inputs = e.inputs ∙ i.inputs;
      count = omega (arith, e.count, i.count);
    }

pub lines-smaller : goal.lines-smaller
lines-smaller g c = fewer_left c.lines.self.reader c.next_item.new.self.reader (sym c.stopped.ensures ∙ c.lines-test.true) (one_way c.next_item.result _ _ c.next_item.ensures.progress)
