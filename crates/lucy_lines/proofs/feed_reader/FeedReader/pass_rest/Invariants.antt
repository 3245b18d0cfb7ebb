use Rattle.std.proofs.Common.{◌≡◌, ◌≤◌, true}
use Rattle.lucy_lines.specs.Resuming.{AreMet, PassesMore}
use Rattle.lucy_lines.proofs.WantedLaws.{lines_left}
use Rattle.lucy_lines.proofs.feed_reader.FeedReader.pass_rest.Given as goal

abbrev pub invariant-lines : goal.invariant-lines
invariant-lines g l = record {
  reads : PassesMore (g.I.Source.seen l.initial.source) (g.I.Source.seen l.source) l.initial.self l.self;
  unread : l.initial.self.reader.ended ≡ true → (l.source ≡ l.initial.source) × (l.self ≡ l.initial.self);
  risen : AreMet l.initial.self.counts l.self.counts;
  fresh : l.self.fresh ≡ l.initial.self.fresh;
  inputs : l.self.reader.inputs ≡ l.initial.self.reader.inputs;
  count : (g.I.Source.seen l.initial.source).faults ≤ (g.I.Source.seen l.source).faults;
}

abbrev pub decreases-lines : goal.decreases-lines
decreases-lines g l = lines_left l.self.reader
