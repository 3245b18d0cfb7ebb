use Rattle.std.proofs.Common.{ℕ, ◌≡◌, ◌≤◌, ◌<◌, true}
use Rattle.std.specs.Prelude.{◌⊎◌, slice_index_or}
use Rattle.lucy_lines.specs.Resuming.{AreMet, IsShort, ReadsWhile}
use Rattle.lucy_lines.proofs.feed_reader.FeedReader.read_to.Given as goal

abbrev pub invariant-loop-stream : goal.invariant-loop-stream
invariant-loop-stream g l = record {
  reads : ReadsWhile (IsShort l.wanted) (g.I.Source.seen l.initial.source) (g.I.Source.seen l.source) l.initial.self l.self;
  enough : (l.self.reader.ended ≡ true) ⊎ ((k : ℕ) → k < l.stream → slice_index_or l.wanted k 0 ≤ slice_index_or l.self.counts k 0);
  unread : (l.initial.self.reader.ended ≡ true) ⊎ AreMet l.wanted l.initial.self.counts → (l.source ≡ l.initial.source) × (l.self ≡ l.initial.self);
  risen : AreMet l.initial.self.counts l.self.counts;
  inputs : l.self.reader.inputs ≡ l.initial.self.reader.inputs;
  count : (g.I.Source.seen l.initial.source).faults ≤ (g.I.Source.seen l.source).faults;
}
