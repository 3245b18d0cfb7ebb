use Rattle.lucy_explain.specs.Joining.{AreStreamsOf}
use Rattle.lucy_explain.proofs.streams.clock_streams.Given as goal

abbrev pub invariant-each : goal.invariant-each
invariant-each l = AreStreamsOf l.needs.list l.needs.clocks l.need-index l.streams.items
