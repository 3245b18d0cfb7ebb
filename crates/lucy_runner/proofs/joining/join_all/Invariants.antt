use Rattle.lucy_runner.specs.Making.{HaveAllJoined}
use Rattle.lucy_runner.proofs.joining.join_all.Given as goal

abbrev pub invariant-loop-spec : goal.invariant-loop-spec
invariant-loop-spec l = HaveAllJoined l.rings l.spec-index l.initial.parts l.parts l.ends.items
