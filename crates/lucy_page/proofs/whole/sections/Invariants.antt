use Rattle.lucy_page.proofs.PutLaws.{Goes}
use Rattle.lucy_page.proofs.whole.sections.Given as goal

abbrev pub invariant-each : goal.invariant-each
invariant-each l = Goes l.accepted.placed.nodes l.number l.out.items
