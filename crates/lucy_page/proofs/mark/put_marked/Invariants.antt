use Rattle.lucy_page.specs.Puts.{PutsOn}
use Rattle.lucy_page.proofs.mark.put_marked.Given as goal

abbrev pub invariant-each : goal.invariant-each
invariant-each l = PutsOn l.text 0 l.at l.initial.out.items l.out.items
