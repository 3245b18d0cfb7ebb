use Rattle.std.proofs.Common.{List, ◌≡◌, ◌++◌}
use Rattle.lucy_flat.specs.declared.draft.Draft.{Draft}
use Rattle.lucy_flat.specs.Assembly.{all_reads, AreActorsOf}
use Rattle.lucy_flat.proofs.assemble.actors.Given as goal

abbrev pub invariant-each : goal.invariant-each
invariant-each l = (done : List Draft) × (l.fn.drafts.items ≡ done ++ l.draft-iterator.rest.items) × AreActorsOf l.rings done l.actors.items × (l.first ≡ all_reads done)
