use Rattle.std.proofs.Common.{◌≡◌, ◌+◌, ◌*◌, ℕ, List}
use Rattle.lucy_flat.specs.declared.draft.Draft.{Draft}
use Rattle.lucy_flat.specs.Drafts.{IsInstance, AreKept, AreKeptSoFar}
use Rattle.lucy_flat.proofs.instance.+put_instance.Given as goal

abbrev pub decreases-put_instance : goal.decreases-put_instance
decreases-put_instance l = 3 * l.node + 2

abbrev pub decreases-put_inside : goal.decreases-put_inside
decreases-put_inside l = 3 * l.node + 1

abbrev pub decreases-put_call : goal.decreases-put_call
decreases-put_call l = 3 * l.node

abbrev pub invariant-put_inside-calls : goal.invariant-put_inside-calls
invariant-put_inside-calls l =
    (path : List ℕ) (old : List Draft) (is : IsInstance l.program.placed.now.nodes l.program.clocks.now path l.of) → is.index ≡ l.node → AreKept old l.fn.kept →
    AreKeptSoFar l.program.placed.now.nodes l.program.clocks.now path l.of.node.now l.call old l.kept
