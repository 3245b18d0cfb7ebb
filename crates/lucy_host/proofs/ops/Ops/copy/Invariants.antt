use Rattle.std.proofs.Common.{◌≡◌, take}
use Rattle.lucy_host.specs.Entries.{operators_of}
use Rattle.lucy_host.proofs.ops.Ops.copy.Given as goal

-- those that were passed are copied
abbrev pub invariant-loop-entry : goal.invariant-loop-entry
invariant-loop-entry l = operators_of l.list.items ≡ operators_of (take l.entry-index l.entry-items)
