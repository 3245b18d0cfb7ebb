use Rattle.lucy_net_rows.specs.Ready.{HasOneList}
use Rattle.lucy_net_rows.proofs.ready.one_input.Given as goal

-- the items so far
abbrev pub invariant-items : goal.invariant-items
invariant-items l = HasOneList l.item-index l.inputs
