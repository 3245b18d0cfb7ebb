use Rattle.std.specs.List.{AllWithin}
use Rattle.lucy_worker.specs.Turns.{IsServed}
use Rattle.lucy_net_rows.proofs.by_hand.are_served.Given as goal

-- the actors so far are served
abbrev pub invariant-loop-part : goal.invariant-loop-part
invariant-loop-part l = AllWithin (IsServed l.count) l.parts 0 l.part-index
