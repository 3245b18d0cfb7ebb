use Rattle.std.proofs.Common.{◌≡◌, ◌+◌, take}
use Rattle.std.specs.List.{AllWithin}
use Rattle.lucy_worker.specs.News.{IsNew, ends_by, most_ends}
use Rattle.lucy_net_rows.proofs.complete.are_complete.Given as goal

-- the parts so far are complete, and their ends are counted
abbrev pub invariant-loop-part : goal.invariant-loop-part
invariant-loop-part l = record { new : AllWithin IsNew l.parts 0 l.part-index; few : ends_by (take l.part-index l.parts) + l.left ≡ most_ends }
