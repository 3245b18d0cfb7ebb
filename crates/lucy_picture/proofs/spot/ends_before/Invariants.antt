use Rattle.std.proofs.Common.{◌≡◌, ◌≤◌, take}
use Rattle.lucy_picture.specs.Spots.{line_ends}
use Rattle.lucy_picture.proofs.spot.ends_before.Given as goal

abbrev pub invariant-each : goal.invariant-each
invariant-each l = (l.ends ≡ line_ends (take l.i l.text)) × (l.ends ≤ l.i)
