use Rattle.std.proofs.Common.{◌≡◌, map, take}
use Rattle.std.specs.Fmt.{decimal}
use Rattle.std.specs.List.{join_with_byte}
use Rattle.lucy_trace.proofs.tracing.line_of.Given as goal

-- the actors so far
abbrev pub invariant-loop-place : goal.invariant-loop-place
invariant-loop-place l = l.line.items ≡ join_with_byte 32 (map decimal (take l.place l.picks))
