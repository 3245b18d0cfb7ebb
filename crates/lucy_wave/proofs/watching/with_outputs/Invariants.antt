use Rattle.std.proofs.Common.{◌≡◌, ◌+◌, length, drop}
use Rattle.lucy_need.specs.Meeting.{assigned}
use Rattle.lucy_wave.specs.Watching.{with_outputs}
use Rattle.lucy_wave.specs.Seen.{net_of}
use Rattle.lucy_wave.proofs.watching.with_outputs.Given as goal

-- the net so far, with the outputs that are left, is that with all
abbrev pub invariant-each : goal.invariant-each
invariant-each l =
    (with_outputs (net_of l.draft) (assigned l.words) (l.first + l.i) (drop l.i l.places) ≡ with_outputs l.net (assigned l.words) l.first l.places)
    × (length l.draft.actors.items ≡ length l.net.actors + l.i) × (length l.draft.rings.items ≡ length l.net.rings + l.i)
