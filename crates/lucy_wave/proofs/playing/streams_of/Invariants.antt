use Rattle.std.proofs.Common.{◌≡◌, map, take}
use Rattle.lucy_host.specs.Operators.{kinds_of}
use Rattle.lucy_results.specs.Streams.{main_stream}
use Rattle.lucy_wave.proofs.playing.streams_of.Given as goal

-- the streams so far
abbrev pub invariant-each : goal.invariant-each
invariant-each l = l.lists ≡ take l.i (map (main_stream (kinds_of l.core.operators) l.core.inputs l.placed.nodes l.clocks l.core.instants) l.places)
