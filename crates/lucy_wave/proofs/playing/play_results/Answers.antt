use Rattle.std.proofs.Common.{sym, subst}
use Rattle.lucy_wave.specs.Seen.{AreFed}
use Rattle.lucy_wave.proofs.playing.play_results.Goals as goal

pub streams_of-found-requires-clause-fed : goal.streams_of-found-requires-clause-fed
streams_of-found-requires-clause-fed g c =
    subst (λ net. AreFed c.args.placed.now.nodes c.args.clocks.now net 0 c.args.results.now) (sym c.in_ok-core.ensures.net) c.requires.fed
