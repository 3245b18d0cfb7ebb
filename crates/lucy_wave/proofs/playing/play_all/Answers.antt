use Rattle.std.proofs.Common.{length, sym, subst}
use Rattle.lucy_wave.specs.Seen.{AreFed}
use Rattle.lucy_wave.proofs.playing.play_all.Goals as goal

pub all_streams-found-requires-clause-fed : goal.all_streams-found-requires-clause-fed
all_streams-found-requires-clause-fed g c =
    subst (λ net. AreFed c.args.placed.now.nodes c.args.clocks.now net 0 c.args.results.now) (sym c.in_ok-core.ensures.net) c.requires.fed

pub all_streams-found-requires-clause-fed_too : goal.all_streams-found-requires-clause-fed_too
all_streams-found-requires-clause-fed_too g c =
    subst (λ net. AreFed c.args.placed.now.nodes c.args.clocks.now net (length c.args.results.now) c.args.places.now) (sym c.in_ok-core.ensures.net) c.requires.fed_too
