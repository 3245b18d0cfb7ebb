use Rattle.std.proofs.Common.{length, ap, sym, ◌∙◌}
use Rattle.std.proofs.lemmas.Result.{IfOk-weaker}
use Rattle.lucy_host.specs.Host.{lent}
use Rattle.lucy_host.specs.Operators.{kinds_of}
use Rattle.lucy_wave.proofs.WaveLaws.{streams_count, inside_count, is_dump}
use Rattle.lucy_wave.proofs.waving.dumped.Goals as goal

pub wave_text-requires-clause-lists : goal.wave_text-requires-clause-lists
wave_text-requires-clause-lists g c = c.requires.inputs ∙ ap length (sym c.in_ok-played.ensures.lists)

pub wave_text-requires-clause-streams : goal.wave_text-requires-clause-streams
wave_text-requires-clause-streams g c =
    streams_count (kinds_of (lent c.args.host.now)) c.args.items c.args.placed.now.nodes c.args.clocks.now c.args.horizon c.in_ok-played.played.streams c.in_ok-played.ensures.streams

pub wave_text-requires-clause-inside : goal.wave_text-requires-clause-inside
wave_text-requires-clause-inside g c =
    inside_count (kinds_of (lent c.args.host.now)) c.args.items c.args.placed.now.nodes c.args.clocks.now c.args.net c.args.horizon c.in_ok-played.played.inside c.in_ok-played.ensures.inside

pub returns : goal.returns
returns g c =
    IfOk-weaker c.wave_text.result _ _
    (λ v wave. is_dump (kinds_of (lent c.args.host.now)) c.args.placed.now.nodes c.args.clocks.now c.args.net c.args.outputs.now c.args.items c.args.horizon c.in_ok-played.played.lists c.in_ok-played.played.streams
    c.in_ok-played.played.inside v.items c.in_ok-played.ensures.lists c.in_ok-played.ensures.streams c.in_ok-played.ensures.inside wave)
    c.wave_text.ensures
