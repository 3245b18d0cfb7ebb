use Rattle.std.proofs.Common.{refl, [], ◌∷◌}
use Rattle.lucy_host.specs.Host.{lent}
use Rattle.lucy_app.specs.World.{Given}
use Rattle.lucy_app.specs.Outcomes.{bytes_of}
use Rattle.lucy_app.proofs.Played.{played_met}
use Rattle.lucy_app.proofs.playing.play_file.Goals as goal

pub returns-clause-ends : goal.returns-clause-ends
returns-clause-ends g c =
    let read = c.play.ensures.ends in
    let given : Given = record {
      fetched = bytes_of c.fetch-fetched.result ∷ [];
      taken = read.0;
      stop = read.1;
      operators = lent
          c.args.host.now;
    } in (
      given,
      record { shelf = (_, c.fetch-fetched.ensures.fetched, refl); source = read.2; unread = read.3; operators = refl },
      read.4,
      played_met (record { file = c.args.words.file.now; scale = c.args.words.scale; lead = c.args.words.lead; instants = c.args.words.instants })
          c.args.words.workers c.args.words.block given (g.N.Engine.asked c.args.engine.now) (g.N.Engine.asked c.play.new.engine) _ _ _ _ _ read.5,
    )
