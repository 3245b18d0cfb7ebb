use Rattle.std.proofs.Common.{refl}
use Rattle.lucy_host.specs.Host.{lent}
use Rattle.lucy_app.specs.World.{bytes_of}
use Rattle.lucy_views.proofs.Sinks.{picture_ends, wave_ends}
use Rattle.lucy_views.proofs.looking.answer.Goals as goal

pub returns-in-Wave-clause-ends : goal.returns-in-Wave-clause-ends
returns-in-Wave-clause-ends g c =
    let (taken, stop, read, reads, ends) = c.wave.ensures.ends in
    wave_ends c.args.ask c.in-Wave.words (lent c.args.host.now) (bytes_of c.fetch-fetched.result) _ _ _ taken stop c.in-Wave.is refl c.fetch-fetched.ensures.fetched read reads ends

pub returns-in-Picture-clause-ends : goal.returns-in-Picture-clause-ends
returns-in-Picture-clause-ends g c =
    picture_ends c.args.ask c.in-Picture.picture c.file_of.result.now c.ops.result.now (bytes_of c.fetch-fetched-in-Picture.result) c.outcome_of-outcome.result _ _ _
    c.in-Picture.is c.file_of.ensures c.ops.ensures c.fetch-fetched-in-Picture.ensures.fetched refl c.outcome_of-outcome.ensures.outcome c.finish.ensures.delivers
