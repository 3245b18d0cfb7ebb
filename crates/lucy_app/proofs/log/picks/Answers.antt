use Rattle.lucy_app.proofs.Replays.{unfetched_read}
use Rattle.lucy_app.proofs.log.picks.Goals as goal

pub returns-in-Err-clause-read : goal.returns-in-Err-clause-read
returns-in-Err-clause-read c = unfetched_read c.args.fetched c.in-Err.error c.unfetched.result c.in-Err.is c.unfetched.ensures
