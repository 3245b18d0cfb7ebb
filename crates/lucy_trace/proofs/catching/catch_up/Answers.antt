use Rattle.lucy_core.specs.Seen.{Seen}
use Rattle.lucy_trace.proofs.CatchingLaws.{HasRuns, ahead_most}
use Rattle.lucy_trace.proofs.catching.catch_up.Goals as goal

pub room_until-requires-clause-most : goal.room_until-requires-clause-most
room_until-requires-clause-most g c =
    let first : Seen = c.args.core.now in
    let law : HasRuns first = record { counts = c.runs_go_on.ensures.counts; actors = c.runs_go_on.ensures.actors; joined = c.runs_go_on.ensures.joined } in
    ahead_most c.args.done.now first law c.requires.ahead
