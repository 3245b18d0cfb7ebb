use Rattle.lucy_lines.proofs.GivenLaws.{nothing_read, none_read_on, all_read, as_many}
use Rattle.lucy_lines.proofs.feeds.read_feed.Goals as goal

pub returns-in_err-reader-clause-fed : goal.returns-in_err-reader-clause-fed
returns-in_err-reader-clause-fed g c = nothing_read _ _ _ c.from_residual.ensures.0

pub returns-in_err-read_on-clause-fed : goal.returns-in_err-read_on-clause-fed
returns-in_err-read_on-clause-fed g c = none_read_on c.args.inputs.items _ _ c.in_ok-reader.reader _ c.from_residual-in_err-read_on.ensures.0 (c.in_ok-reader.ensures.begun _) c.in_ok-reader.ensures.fresh c.in_err-read_on.ensures.gives_up

pub returns-clause-fed : goal.returns-clause-fed
returns-clause-fed g c = all_read c.args.inputs.items _ _ c.in_ok-reader.reader c.read_on.new.self c.into_feed.result (c.in_ok-reader.ensures.begun _) c.in_ok-reader.ensures.fresh
    c.in_ok-read_on.ensures.reads c.in_ok-read_on.ensures.stopped c.into_feed.ensures

pub returns-clause-lists : goal.returns-clause-lists
returns-clause-lists g c = as_many c.args.inputs.items _ _ c.in_ok-reader.reader c.read_on.new.self c.into_feed.result (c.in_ok-reader.ensures.begun _) c.in_ok-reader.ensures.fresh
    c.in_ok-read_on.ensures.reads c.into_feed.ensures
