use Rattle.std.proofs.lemmas.Option.{slice_get_within}
use Rattle.lucy_app.proofs.TightOut.{tight_out, fixed_out, limit_out}
use Rattle.lucy_app.proofs.tightening.print_of.Goals as goal

pub report_tight-requires-clause-node : goal.report_tight-requires-clause-node
report_tight-requires-clause-node c = let there = c.requires.there in slice_get_within c.args.accepted.now.placed.nodes c.args.node there.0 there.1

pub report_fixed-requires : goal.report_fixed-requires
report_fixed-requires c = let there = c.requires.there in slice_get_within c.args.accepted.now.placed.nodes c.args.node there.0 there.1

pub returns-in_ok-report_tight-in-Ok-clause-outcome : goal.returns-in_ok-report_tight-in-Ok-clause-outcome
returns-in_ok-report_tight-in-Ok-clause-outcome c =
    tight_out c.args.accepted.now c.args.options.now c.args.node c.args.buffer c.in-Ok.tight c.in_ok-report_tight-in-Ok.field-0 c.in-Ok.ensures.tightened c.in_ok-report_tight-in-Ok.ensures

pub returns-in_ok-report_fixed-in-Err-Fixed-clause-outcome : goal.returns-in_ok-report_fixed-in-Err-Fixed-clause-outcome
returns-in_ok-report_fixed-in-Err-Fixed-clause-outcome c =
    fixed_out c.args.accepted.now c.args.options.now c.args.node c.args.buffer c.in-Err-Fixed.size c.in_ok-report_fixed-in-Err-Fixed.field-0 (rw c.in-Err-Fixed.field-0-is at c.in-Err-Fixed.ensures.refused)
    c.in_ok-report_fixed-in-Err-Fixed.ensures

pub returns-in-Err-Limit-clause-outcome : goal.returns-in-Err-Limit-clause-outcome
returns-in-Err-Limit-clause-outcome c =
    limit_out c.args.accepted.now c.args.options.now c.args.node c.args.buffer c.in-Err-Limit.limit (rw c.in-Err-Limit.field-0-is at c.in-Err-Limit.ensures.refused)
