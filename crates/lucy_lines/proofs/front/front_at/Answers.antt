use Rattle.std.proofs.Common.{arith}
use Rattle.lucy_lines.proofs.FrontLaws.{run_within}
use Rattle.lucy_lines.proofs.front.front_at.Goals as goal

pub run_of-run-requires-clause-within : goal.run_of-run-requires-clause-within
run_of-run-requires-clause-within c = omega (arith, c.requires.seen, run_within c.args.bytes.now)
