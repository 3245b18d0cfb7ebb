use Rattle.std.proofs.Common.{◌≡◌, drop}
use Rattle.clap.specs.Simple.{Shape}
use Rattle.lucy_asking.specs.Saying.{HasShape, taking_more}
use Rattle.lucy_asking.proofs.commands.with_args.Given as goal

-- the command so far, with what is left, takes all
abbrev pub invariant-each : goal.invariant-each
invariant-each l = (shape : Shape) → HasShape shape l.fn.command → (now : Shape) × HasShape now l.command × (taking_more now (drop l.one-index l.list) ≡ taking_more shape l.list)
