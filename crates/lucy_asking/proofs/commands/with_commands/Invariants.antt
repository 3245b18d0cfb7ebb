use Rattle.std.proofs.Common.{◌≡◌, drop}
use Rattle.clap.specs.Simple.{app_of}
use Rattle.lucy_asking.specs.Saying.{with_commands}
use Rattle.lucy_asking.proofs.commands.with_commands.Given as goal

-- the line so far, with the commands that are left, is that with all
abbrev pub invariant-each : goal.invariant-each
invariant-each l = with_commands (app_of l.line) (drop l.name-index l.names) ≡ with_commands (app_of l.fn.line) l.names
