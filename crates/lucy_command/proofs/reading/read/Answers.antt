use Rattle.std.proofs.Common.{rules, ap, ◌∙◌}
use Rattle.lucy_command.specs.Commands.{command_with}
use Rattle.lucy_command.specs.Seen.{seen}
use Rattle.lucy_command.proofs.reading.read.Goals as goal

pub returns-clause-ok : goal.returns-clause-ok
returns-clause-ok c =
    let same = c.in_ok-found.ensures (seen c.in-Some.texts) c.in-Some.ensures.full (search rules) in
    c.command_with.ensures.is ∙ ap (command_with c.in-Some.name) same ∙ c.in-Some.ensures.is
