use Rattle.std.proofs.Common.{◌∙◌}
use Rattle.lucy_naming.proofs.TextLaws.{place_none}
use Rattle.lucy_naming.proofs.scope.Scope.place.Goals as goal

pub returns-in-None-clause-place : goal.returns-in-None-clause-place
returns-in-None-clause-place c = c.len.ensures ∙ place_none c.args.self.now c.args.name.now c.in-None.ensures.found
