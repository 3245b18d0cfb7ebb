use Rattle.std.proofs.Common.{ap, ◌∙◌}
use Rattle.lucy_naming.specs.Texts.{is_in, find_in}
use Rattle.lucy_naming.proofs.TextLaws.{any_seen, found_seen}
use Rattle.lucy_naming.proofs.scope.Scope.find.Goals as goal

pub returns-clause-found : goal.returns-clause-found
returns-clause-found c =
    c.get_index_of.ensures.index ∙ found_seen c.args.name.now c.self.inside.names.keys ∙ ap (λ l. find_in l c.args.name.now) c.self.view_is

pub returns-clause-there : goal.returns-clause-there
returns-clause-there c =
    c.get_index_of.ensures.found ∙ any_seen c.args.name.now c.self.inside.names.keys ∙ ap (λ l. is_in l c.args.name.now) c.self.view_is
