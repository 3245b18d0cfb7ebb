use Rattle.std.proofs.Common.{◌++◌, ◌∷◌, [], ap, ◌∙◌, if◌then◌else◌}
use Rattle.lucy_naming.specs.Texts.{is_in}
use Rattle.lucy_naming.proofs.placing.keep.Goals as goal

pub returns-clause-names : goal.returns-clause-names
returns-clause-names c = c.in_ok-add.ensures.names ∙ ap (λ t. if is_in c.args.scope.now t then c.args.scope.now else c.args.scope.now ++ t ∷ []) c.bytes.ensures
