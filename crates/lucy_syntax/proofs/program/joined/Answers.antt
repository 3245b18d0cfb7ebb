use Rattle.std.proofs.Common.{◌++◌, List, ap, ◌∙◌}
use Rattle.lucy_tree.specs.declared.decl.Decl as decl
use Rattle.lucy_syntax.proofs.program.joined.Goals as goal

pub returns : goal.returns
returns c = c.in_ok-append.ensures.items ∙ ap (λ (x : List decl.Decl). x ++ c.args.others.items) c.in_ok-list.ensures
