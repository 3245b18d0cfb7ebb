use Rattle.std.proofs.Common.{ap, sym, [], ◌∷◌}
use Rattle.lucy_tree.specs.View.{tree_of}
use Rattle.lucy_syntax.proofs.OnPiles.{lies_as, pushed}
use Rattle.lucy_syntax.proofs.make.boxed.Goals as goal

pub returns-clause-top : goal.returns-clause-top
returns-clause-top c = lies_as (pushed c.in-Some.top c.in-Some.ensures.items) (ap (λ e. tree_of e ∷ []) (sym c.in_ok-new.ensures.ok))
