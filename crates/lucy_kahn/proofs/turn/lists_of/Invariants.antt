use Rattle.std.proofs.Common.{◌≡◌, ℕ, suc, List}
use Rattle.lucy_host.specs.Host.{lent}
use Rattle.lucy_host.specs.Operators.{kinds_of}
use Rattle.lucy_kahn.specs.Turns.{lists_to, AreShort}
use Rattle.lucy_kahn.specs.Views.{IsBefore}
use Rattle.lucy_kahn.proofs.turn.lists_of.Given as goal

abbrev pub invariant-each : goal.invariant-each
invariant-each g l = (paths : ℕ → List ℕ) → IsBefore (kinds_of (lent l.host)) l.before paths →
    (l.lists ≡ lists_to (kinds_of (lent l.host)) l.before.inputs.now l.before.placed.now.nodes (suc l.before.number) (paths l.instance) l.i) × AreShort l.lists
