use Rattle.std.proofs.Common.{◌≡◌, ◌≤◌}
use Rattle.lucy_make.specs.Text.{made_lines}
use Rattle.lucy_make.proofs.input.made_input.Given as goal

abbrev pub invariant-each : goal.invariant-each
invariant-each l = (l.text.items ≡ made_lines l.before) × (l.before ≤ 1000)
