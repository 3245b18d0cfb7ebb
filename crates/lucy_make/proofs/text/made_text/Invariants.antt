use Rattle.std.proofs.Common.{◌≡◌, ◌≤◌}
use Rattle.lucy_make.specs.Text.{stage_lines}
use Rattle.lucy_make.proofs.Lines.{text_with}
use Rattle.lucy_make.proofs.text.made_text.Given as goal

abbrev pub invariant-each : goal.invariant-each
invariant-each l = (l.text.items ≡ text_with l.fn.stages (stage_lines l.before)) × (l.before ≤ l.fn.stages)
