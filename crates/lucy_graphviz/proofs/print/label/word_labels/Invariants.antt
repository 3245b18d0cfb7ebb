use Rattle.std.proofs.Common.{◌≡◌, map, take}
use Rattle.lucy_graphviz.specs.Labels.{word_label}
use Rattle.lucy_graphviz.proofs.print.label.word_labels.Given as goal

abbrev pub invariant-each : goal.invariant-each
invariant-each l = l.labels.items ≡ map word_label (take l.word-index l.words)
