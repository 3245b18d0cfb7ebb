use Rattle.std.proofs.Common.{◌≡◌, ◌≤◌, ◌-◌, drop, map, string_bytes, length}
use Rattle.lucy_command.specs.Parts.{texts_of}
use Rattle.lucy_command.specs.Seen.{texts, seen_text, texts_with, AreFull}
use Rattle.lucy_command.proofs.folding.texts_of.Given as goal

abbrev pub invariant-each : goal.invariant-each
invariant-each l =
    let t = texts (seen_text l.texts.0) (seen_text l.texts.1.0) (seen_text l.texts.1.1.0) (seen_text l.texts.1.1.1.0) (seen_text l.texts.1.1.1.1.0) (seen_text l.texts.1.1.1.1.1.0) (seen_text l.texts.1.1.1.1.1.1.0) in
    (texts_with l.name t (map string_bytes (drop l.at l.words)) ≡ texts_of l.name (map string_bytes l.words)) × AreFull t × (l.at ≤ length l.words)

abbrev pub decreases-each : goal.decreases-each
decreases-each l = length l.words - l.at
