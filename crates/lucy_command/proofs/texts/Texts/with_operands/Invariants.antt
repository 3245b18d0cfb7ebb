use Rattle.std.proofs.Common.{◌≡◌, drop, map, string_bytes}
use Rattle.lucy_command.specs.Parts.{Operand, with_parts}
use Rattle.lucy_command.specs.Seen.{texts, seen_text, AreFull}
use Rattle.lucy_command.proofs.texts.Texts.with_operands.Given as goal

abbrev pub invariant-each : goal.invariant-each
invariant-each l =
    let t = texts (seen_text l.texts.scale) (seen_text l.texts.lead) (seen_text l.texts.instants) (seen_text l.texts.workers) (seen_text l.texts.block) (seen_text l.texts.first) (seen_text l.texts.second) in
    let all = map Operand (map string_bytes l.words) in
    (with_parts t (map Operand (map string_bytes (drop l.word-index l.words))) ≡ with_parts (texts (seen_text l.self.scale) (seen_text l.self.lead) (seen_text l.self.instants) (seen_text l.self.workers) (seen_text l.self.block) (seen_text l.self.first) (seen_text l.self.second)) all) × AreFull t
