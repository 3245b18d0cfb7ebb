use Rattle.std.proofs.Common.{◌≡◌, drop}
use Rattle.std.specs.Str.{all_ascii_digits}
use Rattle.lucy_fields.proofs.numbers.are_digits.Given as goal

abbrev pub invariant-each : goal.invariant-each
invariant-each l = all_ascii_digits (drop l.byte-index l.bytes) ≡ all_ascii_digits l.bytes
