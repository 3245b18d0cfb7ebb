use Rattle.std.proofs.Common.{◌≡◌, ◌++◌, replicate}
use Rattle.lucy_word.proofs.print.push_digits.Given as goal

abbrev pub invariant-digits : goal.invariant-digits
invariant-digits l = l.text.items ≡ l.initial.text.items ++ replicate l.counter l.digit
