-- Why the two words of `order` are refused, with their statuses and lines.
use Rattle.std.specs.Prelude.{ℕ, List, ◌++◌, codes}
use Rattle.std.specs.Fmt.{decimal}
use Rattle.lucy_front.specs.Refusals.{limit_line}
use Rattle.lucy_app.specs.declared.input_refusal.InputCause.{InputCause}
use Rattle.lucy_app.specs.declared.input_refusal.InputCause.TheVariants.{Count, BadWord, NoOne, Limit}

-- the status of this cause, and its line
abbrev pub input_told : InputCause → ℕ × List ℕ
input_told (Count count) = (3, codes "lucy: input: " ++ (decimal count ++ codes " words, 2 wanted\n"))
input_told (BadWord number place) = (3, codes "lucy: input word " ++ (decimal number ++ (codes ": bad at " ++ (decimal place ++ codes "\n"))))
input_told (NoOne number) = (3, codes "lucy: input word " ++ (decimal number ++ codes ": no one in the period\n"))
input_told (Limit passed) = (6, limit_line passed)
