use Rattle.std.proofs.Common.{ℕ, ◌≤◌, Option, sym, subst}
use Rattle.std.specs.Prelude.{IfSome}
use Rattle.lucy_command.proofs.Ranges.{number_least, number_most}
use Rattle.lucy_command.proofs.numbers.number.Goals as goal

pub returns-clause-least : goal.returns-clause-least
returns-clause-least c =
    let P : Option ℕ → Type 0 = λ o. IfSome o (λ n. c.args.least ≤ n) in
    subst P (sym c.number.ensures) (number_least 7 c.args.least c.args.most c.as_bytes.result.now)

pub returns-clause-most : goal.returns-clause-most
returns-clause-most c =
    let P : Option ℕ → Type 0 = λ o. IfSome o (λ n. n ≤ c.args.most) in
    subst P (sym c.number.ensures) (number_most 7 c.args.least c.args.most c.as_bytes.result.now)
