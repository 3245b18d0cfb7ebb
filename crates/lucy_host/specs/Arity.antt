-- How many operands an operator has.
use Rattle.std.specs.Prelude.{ℕ}
use Rattle.lucy_host.specs.declared.op.Op.{Op}
use Rattle.lucy_host.specs.declared.op.Op.TheVariants.{Not, If}

-- how many operands an operator has
abbrev pub arity : Op → ℕ
arity Not = 1
arity If = 3
arity op = 2
