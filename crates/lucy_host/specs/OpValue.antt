-- The table of the language's operators, on integers.
use Rattle.std.specs.Prelude.{ℤ, pos, ◌+ℤ◌, ◌-ℤ◌, ◌*ℤ◌, int_lt, int_le, int_div, Bool, not, ◌&&◌, ◌||◌, if◌then◌else◌}
use Rattle.std.specs.Ordering.{int_eq}
use Rattle.lucy_host.specs.Numbers.{least_number, minus_one, wrapped}
use Rattle.lucy_host.specs.declared.op.Op.{Op}
use Rattle.lucy_host.specs.declared.op.Op.TheVariants.{Add, Sub, Mul, Div, Rem, Eq, Ne, Lt, Le, Gt, Ge, And, Or, Not, If}

-- where a truth is read, every number but 0 is true
abbrev pub is_true : ℤ → Bool
is_true a = not (int_eq a (pos 0))

-- true is 1 and false is 0
abbrev pub truth_number : Bool → ℤ
truth_number truth = if truth then pos 1 else pos 0

-- a / b, rounded towards zero: by 0 it is 0, and the least number by -1 is itself
abbrev pub quotient : ℤ → ℤ → ℤ
quotient a b =
    if int_eq b (pos 0) then pos 0
    else if int_eq a least_number && int_eq b minus_one then least_number
    else int_div a b

-- what the quotient leaves of a, wrapped: by 0 it is a
abbrev pub remainder : ℤ → ℤ → ℤ
remainder a b = if int_eq b (pos 0) then a else wrapped (a -ℤ quotient a b *ℤ b)

-- what the operator makes of its operands
unfoldable pub op_value : Op → ℤ → ℤ → ℤ → ℤ
op_value Add a b c = wrapped (a +ℤ b)
op_value Sub a b c = wrapped (a -ℤ b)
op_value Mul a b c = wrapped (a *ℤ b)
op_value Div a b c = quotient a b
op_value Rem a b c = remainder a b
op_value Eq a b c = truth_number (int_eq a b)
op_value Ne a b c = truth_number (not (int_eq a b))
op_value Lt a b c = truth_number (int_lt a b)
op_value Le a b c = truth_number (int_le a b)
op_value Gt a b c = truth_number (int_lt b a)
op_value Ge a b c = truth_number (int_le b a)
op_value And a b c = truth_number (is_true a && is_true b)
op_value Or a b c = truth_number (is_true a || is_true b)
op_value Not a b c = truth_number (not (is_true a))
op_value If a b c = if is_true a then b else c
