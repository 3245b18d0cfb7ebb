-- What a closure that answers operators returns.
use Rattle.std.proofs.Common.{◌≡◌, ◌<◌, ℕ, ℤ, List, length, FitsSigned, w64}
use Rattle.lucy_host.specs.HostValue.{hosted_value}
use Rattle.lucy_host.specs.Operators.{Operator, kinds_of}
use Rattle.lucy_host.specs.Host.{Answers}

pub answer_is : (may_call : ℕ → ℤ → ℤ → Type 0) (may_return : ℕ → ℤ → ℤ → ℤ → Type 0) (operators : List Operator) (op : ℕ) (a b r : ℤ) →
    Answers may_call may_return operators → op < length operators → FitsSigned w64 a → FitsSigned w64 b → may_return op a b r →
    r ≡ hosted_value (kinds_of operators) op a b
answer_is may_call may_return operators op a b r h l fa fb p = (h op a b l fa fb).1 r p
