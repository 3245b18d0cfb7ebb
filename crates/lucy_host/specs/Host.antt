-- What a host's closure answers.
use Rattle.std.specs.Prelude.{◌≡◌, ◌<◌, ℕ, ℤ, List, length, FitsSigned}
use Rattle.std.specs.Int.{w64}
use Rattle.lucy_host.specs.HostValue.{hosted_value}
use Rattle.lucy_host.specs.Operators.{Operator, kinds_of}
use Rattle.lucy_host.specs.declared.host.Host.{Host}

-- a closure, by when it may be called and what it may return, may be called with the number of each operator and any two
-- numbers of 64 bits, and returns the operator's value
abbrev pub Answers : (may_call : ℕ → ℤ → ℤ → Type 0) (may_return : ℕ → ℤ → ℤ → ℤ → Type 0) → List Operator → Type 0
Answers may_call may_return operators =
    (op : ℕ) (a b : ℤ) → op < length operators → FitsSigned w64 a → FitsSigned w64 b →
    may_call op a b × ((r : ℤ) → may_return op a b r → r ≡ hosted_value (kinds_of operators) op a b)

-- the operators of a host
abbrev pub lent : {F : Type 0} → Host F → List Operator
lent host = host.ops

-- the closure of a host, by when a closure of its type may be called and what it may return, answers the host's operators
abbrev pub Serves : {F : Type 0} (may_call : F → ℕ → ℤ → ℤ → Type 0) (may_return : F → ℕ → ℤ → ℤ → ℤ → Type 0) → Host F → Type 0
Serves may_call may_return host = Answers (may_call host.closure) (may_return host.closure) (lent host)
