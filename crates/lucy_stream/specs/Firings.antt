-- What an actor gives in one firing, by what it took so far. `fired` firings are done before it.
use Rattle.std.specs.Prelude.{ℕ, suc, zero, ◌+◌, ◌-◌, ◌<◌, ◌≤◌, ◌≡◌, true, List, ℤ, length, if◌then◌else◌}
use Rattle.lucy_word.specs.Bits.{bit_at, ones_to}
use Rattle.lucy_host.specs.OpValue.{op_value}
use Rattle.lucy_host.specs.declared.kind.HostKind.{HostKind}
use Rattle.lucy_stream.specs.Items.{item_at, newest, list_at}
use Rattle.lucy_stream.specs.Forms.{Form, Given, Constant, Pointwise, Hosted, Kept, Merged, Delayed, Same, operands}
use Rattle.lucy_host.specs.HostValue.{hosted_value}

-- the literal in the first firing, later what was taken in the firing before
abbrev pub delayed_value : ℤ → ℕ → List ℤ → ℤ
delayed_value first zero took = first
delayed_value first (suc fired) took = newest took

-- the value that the firing gives, by the newest item of each operand
abbrev pub fire_value : List HostKind → List (List ℤ) → Form → ℕ → List (List ℤ) → ℤ
fire_value kinds inputs (Given input) fired took = item_at (list_at inputs input) fired
fire_value kinds inputs (Constant value) fired took = value
fire_value kinds inputs (Pointwise op) fired took = op_value op (newest (list_at took 0)) (newest (list_at took 1)) (newest (list_at took 2))
fire_value kinds inputs (Hosted op) fired took = hosted_value kinds op (newest (list_at took 0)) (newest (list_at took 1))
fire_value kinds inputs (Kept word) fired took = newest (list_at took 0)
fire_value kinds inputs (Merged word) fired took = if bit_at word (fired + 1) then newest (list_at took 0) else newest (list_at took 1)
fire_value kinds inputs (Delayed first) fired took = delayed_value first fired (list_at took 0)
fire_value kinds inputs Same fired took = newest (list_at took 0)

-- the firing gives: a sampling only where its word has a one
abbrev pub DoesGive : Form → ℕ → Type 0
DoesGive (Kept word) fired = bit_at word (fired + 1) ≡ true
DoesGive form fired = Unit {0}

-- how many items the first firings give
abbrev pub gave_in : Form → ℕ → ℕ
gave_in (Kept word) fired = ones_to word fired
gave_in form fired = fired

-- how many items the first firings take from an operand: a merge takes from one of its two in each
abbrev pub took_in : Form → ℕ → ℕ → ℕ
took_in (Merged word) fired zero = ones_to word fired
took_in (Merged word) fired (suc i) = fired - ones_to word fired
took_in form fired i = fired

-- how many were taken from it when the next firing gives: a delay gives before it takes
abbrev pub took_at_give : Form → ℕ → ℕ → ℕ
took_at_give (Delayed first) fired i = took_in (Delayed first) fired i
took_at_give form fired i = took_in form (fired + 1) i

-- as many items were taken from each operand as when the firing gives
abbrev pub HasTaken : Form → ℕ → List (List ℤ) → Type 0
HasTaken form fired took = (i : ℕ) → i < operands form → length (list_at took i) ≡ took_at_give form fired i

-- what a firing without operands gives is there: an item of the input, or a copy of the literal in the iterate n + 1
abbrev pub IsThere : List (List ℤ) → ℕ → Form → ℕ → Type 0
IsThere inputs n (Given input) fired = fired < length (list_at inputs input)
IsThere inputs n (Constant value) fired = fired ≤ n
IsThere inputs n form fired = Unit {0}
