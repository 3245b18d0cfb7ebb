-- The forms that the places of a program and the actors of a net have.
use Rattle.std.specs.Prelude.{ℕ, ℤ}
use Rattle.lucy_word.specs.Bits.{Bits}
use Rattle.lucy_host.specs.declared.op.Op.{Op}
use Rattle.lucy_host.specs.Arity.{arity}

-- what a place or an actor does with its operands
pub data Form : Type 0 where
  -- a parameter of main: the input of this number
  Given : (input : ℕ) → Form
  -- a literal
  Constant : (value : ℤ) → Form
  -- an operator of the language
  Pointwise : (op : Op) → Form
  -- an operator of the host, by its number
  Hosted : (op : ℕ) → Form
  -- `e when word`; `e whenot word` has the complement
  Kept : (word : Bits) → Form
  -- `merge word a b`
  Merged : (word : Bits) → Form
  -- `first fby e`
  Delayed : (first : ℤ) → Form
  -- a defined name, a buffer, a parameter or a result of a call, an output
  Same : Form

-- how many operands a form has
abbrev pub operands : Form → ℕ
operands (Given input) = 0
operands (Constant value) = 0
operands (Pointwise op) = arity op
operands (Hosted op) = 2
operands (Kept word) = 1
operands (Merged word) = 2
operands (Delayed first) = 1
operands Same = 1
