-- The words that the terms of drafts are on.
use Rattle.std.specs.Prelude.{◌≤◌}
use Rattle.std.specs.Coded.{Unit-prop, le_prop}
use Rattle.lucy_word.specs.Bits.{Bits}
use Rattle.lucy_word.specs.Always.{delayed}
use Rattle.lucy_word.specs.Complement.{turned}
use Rattle.lucy_tree.specs.Shaped.{HasZero, most_bound}
use Rattle.lucy_clock.specs.declared.side.Factor.{Factor}
use Rattle.lucy_clock.specs.declared.side.Factor.TheVariants.{Lent, Turned, Delayed}

-- the word of a factor
abbrev pub factor_word : Factor → Bits
factor_word (Lent word) = word.now
factor_word (Turned word) = turned word.now
factor_word (Delayed zeros) = delayed zeros

-- it is a word, and a short one where it is made up
abbrev pub IsFactor : Factor → Type 0
IsFactor (Lent word) = Unit {0}
IsFactor (Turned word) = HasZero word.now
IsFactor (Delayed zeros) = zeros ≤ most_bound

pub IsFactor-prop : (factor : Factor) → IsProp (IsFactor factor)
IsFactor-prop (Lent word) = Unit-prop
IsFactor-prop (Turned word) = le_prop
IsFactor-prop (Delayed zeros) = le_prop
