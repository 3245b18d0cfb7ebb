-- The numbers that literals stand for in streams.
use Rattle.std.specs.Prelude.{ℤ, pos, if◌then◌else◌}
use Rattle.lucy_tree.specs.declared.expr.Lit.{Lit}
use Rattle.lucy_tree.specs.declared.expr.Lit.TheVariants.{Int, Bool}

-- an int itself, true 1 and false 0
abbrev pub literal_value : Lit → ℤ
literal_value (Int n) = n
literal_value (Bool b) = if b then pos 1 else pos 0
