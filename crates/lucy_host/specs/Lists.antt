-- What contracts see of lists of numbers.
use Rattle.std.specs.Prelude.{ℤ, List, map}
use Rattle.std.specs.declared.alloc.Global.{Global}
use Rattle.std.specs.declared.vec.Vec.{Vec}

-- the lists that are kept
abbrev pub lists_of : List (Vec ℤ Global) → List (List ℤ)
lists_of kept = map (λ numbers. numbers.items) kept
