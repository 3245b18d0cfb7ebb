-- Lists that are kept in memory that is made once.
use Rattle.std.specs.Prelude.{ℕ, ℤ, List, ◌++◌, take, drop}

-- the items that are held, oldest first, and for how many there is room
pub record HeldItems : Type 0 where
  pub items : List ℤ
  pub room : ℕ

-- so many slots from one on, around the end
abbrev pub window : ℕ → ℕ → List ℤ → List ℤ
window oldest count slots = take count (drop oldest slots ++ take oldest slots)
