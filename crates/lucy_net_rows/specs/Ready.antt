-- What a program is run on.
use Rattle.std.specs.Prelude.{ℕ, ◌≡◌, List, ℤ, length}
use Rattle.lucy_stream.specs.Items.{list_at}

-- one input, with so many items
pub record HasOneList (items : ℕ) (inputs : List (List ℤ)) : Type 0 where
  pub one : length inputs ≡ 1
  pub all : length (list_at inputs 0) ≡ items
