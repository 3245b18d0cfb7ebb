-- The names of variables.
use Rattle.std.specs.Prelude.{ℕ, List, ◌++◌, codes}
use Rattle.std.specs.Fmt.{decimal}

-- the name of the bit that tells whether a stream has an item
abbrev pub there_name : (stream : List ℕ) → List ℕ
there_name stream = stream ++ codes "$there"

-- the name of what waits in a buffer
abbrev pub buffer_name : (number : ℕ) → List ℕ
buffer_name number = codes "buffer$" ++ decimal number
