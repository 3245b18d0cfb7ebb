-- What contracts see of a shelf over the file system.
use Rattle.std.specs.Prelude.{ℕ, ◌<◌, ◌≤◌, ◌≡◌, List, length, Option, Some, None, IfSome, MatchOption, Result, Ok, Err}
use Rattle.std.specs.Io.KnownBytes.{Consumes}
use Rattle.std.specs.declared.alloc.Global.{Global}
use Rattle.std.specs.declared.vec.Vec.{Vec}
use Rattle.lucy_text.specs.declared.shelf.ShelfError.{ShelfError}
use Rattle.lucy_text.specs.declared.shelf.ShelfError.TheVariants.{TooLong}
use Rattle.lucy_text.specs.declared.real_shelf.RealShelf.{RealShelf}

-- how many fetches have failed
abbrev pub fetch_faults : {R : Type 0} → RealShelf R → ℕ
fetch_faults shelf = shelf.faults

-- these are all bytes of a file, as far as it tells them; none are given of it where it has more than the limit
abbrev pub IsReadOf : (left : Option (List ℕ)) (limit : ℕ) → Option (Vec ℕ Global) → Type 0
IsReadOf left limit read = IfSome left (λ all. MatchOption read (limit < length all) (λ bytes. bytes.items ≡ all))

-- at most so many bytes were taken, as far as the file tells them
abbrev pub TakesWithin : (most : ℕ) (before after : Option (List ℕ)) → Type 0
TakesWithin most before after = (taken : List ℕ) × Consumes before after taken × (length taken ≤ most)

-- a fetch gave what was read, or told that it was too long
abbrev pub IsFetchOf : (IsRead : Option (Vec ℕ Global) → Type 0) → Result (Vec ℕ Global) ShelfError → Type 0
IsFetchOf IsRead (Ok bytes) = IsRead (Some bytes)
IsFetchOf IsRead (Err TooLong) = IsRead None
IsFetchOf IsRead (Err e) = Unit {0}
