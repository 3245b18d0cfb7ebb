-- What a shelf is seen as, what a fetch answers by the files that it tells, and when it may fail.
use Rattle.std.specs.Prelude.{ℕ, ◌<◌, ◌≡◌, ◌⊎◌, List, length, Option, Some, None, IfSome, IsSomeAnd, Result, Err}
use Rattle.lucy_text.specs.Outside.{Rose}
use Rattle.lucy_text.specs.declared.shelf.ShelfError.{ShelfError}
use Rattle.lucy_text.specs.declared.shelf.ShelfError.TheVariants.{Failed, OutOfMemory}

-- the bytes of the file of each name, where there is one; names are bytes too
abbrev pub Files : Type 0
Files = List ℕ → Option (List ℕ)

-- a shelf: its files, where it tells them; how often it failed; and how often it was called, where it counts that
pub record SeenShelf : Type 0 where
  pub files : Option Files
  pub faults : ℕ
  pub fetches : Option ℕ

-- the bytes are those of the file of the name, where the files are told
abbrev pub IsHeld : Option Files → (name bytes : List ℕ) → Type 0
IsHeld told name bytes = IfSome told (λ held. held name ≡ Some bytes)

-- the files are told, and none has the name
abbrev pub Lacks : Option Files → (name : List ℕ) → Type 0
Lacks told name = IsSomeAnd told (λ held. held name ≡ None)

-- there is a file, and it has more bytes than the limit
abbrev pub IsLonger : Option (List ℕ) → (limit : ℕ) → Type 0
IsLonger file limit = IsSomeAnd file (λ bytes. limit < length bytes)

-- the fetch failed, or memory ran out
abbrev pub IsCut : {T : Type 0} → Result T ShelfError → Type 0
IsCut result = (result ≡ Err Failed) ⊎ (result ≡ Err OutOfMemory)

-- the count has risen where the fetch failed, and is as it was after any other answer
abbrev pub CountsFaults : {T : Type 0} → (before now : ℕ) → Result T ShelfError → Type 0
CountsFaults before now (Err Failed) = Rose before now
CountsFaults before now _ = now ≡ before
