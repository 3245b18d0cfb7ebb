-- Places that have names, as those of a program's calls have, and their numbers.
use Rattle.std.specs.Prelude.{ℕ, suc, ◌≡◌, List, [], map, ℤ, slice_get, Some, All}
use Rattle.lucy_host.specs.declared.kind.HostKind.{HostKind}
use Rattle.lucy_stream.specs.Forms.{Form}
use Rattle.lucy_stream.specs.Lists.{form_list}
use Rattle.lucy_stream.specs.Iterates.{Place}

-- places by their names: which names are there, each one's form, and the names that it reads in the order of its operands
pub record Named (Name : Type 0) : Type 1 where
  pub IsThere : Name → Type 0
  pub form : Name → Form
  pub reads : Name → List Name

-- the lists are the iterates of the named places
pub record AreIterates {Name : Type 0} (named : Named Name) (kinds : List HostKind) (inputs : List (List ℤ)) (lists : ℕ → Name → List ℤ) : Type 0 where
  pub first : (x : Name) → named.IsThere x → lists 0 x ≡ []
  pub next : (n : ℕ) (x : Name) → named.IsThere x → lists (suc n) x ≡ form_list kinds inputs n (named.form x) (map (lists n) (named.reads x))

-- the names that are read are there, and each name's place stands under its number
pub record AreNumbered {Name : Type 0} (named : Named Name) (number : Name → ℕ) (places : List Place) : Type 0 where
  pub closed : (x : Name) → named.IsThere x → All named.IsThere (named.reads x)
  pub place : (x : Name) → named.IsThere x → slice_get places (number x) ≡ Some (record { form = named.form x; reads = map number (named.reads x) })
