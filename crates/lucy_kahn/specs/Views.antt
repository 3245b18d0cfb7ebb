-- What the functions of this crate see of an iterate.
use Rattle.std.specs.Prelude.{ℕ, suc, List, ℤ}
use Rattle.lucy_host.specs.declared.kind.HostKind.{HostKind}
use Rattle.lucy_kahn.specs.Spots.{at}
use Rattle.lucy_kahn.specs.Kahn.{kahn}
use Rattle.lucy_kahn.specs.declared.iterate.Iterate.{Iterate}
use Rattle.lucy_kahn.specs.Turns.{IsTurn}

-- the iterate, with the instances and inputs that belong to it
abbrev pub IsBefore : List HostKind → Iterate → (ℕ → List ℕ) → Type 0
IsBefore kinds it paths = IsTurn kinds it.inputs.now it.placed.now.nodes it.instances.now.list.items it.instances.now.inner.items it.number it.lists.now paths

-- the list of a place in the iterate behind it
abbrev pub list_after : List HostKind → Iterate → List ℕ → ℕ → List ℤ
list_after kinds it path place = kahn kinds it.inputs.now it.placed.now.nodes (suc it.number) (at path place)
