-- What a play of a net's instants comes to.
use Rattle.std.specs.Prelude.{ℕ, ◌+◌, ◌<◌, ◌≤◌, ◌≡◌, List, [], ◌∷◌, All, map, length, slice_get, Some, Vec}
use Rattle.lucy_net.specs.declared.net.Net.{Net}
use Rattle.lucy_net.specs.Proper.{numbers_where}
use Rattle.lucy_stream.specs.Needs.{StreamItem, ReachesItself, IsCycle}
use Rattle.lucy_net.specs.Causal.{net_places, items_by, IsOfInstant}
use Rattle.lucy_net.specs.Orders.{IsOrder}
use Rattle.lucy_net.specs.declared.error.Item.{Item as CodeItem}
use Rattle.lucy_net.specs.declared.error.CauseFault.{CauseFault}
use Rattle.lucy_net.specs.declared.error.CauseFault.TheVariants as fault
use Rattle.lucy_net.specs.Instants.{is_busy}

-- the item that the code names
abbrev pub item_of : CodeItem → StreamItem
item_of item = record { place = item.actor; number = item.number }

-- the last item that an actor gives in the first instants
abbrev pub item_now : Net → ℕ → ℕ → StreamItem
item_now net instants a = record { place = a; number = items_by (slice_get net.actors a) instants }

-- lists of numbers, as the code has them
abbrev pub rows_of : {Z : Type 0} → List (Vec ℕ Z) → List (List ℕ)
rows_of rows = map (λ row. row.items) rows

-- for each of the first instants the actors that have an operation in it, in order
abbrev pub AreFirings : Net → List (List ℕ) → Type 0
AreFirings net rows = (before : ℕ) (row : List ℕ) → slice_get rows before ≡ Some row → row ≡ numbers_where (is_busy net before) (length net.actors)

-- for each of the first instants a possible order of its events
abbrev pub AreOrders : Net → List (List ℕ) → Type 0
AreOrders net rows = (before : ℕ) (order : List ℕ) → slice_get rows before ≡ Some order → IsOrder net before order

-- the first item's actor is the least of the items'
abbrev pub BeginsLeast : List StreamItem → Type 0
BeginsLeast [] = ⊥
BeginsLeast (x ∷ items) = All (λ y. x.place ≤ y.place) (x ∷ items)

-- the items are of this instant and depend on each other, from the one of the least actor on, and none of an earlier instant
-- reaches itself
pub record IsFirstCycle (net : Net) (instant : ℕ) (items : List StreamItem) : Type 0 where
  pub before : ℕ
  pub instant_is : instant ≡ before + 1
  pub cycle : IsCycle (net_places net) items
  pub of_instant : All (IsOfInstant net before) items
  pub least : BeginsLeast items
  pub first : (u : ℕ) (x : StreamItem) → u < before → IsOfInstant net u x → ReachesItself (net_places net) x → ⊥

-- the play stops within the first instants so
abbrev pub StopsAt : Net → ℕ → CauseFault → Type 0
StopsAt net instants (fault.Limit limit) = ⊥
StopsAt net instants (fault.Cycle instant items) = (instant ≤ instants) × IsFirstCycle net instant (map item_of items.items)
StopsAt net instants fault.OutOfMemory = Unit {0}
