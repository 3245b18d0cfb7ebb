-- Which items of a net depend on which, and in which instant each is given. Items count from 1.
use Rattle.std.specs.Prelude.{ℕ, ◌+◌, ◌<◌, ◌≤◌, List, map, slice_get, Option, Some, None}
use Rattle.lucy_word.specs.Bits.{ones_to}
use Rattle.lucy_stream.specs.Firings.{gave_in}
use Rattle.lucy_stream.specs.Iterates.{Place}
use Rattle.lucy_stream.specs.Needs.{StreamItem}
use Rattle.lucy_net.specs.declared.net.Actor.{Actor}
use Rattle.lucy_net.specs.declared.net.Net.{Net}
use Rattle.lucy_net.specs.Plans.{form_of, giver}

-- the place that an actor is: it reads those that give to the rings from which it takes
abbrev pub actor_place : Net → Actor → Place
actor_place net actor = record { form = form_of actor.kind; reads = map (giver net) actor.takes }

-- the places that the actors are, whose items depend on each other as those of places do
abbrev pub net_places : Net → List Place
net_places net = map (actor_place net) net.actors

-- how many items the actor gives in the first instants
abbrev pub items_by : Option Actor → ℕ → ℕ
items_by None instants = 0
items_by (Some actor) instants = gave_in (form_of actor.kind) (ones_to actor.firing instants)

-- the item is given in the instant after so many others
pub record IsOfInstant (net : Net) (before : ℕ) (x : StreamItem) : Type 0 where
  pub earlier : items_by (slice_get net.actors x.place) before < x.number
  pub by_now : x.number ≤ items_by (slice_get net.actors x.place) (before + 1)
