-- The layers in which a page sets the places of a node down: layered drawing (Sugiyama, Tagawa and Toda 1981), with the longest ways for
-- layers. Places and layers count from 0 here.
use Rattle.std.specs.Prelude.{ℕ, ◌+◌, ◌-◌, ◌≡◌, ◌<◌, ◌==◌, ◌&&◌, max, Bool, true, false, List, [], ◌∷◌, ◌++◌, Option, Some, None, is_none, length, map, flat_map, replicate, slice_get, slice_set, slice_index_or, if◌then◌else◌}
use Rattle.std.specs.List.{range_with_len}
use Rattle.std.specs.Option.{option_map_or}
use Rattle.lucy_diagram.specs.declared.edge.Edge.{Edge}
use Rattle.lucy_diagram.specs.declared.buffer.DrawnBuffer.{DrawnBuffer}
use Rattle.lucy_diagram.specs.declared.call.DrawnCall.{DrawnCall}
use Rattle.lucy_diagram.specs.declared.diagram.Diagram.{Diagram}
use Rattle.lucy_diagram.specs.declared.layers.ways.Way.{Way}

-- a place stands behind each that it reads, but for what comes an item later
abbrev pub read_ways : Edge → List Way
read_ways edge = if edge.late then [] else (record { from = edge.from - 1; to = edge.to - 1; is_read = true } ∷ [])

-- a result of a call, by its number from 0, stands behind the first one
abbrev pub result_way : DrawnCall → (number : ℕ) → Way
result_way call number = record { from = call.first - 1; to = call.first - 1 + number; is_read = false }

-- all of them but the first do
abbrev pub result_ways : DrawnCall → List Way
result_ways call = map (result_way call) (range_with_len 1 (call.results - 1))

-- which places stand behind which
abbrev pub ways_of : Diagram → List Way
ways_of d = flat_map read_ways d.edges.items ++ flat_map result_ways d.calls.items

-- the places that go first where all that are left stand behind others that are: the buffers, and then all places, in order
abbrev pub spares_of : Diagram → List ℕ
spares_of d = map (λ (b : DrawnBuffer). b.place - 1) d.buffers.items ++ range_with_len 0 (length d.places.items)

-- how many layers a place stands behind another at least: one where it reads that
abbrev pub gap : Way → ℕ
gap way = if way.is_read then 1 else 0

-- a place is left: its layer isn't found yet
abbrev pub IsLeft : (found : List (Option ℕ)) → (place : ℕ) → Type 0
IsLeft found p = slice_get found p ≡ Some None

-- a way leads to a place from one whose layer isn't found, if it ever is
abbrev pub waits_at : (found : List (Option ℕ)) → (place : ℕ) → Way → Bool
waits_at found p way = is_none (slice_index_or found way.from None) && (way.to == p)

-- how many of these ways do
abbrev pub waits_of : (found : List (Option ℕ)) → (place : ℕ) → List Way → ℕ
waits_of found p [] = 0
waits_of found p (way ∷ ways) = (if waits_at found p way then 1 else 0) + waits_of found p ways

-- the least layer of a place behind another of this layer, if this way leads to it
abbrev pub behind : (layer place : ℕ) → Way → ℕ
behind layer p way = if way.to == p then layer + gap way else 0

-- the same, where the layer of the other is found
abbrev pub reach : (found : List (Option ℕ)) → (place : ℕ) → Way → ℕ
reach found p way = option_map_or (λ layer. behind layer p way) (slice_index_or found way.from None) 0

-- the least layer of a place by all these ways
abbrev pub least_layer : (found : List (Option ℕ)) → (place : ℕ) → List Way → ℕ
least_layer found p [] = 0
least_layer found p (way ∷ ways) = max (reach found p way) (least_layer found p ways)

-- that is found as its layer
abbrev pub with_layer : List Way → (found : List (Option ℕ)) → (place : ℕ) → List (Option ℕ)
with_layer ways found p = slice_set found p (Some (least_layer found p ways))

-- a place is the first spare one that is left
pub record IsSpare (spares : List ℕ) (found : List (Option ℕ)) (p : ℕ) : Type 0 where
  pub number : ℕ
  pub there : slice_get spares number ≡ Some p
  pub first : (i q : ℕ) → i < number → slice_get spares i ≡ Some q → IsLeft found q → ⊥

-- layers are found one after another: of a place that stands behind none that is left, or, where there is no such place, of the first
-- spare one
pub data Finds (ways : List Way) (spares : List ℕ) (old : List (Option ℕ)) : List (Option ℕ) → Type 0 where
  none : Finds ways spares old old
  free : {found : List (Option ℕ)} (p : ℕ) → Finds ways spares old found → IsLeft found p → waits_of found p ways ≡ 0 →
      Finds ways spares old (with_layer ways found p)
  spare : {found : List (Option ℕ)} (p : ℕ) → Finds ways spares old found → IsLeft found p → ((q : ℕ) → IsLeft found q → 0 < waits_of found q ways) →
      IsSpare spares found p → Finds ways spares old (with_layer ways found p)

-- the layers of a drawing are those that are found from none
abbrev pub AreLayers : Diagram → List ℕ → Type 0
AreLayers d layers = Finds (ways_of d) (spares_of d) (replicate (length d.places.items) None) (map (λ k. Some k) layers)

-- a drawing has one list of layers, in whichever order they are found
abbrev pub OneLayering : Type 0
OneLayering = (d : Diagram) (a b : List ℕ) → AreLayers d a → AreLayers d b → a ≡ b
