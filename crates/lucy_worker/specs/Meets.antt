-- What a meeting of two ends leaves.
use Rattle.std.specs.Prelude.{ℕ, ◌+◌, ◌≤◌, ◌≡◌, List, [], ◌++◌, length, slice_get, slice_set, Some}
use Rattle.std.specs.Vec.{with_item}
use Rattle.lucy_ring.specs.Views.{GiverView, TakerView}
use Rattle.lucy_worker.specs.declared.part.Part.{Part}
use Rattle.lucy_worker.specs.declared.place.EndPlace.{EndPlace}

-- the ends g and t met, and are now h and u
pub record HaveMet (g : GiverView) (t : TakerView) (h : GiverView) (u : TakerView) : Type 0 where
  pub ends : h.ring ≡ u.ring
  pub fifo : t.held ++ g.given ≡ t.taken ++ u.held
  pub within : length u.held ≤ u.ring.capacity
  pub all_items : u.known ≡ u.held
  pub all_slots : h.slots + length u.held ≡ h.ring.capacity
  pub anew : (h.given ≡ []) × (u.taken ≡ []) × (u.returned ≡ 0)
  pub capacity : (h.ring.capacity ≡ g.ring.capacity) × (h.ring.numbers_capacity ≡ g.ring.numbers_capacity)

-- the part and the giver at a place
pub record HasGiver (ps : List Part) (place : EndPlace) : Type 0 where
  pub part : Part
  pub part_is : slice_get ps place.part ≡ Some part
  pub end : GiverView
  pub end_is : slice_get part.givers.items place.number ≡ Some end

-- the part and the taker at a place
pub record HasTaker (ps : List Part) (place : EndPlace) : Type 0 where
  pub part : Part
  pub part_is : slice_get ps place.part ≡ Some part
  pub end : TakerView
  pub end_is : slice_get part.takers.items place.number ≡ Some end

-- the ends at the two places are those of one ring
abbrev pub AreOfOneRing : List Part → EndPlace → List Part → EndPlace → Type 0
AreOfOneRing ps giver qs taker = (g : HasGiver ps giver) (t : HasTaker qs taker) → g.end.ring ≡ t.end.ring

-- the part with another giver at this number
abbrev pub with_giver : Part → ℕ → GiverView → Part
with_giver p n h = record p { givers = with_item p.givers n h }

-- the part with another taker at this number
abbrev pub with_taker : Part → ℕ → TakerView → Part
with_taker p n u = record p { takers = with_item p.takers n u }

-- the parts with another giver at a place
abbrev pub set_giver : (ps : List Part) (place : EndPlace) → HasGiver ps place → GiverView → List Part
set_giver ps place g h = slice_set ps place.part (with_giver g.part place.number h)

-- the parts with another taker at a place
abbrev pub set_taker : (ps : List Part) (place : EndPlace) → HasTaker ps place → TakerView → List Part
set_taker ps place t u = slice_set ps place.part (with_taker t.part place.number u)

-- the giver of one list of parts and the taker of another met, and nothing else changed
pub record MetBetween (ps : List Part) (giver : EndPlace) (qs : List Part) (taker : EndPlace) (ps' qs' : List Part) : Type 0 where
  pub g : HasGiver ps giver
  pub t : HasTaker qs taker
  pub h : GiverView
  pub u : TakerView
  pub met : HaveMet g.end t.end h u
  pub givers : ps' ≡ set_giver ps giver g h
  pub takers : qs' ≡ set_taker qs taker t u

-- two ends of one list of parts met, and nothing else changed
pub record MetWithin (ps : List Part) (giver taker : EndPlace) (ps' : List Part) : Type 0 where
  pub g : HasGiver ps giver
  pub t : HasTaker ps taker
  pub h : GiverView
  pub u : TakerView
  pub met : HaveMet g.end t.end h u
  pub then : HasTaker (set_giver ps giver g h) taker
  pub parts : ps' ≡ set_taker (set_giver ps giver g h) taker then u
