-- Two workers whose rounds are made by hand: where the ends of rings are among their parts.
use Rattle.std.specs.Prelude.{ℕ, ◌+◌, ◌≤◌, ◌≡◌, Bool, List, [], ◌∷◌, ◌++◌, All, length, slice_get, vec_capacity, if◌then◌else◌, Some}
use Rattle.lucy_net.specs.States.{IsUsable, IsOfActor}
use Rattle.lucy_ring.specs.Views.{GiverView, TakerView}
use Rattle.lucy_worker.specs.declared.part.Part.{Part}
use Rattle.lucy_worker.specs.declared.place.EndPlace.{EndPlace}
use Rattle.lucy_worker.specs.Meets.{HasGiver, HasTaker}
use Rattle.lucy_worker.specs.Laws.{KeepsGiver, KeepsTaker, IsPlace, AreEndsAt}
use Rattle.lucy_net_rows.specs.declared.parity.End.{End}
use Rattle.lucy_net_rows.specs.declared.parity.Link.{Link}

-- of the parts of even actors and those of odd ones, those among which an end is
abbrev pub side : (even odd : List Part) → Bool → List Part
side even odd is_odd = if is_odd then odd else even

-- the two ends of a ring are where the link says
abbrev pub IsLinked : (even odd : List Part) → Link → Type 0
IsLinked even odd link = AreEndsAt (side even odd link.giver.odd) link.giver.place (side even odd link.taker.odd) link.taker.place

-- those of each ring
abbrev pub AreLinked : (even odd : List Part) → List Link → Type 0
AreLinked even odd links = (k : ℕ) (link : Link) → slice_get links k ≡ Some link → IsLinked even odd link

-- two ends are at one place
abbrev pub AreOneEnd : End → End → Type 0
AreOneEnd a b = (a.odd ≡ b.odd) × IsPlace b.place a.place

-- the givers of two rings are at two places, and so are their takers
pub record HaveOwnEnds (a b : Link) : Type 0 where
  pub givers : AreOneEnd a.giver b.giver → ⊥
  pub takers : AreOneEnd a.taker b.taker → ⊥

-- no two rings have an end at one place
abbrev pub AreApart : List Link → Type 0
AreApart links = (j k : ℕ) (a b : Link) → slice_get links j ≡ Some a → slice_get links k ≡ Some b → (j ≡ k → ⊥) → HaveOwnEnds a b

-- the two ends of a ring met, and all other ends are kept
pub record HasMetByHand (even odd : List Part) (link : Link) (even' odd' : List Part) : Type 0 where
  pub linked : IsLinked even' odd' link
  pub givers : (end : End) → (AreOneEnd end link.giver → ⊥) → KeepsGiver (side even odd end.odd) (side even' odd' end.odd) end.place
  pub takers : (end : End) → (AreOneEnd end link.taker → ⊥) → KeepsTaker (side even odd end.odd) (side even' odd' end.odd) end.place

-- what only serves the making: a part that has done nothing, whose ends have moved nothing
pub record IsBegun (p : Part) : Type 0 where
  pub usable : IsUsable p.actor
  pub state : IsOfActor p.actor p.state
  pub room : length p.output.items + p.state.quota ≤ vec_capacity p.output
  pub given : All (λ g. g.given ≡ []) p.givers.items
  pub taken : All (λ t. t.taken ≡ []) p.takers.items

-- a part has a giver more, behind the others
pub record HasOneMoreGiver (p : Part) (at : ℕ) (g : GiverView) (q : Part) : Type 0 where
  pub rest : q ≡ record p { givers = q.givers }
  pub on : q.givers.items ≡ p.givers.items ++ g ∷ []
  pub number : at ≡ length p.givers.items

-- a taker more
pub record HasOneMoreTaker (p : Part) (at : ℕ) (t : TakerView) (q : Part) : Type 0 where
  pub rest : q ≡ record p { takers = q.takers }
  pub on : q.takers.items ≡ p.takers.items ++ t ∷ []
  pub number : at ≡ length p.takers.items

-- all ends are kept
abbrev pub KeepEnds : List Part → List Part → Type 0
KeepEnds ps qs = (place : EndPlace) → KeepsGiver ps qs place × KeepsTaker ps qs place

-- one of the parts has a giver more, at a place where there was none
pub record HasGainedGiver (ps : List Part) (place : EndPlace) (g : GiverView) (qs : List Part) : Type 0 where
  pub begun : All IsBegun qs
  pub keep : KeepEnds ps qs
  pub none : HasGiver ps place → ⊥
  pub there : HasGiver qs place
  pub is : there.end ≡ g

-- a taker more
pub record HasGainedTaker (ps : List Part) (place : EndPlace) (t : TakerView) (qs : List Part) : Type 0 where
  pub begun : All IsBegun qs
  pub keep : KeepEnds ps qs
  pub none : HasTaker ps place → ⊥
  pub there : HasTaker qs place
  pub is : there.end ≡ t

-- so of both lists of parts
abbrev pub BothKeepEnds : (even odd even' odd' : List Part) → Type 0
BothKeepEnds even odd even' odd' = (is_odd : Bool) → KeepEnds (side even odd is_odd) (side even' odd' is_odd)

abbrev pub BothBegun : (even odd : List Part) → Type 0
BothBegun even odd = All IsBegun even × All IsBegun odd

pub record HaveGainedGiver (even odd : List Part) (end : End) (g : GiverView) (even' odd' : List Part) : Type 0 where
  pub begun : BothBegun even' odd'
  pub keep : BothKeepEnds even odd even' odd'
  pub none : HasGiver (side even odd end.odd) end.place → ⊥
  pub there : HasGiver (side even' odd' end.odd) end.place
  pub is : there.end ≡ g

pub record HaveGainedTaker (even odd : List Part) (end : End) (t : TakerView) (even' odd' : List Part) : Type 0 where
  pub begun : BothBegun even' odd'
  pub keep : BothKeepEnds even odd even' odd'
  pub none : HasTaker (side even odd end.odd) end.place → ⊥
  pub there : HasTaker (side even' odd' end.odd) end.place
  pub is : there.end ≡ t

-- a ring more was made: its ends are at places where there were none
pub record HaveJoined (even odd : List Part) (link : Link) (even' odd' : List Part) : Type 0 where
  pub begun : BothBegun even' odd'
  pub keep : BothKeepEnds even odd even' odd'
  pub linked : IsLinked even' odd' link
  pub no_giver : HasGiver (side even odd link.giver.odd) link.giver.place → ⊥
  pub no_taker : HasTaker (side even odd link.taker.odd) link.taker.place → ⊥

-- rings were made, and their ends are at these places
pub record AreJoined (even odd : List Part) (links : List Link) : Type 0 where
  pub begun : BothBegun even odd
  pub linked : AreLinked even odd links
  pub apart : AreApart links
