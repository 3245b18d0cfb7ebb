-- What becomes of the ends of workers' parts where parts run and where two ends meet.
use Rattle.std.specs.Prelude.{◌≡◌, List}
use Rattle.lucy_host.specs.declared.kind.HostKind.{HostKind}
use Rattle.lucy_worker.specs.declared.part.Part.{Part}
use Rattle.lucy_worker.specs.declared.place.EndPlace.{EndPlace}
use Rattle.lucy_worker.specs.Turns.{HaveRun}
use Rattle.lucy_worker.specs.Meets.{HasGiver, HasTaker, AreOfOneRing, MetBetween, MetWithin}

-- the giver at a place, where there is one, is still there and of the same ring
abbrev pub KeepsGiver : List Part → List Part → EndPlace → Type 0
KeepsGiver ps qs place = (g : HasGiver ps place) → (h : HasGiver qs place) × (h.end.ring ≡ g.end.ring)

-- the taker at a place likewise
abbrev pub KeepsTaker : List Part → List Part → EndPlace → Type 0
KeepsTaker ps qs place = (t : HasTaker ps place) → (u : HasTaker qs place) × (u.end.ring ≡ t.end.ring)

-- the giver at a place, where there is one, is as it was
abbrev pub GiverStays : List Part → List Part → EndPlace → Type 0
GiverStays ps qs place = (g : HasGiver ps place) → (h : HasGiver qs place) × (h.end ≡ g.end)

-- the taker at a place likewise
abbrev pub TakerStays : List Part → List Part → EndPlace → Type 0
TakerStays ps qs place = (t : HasTaker ps place) → (u : HasTaker qs place) × (u.end ≡ t.end)

-- the place is this one
abbrev pub IsPlace : EndPlace → EndPlace → Type 0
IsPlace at place = (place.part ≡ at.part) × (place.number ≡ at.number)

-- all ends but a giver and a taker at places of these two kinds are as they were
pub record OthersStay (giver taker : EndPlace → Type 0) (ps qs : List Part) : Type 0 where
  pub givers : (place : EndPlace) → (giver place → ⊥) → GiverStays ps qs place
  pub takers : (place : EndPlace) → (taker place → ⊥) → TakerStays ps qs place

-- a giver of the one list of parts and a taker of the other, the two ends of a ring, are at these places
pub record AreEndsAt (ps : List Part) (from : EndPlace) (qs : List Part) (to : EndPlace) : Type 0 where
  pub giver : HasGiver ps from
  pub taker : HasTaker qs to
  pub ring : AreOfOneRing ps from qs to

-- parts that ran have their ends where they were, and of the same rings
abbrev pub RunsKeepEnds : Type 0
RunsKeepEnds = (kinds : List HostKind) (ps qs : List Part) → HaveRun kinds ps qs → (place : EndPlace) → KeepsGiver ps qs place × KeepsTaker ps qs place

-- after a meeting of two ends of one worker these are ends of one ring again, and all others are as they were
abbrev pub OwnMeetingsKeepEnds : Type 0
OwnMeetingsKeepEnds = (ps qs : List Part) (giver taker : EndPlace) → MetWithin ps giver taker qs →
    AreEndsAt qs giver qs taker × OthersStay (IsPlace giver) (IsPlace taker) ps qs

-- after a meeting of ends of two workers likewise
abbrev pub MeetingsKeepEnds : Type 0
MeetingsKeepEnds = (ps qs ps' qs' : List Part) (giver taker : EndPlace) → MetBetween ps giver qs taker ps' qs' →
    AreEndsAt ps' giver qs' taker × OthersStay (IsPlace giver) (λ place. ⊥) ps ps' × OthersStay (λ place. ⊥) (IsPlace taker) qs qs'

-- where both ends are kept, they are still those of one ring
abbrev pub KeptEndsAreOfOneRing : Type 0
KeptEndsAreOfOneRing = (ps qs ps' qs' : List Part) (giver taker : EndPlace) → KeepsGiver ps ps' giver → KeepsTaker qs qs' taker →
    AreEndsAt ps giver qs taker → AreEndsAt ps' giver qs' taker
