-- The two ends of a ring, at the parts of its actors.
use Rattle.std.proofs.Common.{ℕ, ◌≤◌, ◌≡◌, List, map, ap, sym, ◌∙◌, subst}
use Rattle.std.specs.Prelude.{ℤ, Some, slice_get}
use Rattle.std.specs.Option.{option_map}
use Rattle.std.proofs.lemmas.Option.{slice_get-map}
use Rattle.lucy_host.specs.declared.kind.HostKind.{HostKind}
use Rattle.lucy_stream.specs.Plans.{times}
use Rattle.lucy_net.specs.declared.net.Actor.{Actor}
use Rattle.lucy_net.specs.declared.net.RingSpec.{RingSpec}
use Rattle.lucy_ring.specs.Views.{RingName, GiverView, TakerView}
use Rattle.lucy_worker.specs.declared.part.Part.{Part}
use Rattle.lucy_worker.specs.Parts.{given_on, taken_on}
use Rattle.lucy_worker.specs.Turns.{HasRun, giver_name, taker_name}
use Rattle.lucy_runner.specs.declared.place.Place.{Place}
use Rattle.lucy_runner.specs.declared.place.Ends.{Ends}
use Rattle.lucy_runner.specs.Crews.{part_of, IsJoined}
use Rattle.lucy_runner.proofs.PlaceLaws.{same_part, IsTurned, turned_at, IsNamed, named_at}
use Rattle.lucy_runner.proofs.EndLaws.{list_at_ring, one_place}
use Rattle.lucy_runner.specs.Turns.{HaveTurned}

same_end : {A : Type 0} (xs : List A) (i j : ℕ) (x y : A) → slice_get xs i ≡ Some x → slice_get xs j ≡ Some y → i ≡ j → x ≡ y
same_end xs i j x y e f same = (let g : slice_get xs i ≡ slice_get xs j = ap (slice_get xs) same in cc)

-- where a ring's giving end is among those of the part of its giver
pub record IsGiver (p : Part) (k r : ℕ) (g : GiverView) : Type 0 where
  pub gives : slice_get p.actor.gives k ≡ Some r
  pub end : slice_get p.givers.items k ≡ Some g

pub record IsTaker (p : Part) (k r : ℕ) (t : TakerView) : Type 0 where
  pub takes : slice_get p.actor.takes k ≡ Some r
  pub end : slice_get p.takers.items k ≡ Some t

pub giver_there : (crew : List (List Part)) (places : List Place) (ends : List Ends) (r a : ℕ) (ring : RingSpec) (p : Part) (j : IsJoined crew places ends r ring) → part_of crew places a ≡ Some p → ring.from ≡ a → IsGiver p j.at.giver r j.g
giver_there crew places ends r a ring p j at same =
    subst (λ (x : Part). IsGiver x j.at.giver r j.g) (same_part crew places ring.from a j.giver p j.giver_is at same) (record { gives = j.gives; end = j.giver_end })

pub taker_there : (crew : List (List Part)) (places : List Place) (ends : List Ends) (r a : ℕ) (ring : RingSpec) (p : Part) (j : IsJoined crew places ends r ring) → part_of crew places a ≡ Some p → ring.to ≡ a → IsTaker p j.at.taker r j.t
taker_there crew places ends r a ring p j at same =
    subst (λ (x : Part). IsTaker x j.at.taker r j.t) (same_part crew places ring.to a j.taker p j.taker_is at same) (record { takes = j.takes; end = j.taker_end })

-- what the end moved is what the part did on the ring
pub given_there : (p : Part) (k r : ℕ) (g : GiverView) → IsGiver p k r g → times r p.actor.gives ≤ 1 → given_on p r ≡ g.given
given_there p k r g is once =
    list_at_ring p.actor.gives (map (λ (e : GiverView). e.given) p.givers.items) k r g.given is.gives
    (slice_get-map (λ (e : GiverView). e.given) p.givers.items k ∙ ap (option_map (λ (e : GiverView). e.given)) is.end) once

pub taken_there : (p : Part) (k r : ℕ) (t : TakerView) → IsTaker p k r t → times r p.actor.takes ≤ 1 → taken_on p r ≡ t.taken
taken_there p k r t is once =
    list_at_ring p.actor.takes (map (λ (e : TakerView). e.taken) p.takers.items) k r t.taken is.takes
    (slice_get-map (λ (e : TakerView). e.taken) p.takers.items k ∙ ap (option_map (λ (e : TakerView). e.taken)) is.end) once

-- an end of the ring is that one
pub only_giver : (p : Part) (i k r : ℕ) (g h : GiverView) → IsGiver p i r g → IsGiver p k r h → times r p.actor.gives ≤ 1 → g ≡ h
only_giver p i k r g h is also once = same_end p.givers.items i k g h is.end also.end (one_place p.actor.gives i k r is.gives also.gives once)

pub only_taker : (p : Part) (i k r : ℕ) (t u : TakerView) → IsTaker p i r t → IsTaker p k r u → times r p.actor.takes ≤ 1 → t ≡ u
only_taker p i k r t u is also once = same_end p.takers.items i k t u is.end also.end (one_place p.actor.takes i k r is.takes also.takes once)

-- after a turn the ends have the same names, and the taker still holds what it held
pub record TurnsGiver (p q : Part) (k r : ℕ) (g : GiverView) : Type 0 where
  pub after : GiverView
  pub is : IsGiver q k r after
  pub ring : after.ring ≡ g.ring

pub record TurnsTaker (p q : Part) (k r : ℕ) (t : TakerView) : Type 0 where
  pub after : TakerView
  pub is : IsTaker q k r after
  pub ring : after.ring ≡ t.ring
  pub held : after.held ≡ t.held

pub turns_giver : (kinds : List HostKind) (p q : Part) (k r : ℕ) (g : GiverView) → HasRun kinds p q → IsGiver p k r g → TurnsGiver p q k r g
turns_giver kinds p q k r g run is =
    let end : IsNamed giver_name q.givers.items k (giver_name g) = named_at giver_name p.givers.items q.givers.items k g run.givers is.end in
    record { after = end.is; is = record { gives = ap (λ (a : Actor). slice_get a.gives k) run.actor ∙ is.gives; end = end.at }; ring = end.named }

pub turns_taker : (kinds : List HostKind) (p q : Part) (k r : ℕ) (t : TakerView) → HasRun kinds p q → IsTaker p k r t → TurnsTaker p q k r t
turns_taker kinds p q k r t run is =
    let end : IsNamed taker_name q.takers.items k (taker_name t) = named_at taker_name p.takers.items q.takers.items k t run.takers is.end in
    record {
      after = end.is;
      is = record { takes = ap (λ (a : Actor). slice_get a.takes k) run.actor ∙ is.takes; end = end.at };
      ring = ap (λ (n : RingName × List ℤ). n.0) end.named;
      held = ap (λ (n : RingName × List ℤ). n.1) end.named;
    }

-- so the ends of a ring are still there
pub still_joined : (kinds : List HostKind) (crew turned : List (List Part)) (moves : ℕ) (places : List Place) (ends : List Ends) (r : ℕ) (ring : RingSpec) → HaveTurned kinds crew turned moves → IsJoined crew places ends r ring → IsJoined turned places ends r ring
still_joined kinds crew turned moves places ends r ring turns j =
    let giver : IsTurned kinds turned places ring.from j.giver = turned_at kinds crew turned moves places ring.from j.giver turns j.giver_is in
    let taker : IsTurned kinds turned places ring.to j.taker = turned_at kinds crew turned moves places ring.to j.taker turns j.taker_is in
    let g : TurnsGiver j.giver giver.after j.at.giver r j.g = turns_giver kinds j.giver giver.after j.at.giver r j.g giver.run (record { gives = j.gives; end = j.giver_end }) in
    let t : TurnsTaker j.taker taker.after j.at.taker r j.t = turns_taker kinds j.taker taker.after j.at.taker r j.t taker.run (record { takes = j.takes; end = j.taker_end }) in
    record {
      at = j.at;
      ends_at = j.ends_at;
      giver = giver.after;
      giver_is = giver.at;
      gives = g.is.gives;
      g = g.after;
      giver_end = g.is.end;
      taker = taker.after;
      taker_is = taker.at;
      takes = t.is.takes;
      t = t.after;
      taker_end = t.is.end;
      ring_is = g.ring ∙ j.ring_is ∙ sym t.ring;
    }
