-- The meetings of the ends of all rings, one after another.
use Rattle.std.proofs.Common.{ℕ, ◌+◌, ◌<◌, ◌≤◌, ◌≡◌, List, length, get_or, ap, sym, refl, ◌∙◌, subst, inl, inr, arith}
use Rattle.std.specs.Prelude.{Some, slice_get}
use Rattle.std.proofs.lemmas.Bool.{cases_eq}
use Rattle.std.proofs.lemmas.Option.{get_or_from_slice_get, slice_get_within, slice_get-get_or}
use Rattle.lucy_word.proofs.Lists.{get_one}
use Rattle.lucy_net.specs.declared.net.RingSpec.{RingSpec}
use Rattle.lucy_ring.specs.Views.{GiverView, TakerView}
use Rattle.lucy_worker.specs.declared.part.Part.{Part}
use Rattle.lucy_worker.specs.declared.place.EndPlace.{EndPlace}
use Rattle.lucy_worker.specs.Meets.{HasGiver, HasTaker, AreOfOneRing, HaveMet, with_giver, with_taker}
use Rattle.lucy_worker.proofs.MeetLaws.{have_met}
use Rattle.lucy_runner.specs.declared.place.Place.{Place}
use Rattle.lucy_runner.specs.declared.place.Ends.{Ends}
use Rattle.lucy_runner.specs.Crews.{placed_in, IsJoined, AreJoined}
use Rattle.lucy_runner.specs.Turns.{AreButEnds, HasMet, HaveAllMet}
use Rattle.lucy_runner.specs.Seats.{parts_at, with_giver_at, HaveMetAt}
use Rattle.lucy_runner.proofs.MeetingLaws.{set_part, part_here, part_get, IsGiverEnd, IsTakerEnd, StandsAt, stands_at, seat_there, still_but_ends, all_but_ends, giver_rest, giver_other, giver_taker, giver_new, taker_rest, taker_other, taker_giver, taker_new}

-- the ends of a ring apart
giver_of : (crew : List (List Part)) (places : List Place) (ends : List Ends) (r : ℕ) (ring : RingSpec) (j : IsJoined crew places ends r ring) → IsGiverEnd crew places j.at.giver r ring.from j.g
giver_of crew places ends r ring j = record { part = j.giver; is = j.giver_is; gives = j.gives; end = j.giver_end }

taker_of : (crew : List (List Part)) (places : List Place) (ends : List Ends) (r : ℕ) (ring : RingSpec) (j : IsJoined crew places ends r ring) → IsTakerEnd crew places j.at.taker r ring.to j.t
taker_of crew places ends r ring j = record { part = j.taker; is = j.taker_is; takes = j.takes; end = j.taker_end }

-- the ends of a ring among other parts, these two of them
pub record IsJoinedBy (crew : List (List Part)) (places : List Place) (ends : List Ends) (r : ℕ) (ring : RingSpec) (g : GiverView) (t : TakerView) : Type 0 where
  pub joined : IsJoined crew places ends r ring
  pub giver : joined.g ≡ g
  pub taker : joined.t ≡ t

joined_by : (crew : List (List Part)) (places : List Place) (ends : List Ends) (r : ℕ) (ring : RingSpec) (at : Ends) (g : GiverView) (t : TakerView) → slice_get ends r ≡ Some at → IsGiverEnd crew places at.giver r ring.from g → IsTakerEnd crew places at.taker r ring.to t → g.ring ≡ t.ring →
    IsJoinedBy crew places ends r ring g t
joined_by crew places ends r ring at g t e x y same = record {
  joined = record {
    at = at;
    ends_at = e;
    giver = x.part;
    giver_is = x.is;
    gives = x.gives;
    g = g;
    giver_end = x.end;
    taker = y.part;
    taker_is = y.is;
    takes = y.takes;
    t = t;
    taker_end = y.end;
    ring_is = same;
  };
  giver = refl;
  taker = refl;
}

-- one meeting: of the ring's ends, and of nothing else
pub record MeetsAt (crew next : List (List Part)) (places : List Place) (ends : List Ends) (r : ℕ) (ring : RingSpec) (g : GiverView) (t : TakerView) : Type 0 where
  pub h : GiverView
  pub u : TakerView
  pub met : HaveMet g t h u
  pub rest : AreButEnds crew next
  pub here : IsJoinedBy next places ends r ring h u
  pub others : (q : ℕ) (other : RingSpec) → (q ≡ r → ⊥) → (j : IsJoined crew places ends q other) → IsJoinedBy next places ends q other j.g j.t

pub meets_at : (crew next : List (List Part)) (places : List Place) (ends : List Ends) (r : ℕ) (ring : RingSpec) (j : IsJoined crew places ends r ring) (from to : Place) → slice_get places ring.from ≡ Some from → slice_get places ring.to ≡ Some to →
    HaveMetAt crew from.seat (record { part = from.part; number = j.at.giver }) to.seat (record { part = to.part; number = j.at.taker }) next → MeetsAt crew next places ends r ring j.g j.t
meets_at crew next places ends r ring j from to from_is to_is m =
    let p : Part = j.giver in
    let n : ℕ = j.at.giver in
    let k : ℕ = j.at.taker in
    let gp : EndPlace = record { part = from.part; number = n } in
    let tp : EndPlace = record { part = to.part; number = k } in
    let p_here : part_here crew from.seat from.part ≡ Some p = sym (ap (placed_in crew) from_is) ∙ j.giver_is in
    let t_here : part_here crew to.seat to.part ≡ Some j.taker = sym (ap (placed_in crew) to_is) ∙ j.taker_is in
    let g_part : m.g.part ≡ p = get_one (parts_at crew from.seat) from.part m.g.part p m.g.part_is
    (part_get crew from.seat from.part p p_here) in
    let g_is : m.g.end ≡ j.g = get_one p.givers.items n m.g.end j.g
    (sym (ap (λ (x : Part). slice_get x.givers.items n) g_part) ∙ m.g.end_is) j.giver_end in
    let t_part : m.t.part ≡ j.taker = get_one (parts_at crew to.seat) to.part m.t.part j.taker m.t.part_is
    (part_get crew to.seat to.part j.taker t_here) in
    let t_is : m.t.end ≡ j.t = get_one j.taker.takers.items k m.t.end j.t
    (sym (ap (λ (x : Part). slice_get x.takers.items k) t_part) ∙ m.t.end_is) j.taker_end in
    let met : HaveMet j.g j.t m.h m.u = have_met m.g.end j.g m.t.end j.t m.h m.u g_is t_is m.met in
    let given : List (List Part) = with_giver_at crew from.seat gp m.g m.h in
    let mid : List (List Part) = set_part crew from.seat from.part (with_giver p n m.h) in
    let mid_is : given ≡ mid = ap (λ (x : Part). set_part crew from.seat from.part (with_giver x n m.h)) g_part in
    let middle : IsTakerEnd mid places k r ring.to j.t = giver_taker crew mid places from p n r ring.from j.g m.h from_is p_here j.gives j.giver_end refl k r ring.to j.t (taker_of crew places ends r ring j) in
    let q : Part = middle.part in
    let q_here : part_here mid to.seat to.part ≡ Some q = sym (ap (placed_in mid) to_is) ∙ middle.is in
    let q_is : m.then.part ≡ q = get_one (parts_at mid to.seat) to.part m.then.part q
    (sym (ap (λ (c : List (List Part)). slice_get (parts_at c to.seat) to.part) mid_is) ∙ m.then.part_is)
    (part_get mid to.seat to.part q q_here) in
    let next_is : next ≡ set_part mid to.seat to.part (with_taker q k m.u) =
    m.after ∙ ap (λ (c : List (List Part)). set_part c to.seat to.part (with_taker m.then.part k m.u)) mid_is ∙ ap
    (λ (x : Part). set_part mid to.seat to.part (with_taker x k m.u)) q_is in
    let first : AreButEnds crew mid = giver_rest crew mid places from p n r ring.from j.g m.h from_is p_here j.gives j.giver_end refl in
    let second : AreButEnds mid next = taker_rest mid next places to q k r ring.to j.t m.u to_is q_here middle.takes middle.end next_is in
    let over : (a b c : ℕ) (f : GiverView) → IsGiverEnd mid places a b c f → IsGiverEnd next places a b c f = taker_giver mid next places to q k r ring.to j.t m.u to_is q_here middle.takes middle.end next_is in
    record {
      h = m.h;
      u = m.u;
      met = met;
      rest = still_but_ends crew mid next first second;
      here = joined_by next places ends r ring j.at m.h m.u j.ends_at
          (over n r ring.from m.h (giver_new crew mid places from p n r ring.from j.g m.h from_is p_here j.gives j.giver_end refl))
          (taker_new mid next places to q k r ring.to j.t m.u to_is q_here middle.takes middle.end next_is)
          met.ends;
      others = λ q2 other ne i. joined_by next places ends q2 other i.at i.g i.t i.ends_at
          (over i.at.giver q2 other.from i.g (giver_other crew mid places from p n r ring.from j.g m.h from_is p_here j.gives j.giver_end refl i.at.giver q2 other.from i.g ne (giver_of crew places ends q2 other i)))
          (taker_other mid next places to q k r ring.to j.t m.u to_is q_here middle.takes middle.end next_is i.at.taker q2 other.to i.t ne
          (giver_taker crew mid places from p n r ring.from j.g m.h from_is p_here j.gives j.giver_end refl i.at.taker q2 other.to i.t (taker_of crew places ends q2 other i)))
          i.ring_is;
    }

-- the ends of a ring are those that they were
pub record IsStill (crew now : List (List Part)) (places : List Place) (ends : List Ends) (r : ℕ) (ring : RingSpec) : Type 0 where
  pub joined : IsJoined crew places ends r ring
  pub still : IsJoinedBy now places ends r ring joined.g joined.t

-- the ends of the first rings met, and nothing else changed
pub record AreMetTo (crew now : List (List Part)) (places : List Place) (ends : List Ends) (rings : List RingSpec) (n : ℕ) : Type 0 where
  pub rest : AreButEnds crew now
  pub met : (r : ℕ) (ring : RingSpec) → r < n → slice_get rings r ≡ Some ring → HasMet crew now places ends r ring
  pub still : (r : ℕ) (ring : RingSpec) → n ≤ r → slice_get rings r ≡ Some ring → IsStill crew now places ends r ring

pub none_met : (crew : List (List Part)) (places : List Place) (ends : List Ends) (rings : List RingSpec) → AreJoined crew places ends rings → AreMetTo crew crew places ends rings 0
none_met crew places ends rings joined = record {
  rest = all_but_ends crew;
  met = λ r ring l e. absurd (omega arith);
  still = λ r ring l e. record { joined = joined r ring e; still = record { joined = joined r ring e; giver = refl; taker = refl } };
}

-- ends that stay stay met
still_met : (crew now next : List (List Part)) (places : List Place) (ends : List Ends) (r : ℕ) (ring : RingSpec) (m : HasMet crew now places ends r ring) → IsJoinedBy next places ends r ring m.after.g m.after.t → HasMet crew next places ends r ring
still_met crew now next places ends r ring m x = record {
  joined = m.joined;
  after = x.joined;
  meets = subst (λ (h : GiverView). HaveMet m.joined.g m.joined.t h x.joined.t) (sym x.giver) (subst (λ (u : TakerView). HaveMet m.joined.g m.joined.t m.after.g u) (sym x.taker) m.meets);
}

first_met : (crew now next : List (List Part)) (places : List Place) (ends : List Ends) (r : ℕ) (ring : RingSpec) (s : IsStill crew now places ends r ring) → MeetsAt now next places ends r ring s.still.joined.g s.still.joined.t → HasMet crew next places ends r ring
first_met crew now next places ends r ring s one =
    let met : HaveMet s.joined.g s.joined.t one.h one.u = subst (λ (x : GiverView). HaveMet x s.joined.t one.h one.u) s.still.giver (subst (λ (x : TakerView). HaveMet s.still.joined.g x one.h one.u) s.still.taker one.met) in
    record {
      joined = s.joined;
      after = one.here.joined;
      meets = subst (λ (h : GiverView). HaveMet s.joined.g s.joined.t h one.here.joined.t) (sym one.here.giver) (subst (λ (u : TakerView). HaveMet s.joined.g s.joined.t one.h u) (sym one.here.taker) met);
    }

pub one_more_met : (crew now next : List (List Part)) (places : List Place) (ends : List Ends) (rings : List RingSpec) (n : ℕ) (ring : RingSpec) → slice_get rings n ≡ Some ring → AreMetTo crew now places ends rings n →
    ((j : IsJoined now places ends n ring) → MeetsAt now next places ends n ring j.g j.t) → AreMetTo crew next places ends rings (n + 1)
one_more_met crew now next places ends rings n ring at so_far meets =
    let here : IsStill crew now places ends n ring = so_far.still n ring (omega arith) at in
    let one : MeetsAt now next places ends n ring here.still.joined.g here.still.joined.t = meets here.still.joined in
    record {
      rest = still_but_ends crew now next so_far.rest one.rest;
      met = λ r other l e. elim (cases_eq r n) [
        | inl same ↦
            let o : Some other ≡ Some ring = sym e ∙ ap (slice_get rings) same ∙ at in
            let it : ring ≡ other = cc in
            subst (λ (k : ℕ). HasMet crew next places ends k other) (sym same) (subst (λ (x : RingSpec). HasMet crew next places ends n x) it (first_met crew now next places ends n ring here one))
        | inr ne ↦
            let m : HasMet crew now places ends r other = so_far.met r other (omega (arith, ne)) e in
            still_met crew now next places ends r other m (one.others r other ne m.after)
      ];
      still = λ r other l e.
          (let s : IsStill crew now places ends r other = so_far.still r other (omega arith) e in
          let x : IsJoinedBy next places ends r other s.still.joined.g s.still.joined.t = one.others r other (λ (same : r ≡ n). absurd (omega arith)) s.still.joined in
          record { joined = s.joined; still = record { joined = x.joined; giver = x.giver ∙ s.still.giver; taker = x.taker ∙ s.still.taker } });
    }

pub all_met : (crew met : List (List Part)) (places : List Place) (ends : List Ends) (rings : List RingSpec) (n : ℕ) → length rings ≤ n → AreMetTo crew met places ends rings n → HaveAllMet crew met places ends rings
all_met crew met places ends rings n l m = record { rest = m.rest; each = λ r ring e. m.met r ring (omega (arith, slice_get_within rings r ring e)) e }

-- the lists of places and of ends have those of a ring
pub ends_there : (crew : List (List Part)) (places : List Place) (ends : List Ends) (r : ℕ) (ring : RingSpec) → IsJoined crew places ends r ring → (ring.from < length places) × (ring.to < length places) × (r < length ends)
ends_there crew places ends r ring j =
    let x : StandsAt crew places ring.from j.giver = stands_at crew places ring.from j.giver j.giver_is in
    let y : StandsAt crew places ring.to j.taker = stands_at crew places ring.to j.taker j.taker_is in
    (slice_get_within places ring.from x.place x.at, slice_get_within places ring.to y.place y.at, slice_get_within ends r j.at j.ends_at)

-- what a meeting asks, read from the lists of places
pub record CanMeet (now : List (List Part)) (places : List Place) (ring : RingSpec) (p : Place) (at : Ends) : Type 0 where
  pub seats : ((get_or places ring.from p).seat < length now) × ((get_or places ring.to p).seat < length now)
  pub giver : HasGiver (parts_at now (get_or places ring.from p).seat) (record { part = (get_or places ring.from p).part; number = at.giver })
  pub taker : HasTaker (parts_at now (get_or places ring.to p).seat) (record { part = (get_or places ring.to p).part; number = at.taker })
  pub one : AreOfOneRing (parts_at now (get_or places ring.from p).seat) (record { part = (get_or places ring.from p).part; number = at.giver })
      (parts_at now (get_or places ring.to p).seat) (record { part = (get_or places ring.to p).part; number = at.taker })

can_meet_at : (now : List (List Part)) (places : List Place) (ends : List Ends) (n : ℕ) (ring : RingSpec) (p : Place) (j : IsJoined now places ends n ring) → CanMeet now places ring p j.at
can_meet_at now places ends n ring p j =
    let x : StandsAt now places ring.from j.giver = stands_at now places ring.from j.giver j.giver_is in
    let y : StandsAt now places ring.to j.taker = stands_at now places ring.to j.taker j.taker_is in
    let from : Place = get_or places ring.from p in
    let to : Place = get_or places ring.to p in
    let from_is : x.place ≡ from = sym (get_or_from_slice_get places ring.from x.place p x.at) in
    let to_is : y.place ≡ to = sym (get_or_from_slice_get places ring.to y.place p y.at) in
    let g_here : part_here now from.seat from.part ≡ Some j.giver = subst (λ (v : Place). part_here now v.seat v.part ≡ Some j.giver) from_is x.here in
    let t_here : part_here now to.seat to.part ≡ Some j.taker = subst (λ (v : Place). part_here now v.seat v.part ≡ Some j.taker) to_is y.here in
    let g_part : slice_get (parts_at now from.seat) from.part ≡ Some j.giver = part_get now from.seat from.part j.giver g_here in
    let t_part : slice_get (parts_at now to.seat) to.part ≡ Some j.taker = part_get now to.seat to.part j.taker t_here in
    record {
      seats = (seat_there now from.seat from.part j.giver g_here, seat_there now to.seat to.part j.taker t_here);
      giver = record { part = j.giver; part_is = g_part; end = j.g; end_is = j.giver_end };
      taker = record { part = j.taker; part_is = t_part; end = j.t; end_is = j.taker_end };
      one = λ g t.
          (let p_is : g.part ≡ j.giver = get_one (parts_at now from.seat) from.part g.part j.giver g.part_is g_part in
          let g_is : g.end ≡ j.g = get_one j.giver.givers.items j.at.giver g.end j.g
          (sym (ap (λ (x : Part). slice_get x.givers.items j.at.giver) p_is) ∙ g.end_is) j.giver_end in
          let q_is : t.part ≡ j.taker = get_one (parts_at now to.seat) to.part t.part j.taker t.part_is t_part in
          let t_is : t.end ≡ j.t = get_one j.taker.takers.items j.at.taker t.end j.t
          (sym (ap (λ (x : Part). slice_get x.takers.items j.at.taker) q_is) ∙ t.end_is) j.taker_end in
          ap (λ (v : GiverView). v.ring) g_is ∙ j.ring_is ∙ sym (ap (λ (v : TakerView). v.ring) t_is));
    }

pub can_meet : (now : List (List Part)) (places : List Place) (ends : List Ends) (n : ℕ) (ring : RingSpec) (p : Place) (e : Ends) → IsJoined now places ends n ring → CanMeet now places ring p (get_or ends n e)
can_meet now places ends n ring p e j =
    subst (λ (at : Ends). CanMeet now places ring p at) (sym (get_or_from_slice_get ends n j.at e j.ends_at)) (can_meet_at now places ends n ring p j)

-- one ring more, read from the lists
pub next_met : (crew now next : List (List Part)) (places : List Place) (ends : List Ends) (rings : List RingSpec) (n : ℕ) (ring : RingSpec) (p : Place) (e : Ends) → slice_get rings n ≡ Some ring → AreMetTo crew now places ends rings n →
    HaveMetAt now (get_or places ring.from p).seat (record { part = (get_or places ring.from p).part; number = (get_or ends n e).giver })
    (get_or places ring.to p).seat (record { part = (get_or places ring.to p).part; number = (get_or ends n e).taker }) next →
    AreMetTo crew next places ends rings (n + 1)
next_met crew now next places ends rings n ring p e at so_far m = one_more_met crew now next places ends rings n ring at so_far (λ j.
    (let from : Place = get_or places ring.from p in
    let to : Place = get_or places ring.to p in
    let x : StandsAt now places ring.from j.giver = stands_at now places ring.from j.giver j.giver_is in
    let y : StandsAt now places ring.to j.taker = stands_at now places ring.to j.taker j.taker_is in
    let from_is : slice_get places ring.from ≡ Some from = slice_get-get_or places ring.from p (slice_get_within places ring.from x.place x.at) in
    let to_is : slice_get places ring.to ≡ Some to = slice_get-get_or places ring.to p (slice_get_within places ring.to y.place y.at) in
    let end_is : get_or ends n e ≡ j.at = get_or_from_slice_get ends n j.at e j.ends_at in
    meets_at now next places ends n ring j from to from_is to_is
    (subst (λ (v : Ends). HaveMetAt now from.seat (record { part = from.part; number = v.giver }) to.seat (record { part = to.part; number = v.taker }) next) end_is m)))
