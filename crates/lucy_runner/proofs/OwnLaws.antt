-- The ring at an end of an actor's part.
use Rattle.std.proofs.Common.{ℕ, ◌<◌, ◌≡◌, List, [], map, length, ap, sym, ◌∙◌, subst}
use Rattle.std.specs.Prelude.{All, Some, slice_get}
use Rattle.std.proofs.lemmas.List.Elements.{All-get_or}
use Rattle.std.proofs.lemmas.Option.{slice_get_within, get_or_from_slice_get}
use Rattle.lucy_stream.specs.Plans.{IsPluggedAt}
use Rattle.lucy_net.specs.declared.net.Actor.{Actor}
use Rattle.lucy_net.specs.declared.net.RingSpec.{RingSpec}
use Rattle.lucy_net.specs.declared.net.Net.{Net}
use Rattle.lucy_net.specs.Plans.{task_of, plan, giver, taker}
use Rattle.lucy_net.specs.Proper.{IsProper}
use Rattle.lucy_net.proofs.NetLaws.{task_at, plugged, from_here, to_here, gives_there, takes_there}
use Rattle.lucy_ring.specs.Views.{GiverView, TakerView}
use Rattle.lucy_net.proofs.InstantLaws.{held_ring}
use Rattle.lucy_worker.specs.declared.part.Part.{Part}
use Rattle.lucy_worker.specs.Parts.{given_on, taken_on}
use Rattle.lucy_runner.specs.declared.place.Place.{Place}
use Rattle.lucy_runner.specs.declared.place.Ends.{Ends}
use Rattle.lucy_runner.specs.Crews.{part_of, IsJoined, AreJoined}
use Rattle.lucy_runner.proofs.PlaceLaws.{IsNamed, from_map}
use Rattle.lucy_runner.proofs.EndLaws.{none_on_ring}
use Rattle.lucy_runner.proofs.JoinLaws.{giver_there, taker_there, only_giver, only_taker}

-- what holds of all rings of an actor holds of each
pub of_ring : (P : ℕ → Type 0) (rings : List ℕ) (j r : ℕ) → All P rings → slice_get rings j ≡ Some r → P r
of_ring P rings j r all at = subst P (get_or_from_slice_get rings j r 0 at) (All-get_or P rings j 0 (slice_get_within rings j r at) all)

plugs : (net : Net) (a : ℕ) (actor : Actor) → IsProper net → slice_get net.actors a ≡ Some actor → IsPluggedAt (plan net 0) a (task_of 0 actor)
plugs net a actor proper there = plugged net 0 proper a (task_of 0 actor) (task_at net 0 a actor there)

-- the end is the giving one of a ring of the net
pub record IsGiving (net : Net) (crew : List (List Part)) (places : List Place) (ends : List Ends) (joined : AreJoined crew places ends net.rings) (r : ℕ) (g : GiverView) : Type 0 where
  pub ring : RingSpec
  pub there : slice_get net.rings r ≡ Some ring
  pub is : g ≡ (joined r ring there).g

pub record IsTaking (net : Net) (crew : List (List Part)) (places : List Place) (ends : List Ends) (joined : AreJoined crew places ends net.rings) (r : ℕ) (t : TakerView) : Type 0 where
  pub ring : RingSpec
  pub there : slice_get net.rings r ≡ Some ring
  pub is : t ≡ (joined r ring there).t

pub giving_is : (net : Net) (crew : List (List Part)) (places : List Place) (ends : List Ends) (joined : AreJoined crew places ends net.rings) (a : ℕ) (p : Part) (j r : ℕ) (g : GiverView) →
    IsProper net → slice_get net.actors a ≡ Some p.actor → part_of crew places a ≡ Some p → slice_get p.actor.gives j ≡ Some r → slice_get p.givers.items j ≡ Some g → IsGiving net crew places ends joined r g
giving_is net crew places ends joined a p j r g proper there at gives end =
    let here = held_ring net r (of_ring (λ s. s < length net.rings) p.actor.gives j r (gives_there net a p.actor (proper.actors a p.actor there)) gives) in
    let z : IsJoined crew places ends r here.0 = joined r here.0 here.1 in
    let plugs_at = plugs net a p.actor proper there in
    let own : here.0.from ≡ a = sym (from_here net r here.0 here.1) ∙ of_ring (λ s. giver net s ≡ a) p.actor.gives j r plugs_at.gives gives in
    let one : g ≡ z.g = only_giver p j z.at.giver r g z.g (record { gives = gives; end = end }) (giver_there crew places ends r a here.0 p z at own) (plugs_at.gives_once r) in
    record { ring = here.0; there = here.1; is = one }

pub taking_is : (net : Net) (crew : List (List Part)) (places : List Place) (ends : List Ends) (joined : AreJoined crew places ends net.rings) (a : ℕ) (p : Part) (j r : ℕ) (t : TakerView) →
    IsProper net → slice_get net.actors a ≡ Some p.actor → part_of crew places a ≡ Some p → slice_get p.actor.takes j ≡ Some r → slice_get p.takers.items j ≡ Some t → IsTaking net crew places ends joined r t
taking_is net crew places ends joined a p j r t proper there at takes end =
    let here = held_ring net r (of_ring (λ s. s < length net.rings) p.actor.takes j r (takes_there net a p.actor (proper.actors a p.actor there)) takes) in
    let z : IsJoined crew places ends r here.0 = joined r here.0 here.1 in
    let plugs_at = plugs net a p.actor proper there in
    let own : here.0.to ≡ a = sym (to_here net r here.0 here.1) ∙ of_ring (λ s. taker net s ≡ a) p.actor.takes j r plugs_at.takes takes in
    let one : t ≡ z.t = only_taker p j z.at.taker r t z.t (record { takes = takes; end = end }) (taker_there crew places ends r a here.0 p z at own) (plugs_at.takes_once r) in
    record { ring = here.0; there = here.1; is = one }

-- where no end has moved an item, no part has on a ring
pub none_given : (net : Net) (crew : List (List Part)) (places : List Place) (ends : List Ends) (joined : AreJoined crew places ends net.rings) (a r : ℕ) (p : Part) →
    IsProper net → slice_get net.actors a ≡ Some p.actor → part_of crew places a ≡ Some p → ((q : ℕ) (ring : RingSpec) (e : slice_get net.rings q ≡ Some ring) → (joined q ring e).g.given ≡ []) → given_on p r ≡ []
none_given net crew places ends joined a r p proper there at none =
    none_on_ring p.actor.gives (map (λ (g : GiverView). g.given) p.givers.items) r (λ j xs gives list.
    (let end : IsNamed (λ (g : GiverView). g.given) p.givers.items j xs = from_map (λ (g : GiverView). g.given) p.givers.items j xs list in
    let is : IsGiving net crew places ends joined r end.is = giving_is net crew places ends joined a p j r end.is proper there at gives end.at in
    sym end.named ∙ ap (λ (g : GiverView). g.given) is.is ∙ none r is.ring is.there))

pub none_taken : (net : Net) (crew : List (List Part)) (places : List Place) (ends : List Ends) (joined : AreJoined crew places ends net.rings) (a r : ℕ) (p : Part) →
    IsProper net → slice_get net.actors a ≡ Some p.actor → part_of crew places a ≡ Some p → ((q : ℕ) (ring : RingSpec) (e : slice_get net.rings q ≡ Some ring) → (joined q ring e).t.taken ≡ []) → taken_on p r ≡ []
none_taken net crew places ends joined a r p proper there at none =
    none_on_ring p.actor.takes (map (λ (t : TakerView). t.taken) p.takers.items) r (λ j xs takes list.
    (let end : IsNamed (λ (t : TakerView). t.taken) p.takers.items j xs = from_map (λ (t : TakerView). t.taken) p.takers.items j xs list in
    let is : IsTaking net crew places ends joined r end.is = taking_is net crew places ends joined a p j r end.is proper there at takes end.at in
    sym end.named ∙ ap (λ (t : TakerView). t.taken) is.is ∙ none r is.ring is.there))
