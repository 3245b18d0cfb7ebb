-- How many operations the actor of a part has done.
use Rattle.std.proofs.Common.{ℕ, ◌≤◌, ◌<◌, ◌≡◌, List, length, ap, sym, ◌∙◌, subst, arith}
use Rattle.std.specs.Prelude.{Some}
use Rattle.lucy_word.specs.Limits.{limit_number}
use Rattle.lucy_word.specs.declared.limit.Limit.TheVariants as limit
use Rattle.lucy_word.proofs.BitsLaws.{ones_to-le}
use Rattle.lucy_stream.specs.Forms.{operands}
use Rattle.lucy_net.specs.Plans.{form_of}
use Rattle.lucy_net.specs.Proper.{IsProperActor}
use Rattle.lucy_net.proofs.NetLaws.{gives_short}
use Rattle.lucy_core.specs.Seen as core
use Rattle.lucy_core.specs.Seen.{Seen}
use Rattle.lucy_core.proofs.ListLaws.{some_same}
use Rattle.lucy_worker.specs.declared.part.Part.{Part}
use Rattle.lucy_worker.specs.Parts.{done_of}
use Rattle.lucy_runner.specs.declared.place.Place.{Place}
use Rattle.lucy_runner.specs.declared.place.Ends.{Ends}
use Rattle.lucy_runner.specs.Crews.{part_of, done_in, done_list}
use Rattle.lucy_runner.specs.Standing.{IsPartOf, IsStanding}
use Rattle.lucy_runner.proofs.CrewLaws.{done_is}

-- the operations of an actor can be counted
pub record IsCountable (p : Part) : Type 0 where
  pub arity : length p.actor.takes ≡ operands (form_of p.actor.kind)
  pub gives : length p.actor.gives ≤ limit_number limit.Rings
  pub fired : p.state.fired ≤ limit_number limit.Instants

module _ (seen : Seen) (before a : ℕ) (crew : List (List Part)) (places : List Place) (ends : List Ends) (p : Part) where
  pub countable : IsStanding seen before crew places ends → a < length seen.net.actors → part_of crew places a ≡ Some p → IsCountable p
  countable standing l at =
      let is : IsPartOf seen before crew places a = standing.actors a l in
      let proper : IsProperActor seen.net is.part.number is.part.actor =
      standing.fixed.proper.actors is.part.number is.part.actor is.stands.there in
      let fired : is.part.state.fired ≤ limit_number limit.Instants =
      omega (arith, is.stands.state.within, is.stands.state.quota, ones_to-le is.part.actor.firing seen.instants, standing.fixed.early) in
      subst IsCountable (some_same (part_of crew places a) is.part p is.at at) (record {
        arity = proper.arity;
        gives = omega (arith, gives_short seen.net is.part.number is.part.actor proper, standing.fixed.proper.few_rings);
        fired = fired;
      })

-- its number among those of all actors
pub done_here : (crew : List (List Part)) (places : List Place) (a : ℕ) (p : Part) → part_of crew places a ≡ Some p → done_of p ≡ core.done_of (done_list crew places) a
done_here crew places a p at = sym (done_is crew places a ∙ ap done_in at)
