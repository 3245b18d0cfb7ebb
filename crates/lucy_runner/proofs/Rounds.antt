-- A round, and what an actor and a ring go through in it.
use Rattle.std.proofs.Common.{ℕ, ◌<◌, ◌≤◌, ◌≡◌, List, [], ◌++◌, length, ap, sym, refl, ◌∙◌, subst}
use Rattle.std.specs.Prelude.{ℤ, Option, Some, None, slice_get}
use Rattle.std.proofs.lemmas.Option.{slice_get_within}
use Rattle.lucy_word.specs.Bits.{ones_to}
use Rattle.lucy_host.specs.Operators.{kinds_of}
use Rattle.lucy_stream.specs.States.{Machine, State}
use Rattle.lucy_stream.specs.Plans.{machine, times, IsPluggedAt}
use Rattle.lucy_net.specs.declared.net.Actor.{Actor}
use Rattle.lucy_net.specs.declared.net.RingSpec.{RingSpec}
use Rattle.lucy_net.specs.Plans.{task_of, plan, giver, taker}
use Rattle.lucy_net.specs.Proper.{IsProperRing}
use Rattle.lucy_net.proofs.NetLaws.{task_at, plugged}
use Rattle.lucy_core.specs.Seen as core
use Rattle.lucy_core.specs.Seen.{Seen}
use Rattle.lucy_ring.specs.Views.{GiverView, TakerView}
use Rattle.lucy_worker.specs.declared.part.Part.{Part}
use Rattle.lucy_worker.specs.Parts.{given_on, taken_on, IsPartAt}
use Rattle.lucy_runner.specs.declared.place.Place.{Place}
use Rattle.lucy_runner.specs.declared.place.Ends.{Ends}
use Rattle.lucy_runner.specs.Crews.{part_of, done_in}
use Rattle.lucy_runner.specs.Standing.{carried, took_first, TookAsMany, IsPartOf, HasEnds, IsStanding}
use Rattle.lucy_runner.specs.Turns.{HaveTurned, HasMet, HaveAllMet}
use Rattle.lucy_runner.proofs.PlaceLaws.{IsTurned, turned_at, IsMet, met_at}
use Rattle.lucy_runner.proofs.JoinLaws.{IsGiver, IsTaker, giver_there, taker_there, given_there, taken_there, only_giver, only_taker, TurnsGiver, TurnsTaker, turns_giver, turns_taker}

-- a turn of every worker, and then the meetings
pub record Round : Type 0 where
  pub seen : Seen
  pub before : ℕ
  pub moves : ℕ
  pub crew : List (List Part)
  pub turned : List (List Part)
  pub met : List (List Part)
  pub places : List Place
  pub ends : List Ends
  pub counts : (a : ℕ) → core.done_of seen.done a ≡ done_in (part_of crew places a)
  pub as_many : length seen.done ≡ length places
  pub standing : IsStanding seen before crew places ends
  pub turns : HaveTurned (kinds_of seen.operators) crew turned moves
  pub meets : HaveAllMet turned met places ends seen.net.rings

-- the actors with their values, and the state before the round
abbrev pub engine : Round → Machine
engine x = machine (kinds_of x.seen.operators) x.seen.inputs (plan x.seen.net x.seen.instants)

abbrev pub low : Round → State
low x = core.state_of x.seen

-- what the ends of a part moved on a ring
abbrev pub given_in : Option Part → ℕ → List ℤ
given_in None r = []
given_in (Some p) r = given_on p r

abbrev pub taken_in : Option Part → ℕ → List ℤ
taken_in None r = []
taken_in (Some p) r = taken_on p r

-- the state after it: the counts of the parts, and the lists with what the ends moved in the turn
abbrev pub high : Round → State
high x = record {
  done = λ (a : ℕ). done_in (part_of x.turned x.places a);
  gave = λ (r : ℕ). (low x).gave r ++ given_in (part_of x.turned x.places (giver x.seen.net r)) r;
  took = λ (r : ℕ). (low x).took r ++ taken_in (part_of x.turned x.places (taker x.seen.net r)) r;
}

-- what an actor goes through
pub record Goes (x : Round) (a : ℕ) : Type 0 where
  pub part : Part
  pub at : part_of x.crew x.places a ≡ Some part
  pub number : part.number ≡ a
  pub stands : IsPartAt (kinds_of x.seen.operators) x.seen.inputs x.seen.net x.seen.instants (low x) (carried x.seen x.before part) part
  pub took : TookAsMany part.actor.kind (ones_to part.actor.firing x.before) (length (took_first x.seen part))
  pub there : slice_get x.seen.net.actors a ≡ Some part.actor
  pub plugs : IsPluggedAt (plan x.seen.net x.seen.instants) a (task_of x.seen.instants part.actor)
  pub turn : IsTurned (kinds_of x.seen.operators) x.turned x.places a part
  pub meet : IsMet x.met x.places a turn.after

pub goes : (x : Round) (a : ℕ) → a < length x.seen.net.actors → Goes x a
goes x a l =
    let is : IsPartOf x.seen x.before x.crew x.places a = x.standing.actors a l in
    let there : slice_get x.seen.net.actors a ≡ Some is.part.actor = ap (slice_get x.seen.net.actors) (sym is.number) ∙ is.stands.there in
    let turn : IsTurned (kinds_of x.seen.operators) x.turned x.places a is.part = turned_at (kinds_of x.seen.operators) x.crew x.turned x.moves x.places a is.part x.turns is.at in
    record {
      part = is.part;
      at = is.at;
      number = is.number;
      stands = is.stands;
      took = is.took;
      there = there;
      plugs = plugged x.seen.net x.seen.instants x.standing.fixed.proper a (task_of x.seen.instants is.part.actor) (task_at x.seen.net x.seen.instants a is.part.actor there);
      turn = turn;
      meet = met_at x.turned x.met x.places a turn.after x.meets.rest turn.at;
    }

-- a ring stands once among the gives and once among the takes of a part
pub gives_once : (x : Round) (a r : ℕ) (w : Goes x a) → times r w.turn.after.actor.gives ≤ 1
gives_once x a r w = subst (λ (o : Actor). times r o.gives ≤ 1) (sym w.turn.run.actor) (w.plugs.gives_once r)

pub takes_once : (x : Round) (a r : ℕ) (w : Goes x a) → times r w.turn.after.actor.takes ≤ 1
takes_once x a r w = subst (λ (o : Actor). times r o.takes ≤ 1) (sym w.turn.run.actor) (w.plugs.takes_once r)

-- what a ring goes through: its ends are there before the turn, stay so, and meet
pub record RingGoes (x : Round) (r : ℕ) (ring : RingSpec) : Type 0 where
  pub from : Goes x ring.from
  pub to : Goes x ring.to
  pub has : HasEnds x.seen x.crew x.places x.ends r ring
  pub meet : HasMet x.turned x.met x.places x.ends r ring
  pub same_ring : meet.joined.g.ring ≡ has.joined.g.ring
  pub same_held : meet.joined.t.held ≡ has.joined.t.held
  pub given : given_on from.turn.after r ≡ meet.joined.g.given
  pub taken : taken_on to.turn.after r ≡ meet.joined.t.taken

pub ring_goes : (x : Round) (r : ℕ) (ring : RingSpec) → slice_get x.seen.net.rings r ≡ Some ring → RingGoes x r ring
ring_goes x r ring e =
    let proper : IsProperRing x.seen.net r ring = x.standing.fixed.proper.rings r ring e in
    let from : Goes x ring.from = goes x ring.from (slice_get_within x.seen.net.actors ring.from proper.giver proper.gives_here) in
    let to : Goes x ring.to = goes x ring.to (slice_get_within x.seen.net.actors ring.to proper.taker proper.takes_here) in
    let b : HasEnds x.seen x.crew x.places x.ends r ring = x.standing.rings r ring e in
    let z : HasMet x.turned x.met x.places x.ends r ring = x.meets.each r ring e in
    let i : ℕ = b.joined.at.giver in
    let j : ℕ = b.joined.at.taker in
    let giving : TurnsGiver from.part from.turn.after i r b.joined.g =
    turns_giver (kinds_of x.seen.operators) from.part from.turn.after i r b.joined.g from.turn.run (giver_there x.crew x.places x.ends r ring.from ring from.part b.joined from.at refl) in
    let taking : TurnsTaker to.part to.turn.after j r b.joined.t =
    turns_taker (kinds_of x.seen.operators) to.part to.turn.after j r b.joined.t to.turn.run (taker_there x.crew x.places x.ends r ring.to ring to.part b.joined to.at refl) in
    let gives : IsGiver from.turn.after z.joined.at.giver r z.joined.g = giver_there x.turned x.places x.ends r ring.from ring from.turn.after z.joined from.turn.at refl in
    let takes : IsTaker to.turn.after z.joined.at.taker r z.joined.t = taker_there x.turned x.places x.ends r ring.to ring to.turn.after z.joined to.turn.at refl in
    let one : giving.after ≡ z.joined.g = only_giver from.turn.after i z.joined.at.giver r giving.after z.joined.g giving.is gives (gives_once x ring.from r from) in
    let other : taking.after ≡ z.joined.t = only_taker to.turn.after j z.joined.at.taker r taking.after z.joined.t taking.is takes (takes_once x ring.to r to) in
    record {
      from = from;
      to = to;
      has = b;
      meet = z;
      same_ring = ap (λ (v : GiverView). v.ring) (sym one) ∙ giving.ring;
      same_held = ap (λ (v : TakerView). v.held) (sym other) ∙ taking.held;
      given = given_there from.turn.after z.joined.at.giver r z.joined.g gives (gives_once x ring.from r from);
      taken = taken_there to.turn.after z.joined.at.taker r z.joined.t takes (takes_once x ring.to r to);
    }
