-- With more room for its parts all stands as it did, and the same is seen.
use Rattle.std.proofs.Common.{ℕ, ◌<◌, ◌≤◌, ◌≡◌, List, [], length, get_or, ap, sym, ◌∙◌, subst, inl, inr, arith}
use Rattle.std.specs.Prelude.{ℤ, Some, None, slice_get}
use Rattle.std.proofs.lemmas.Bool.{cases_lt}
use Rattle.std.proofs.lemmas.Option.{slice_get_within, slice_get-get_or, get_or_from_slice_get}
use Rattle.lucy_word.specs.Bits.{ones_to}
use Rattle.lucy_host.specs.Operators.{Operator, kinds_of}
use Rattle.lucy_net.specs.declared.net.Net.{Net}
use Rattle.lucy_net.specs.declared.net.RingSpec.{RingSpec}
use Rattle.lucy_net.specs.States.{ReadsInput}
use Rattle.lucy_net.specs.Schedules.{Timetable}
use Rattle.lucy_core.specs.Seen as core
use Rattle.lucy_core.specs.Seen.{Seen}
use Rattle.lucy_worker.specs.declared.part.Part.{Part}
use Rattle.lucy_worker.specs.Parts as parts
use Rattle.lucy_worker.specs.Parts.{PutsOut, IsPartAt}
use Rattle.lucy_worker.specs.Growing.{HasSpared}
use Rattle.lucy_runner.specs.declared.place.Place.{Place}
use Rattle.lucy_runner.specs.declared.place.Ends.{Ends}
use Rattle.lucy_runner.specs.Crews.{part_of, done_in, done_list, inputs_of, seen_by, IsJoined}
use Rattle.lucy_runner.specs.Standing.{took_first, carried, TookAsMany, IsPartOf, HasEnds, IsStanding}
use Rattle.lucy_runner.specs.Growths.{HaveSpared}
use Rattle.lucy_runner.proofs.PlaceLaws.{IsFound, found, part_is, no_part}
use Rattle.lucy_runner.proofs.CrewLaws.{IsSameInput, inputs_same, counts_same, HaveNumbers, still_shared, still_covered}

part_spared : (crew spared : List (List Part)) (s k : ℕ) (ps qs : List Part) (p q : Part) → HaveSpared crew spared → slice_get crew s ≡ Some ps → slice_get spared s ≡ Some qs → slice_get ps k ≡ Some p → slice_get qs k ≡ Some q → HasSpared p q
part_spared crew spared s k ps qs p q h e f c d =
    let one : HasSpared (get_or ps k p) (get_or qs k p) = (h.each s ps qs e f).each k p (slice_get_within ps k p c) in
    subst (λ (x : Part). HasSpared x q) (get_or_from_slice_get ps k p p c) (subst (λ (y : Part). HasSpared (get_or ps k p) y) (get_or_from_slice_get qs k q p d) one)

pub spared_numbers : (crew spared : List (List Part)) → HaveSpared crew spared → HaveNumbers crew spared
spared_numbers crew spared h = record {
  seats = h.seats;
  counts = λ s ps qs e f. (h.each s ps qs e f).as_many;
  number = λ s k ps qs p q e f c d. ap (λ (y : Part). y.number) (part_spared crew spared s k ps qs p q h e f c d).rest;
}

-- the part of an actor with more room
record IsSparedAt (spared : List (List Part)) (places : List Place) (a : ℕ) (p : Part) : Type 0 where
  after : Part
  at : part_of spared places a ≡ Some after
  has : HasSpared p after

spared_at : (crew spared : List (List Part)) (places : List Place) (a : ℕ) (p : Part) → HaveSpared crew spared → part_of crew places a ≡ Some p → IsSparedAt spared places a p
spared_at crew spared places a p h e =
    let f : IsFound crew places a p = found crew places a p e in
    let s : ℕ = f.place.seat in
    let k : ℕ = f.place.part in
    let qs : List Part = get_or spared s [] in
    let there : slice_get spared s ≡ Some qs = slice_get-get_or spared s [] (omega (arith, slice_get_within crew s f.parts f.seat, h.seats)) in
    let same : length qs ≡ length f.parts = (h.each s f.parts qs f.seat there).as_many in
    let q : Part = get_or qs k p in
    let here : slice_get qs k ≡ Some q = slice_get-get_or qs k p (omega (arith, slice_get_within f.parts k p f.part, same)) in
    record { after = q; at = part_is spared places a f.place qs q f.at there here; has = part_spared crew spared s k f.parts qs p q h f.seat there f.part here }

-- a runner that stands, whose parts got more room
pub record Spare : Type 0 where
  pub net : Net
  pub schedule : Timetable
  pub ops : List Operator
  pub instants : ℕ
  pub before : ℕ
  pub crew : List (List Part)
  pub spared : List (List Part)
  pub places : List Place
  pub ends : List Ends
  pub standing : IsStanding (seen_by net schedule ops instants crew places) before crew places ends
  pub spares : HaveSpared crew spared

abbrev pub seen_of : Spare → Seen
seen_of x = seen_by x.net x.schedule x.ops x.instants x.crew x.places

input_spared : (x : Spare) (a : ℕ) → IsSameInput (part_of x.crew x.places a) (part_of x.spared x.places a)
input_spared x a = elim (cases_lt a (length x.net.actors)) [
  | inl l ↦
      let is : IsPartOf (seen_of x) x.before x.crew x.places a = x.standing.actors a l in
      let w : IsSparedAt x.spared x.places a is.part = spared_at x.crew x.spared x.places a is.part x.spares is.at in
      subst (λ o. IsSameInput o (part_of x.spared x.places a)) (sym is.at) (subst (λ o. IsSameInput (Some is.part) o) (sym w.at) (ap (λ (y : Part). y.actor) w.has.rest, w.has.input))
  | inr past ↦
      let l : length x.places ≤ a = omega (arith, x.standing.placed) in
      subst (λ o. IsSameInput o (part_of x.spared x.places a)) (sym (no_part x.crew x.places a l)) (subst (λ o. IsSameInput None o) (sym (no_part x.spared x.places a l)) tt)
]

done_spared : (x : Spare) (a : ℕ) → done_in (part_of x.spared x.places a) ≡ done_in (part_of x.crew x.places a)
done_spared x a = elim (cases_lt a (length x.net.actors)) [
  | inl l ↦
      let is : IsPartOf (seen_of x) x.before x.crew x.places a = x.standing.actors a l in
      let w : IsSparedAt x.spared x.places a is.part = spared_at x.crew x.spared x.places a is.part x.spares is.at in
      ap done_in w.at ∙ ap (λ (y : Part). parts.done_of y) w.has.rest ∙ sym (ap done_in is.at)
  | inr past ↦
      let l : length x.places ≤ a = omega (arith, x.standing.placed) in
      ap done_in (no_part x.spared x.places a l) ∙ sym (ap done_in (no_part x.crew x.places a l))
]

-- the same is seen
pub same_seen : (x : Spare) → seen_by x.net x.schedule x.ops x.instants x.spared x.places ≡ seen_of x
same_seen x =
    let inputs : inputs_of x.net x.spared x.places ≡ inputs_of x.net x.crew x.places = sym (inputs_same x.net x.crew x.spared x.places (λ a. input_spared x a)) in
    let counts : done_list x.spared x.places ≡ done_list x.crew x.places = counts_same x.spared x.crew x.places (λ a. done_spared x a) in
    ap (λ (lists : List (List ℤ)). record (seen_of x) { inputs = lists; done = done_list x.spared x.places }) inputs ∙ ap (λ (ds : List ℕ). record (seen_of x) { done = ds }) counts

actor_spared : (x : Spare) (a : ℕ) → a < length x.net.actors → IsPartOf (seen_of x) x.before x.spared x.places a
actor_spared x a l =
    let seen : Seen = seen_of x in
    let is : IsPartOf seen x.before x.crew x.places a = x.standing.actors a l in
    let p : Part = is.part in
    let w : IsSparedAt x.spared x.places a p = spared_at x.crew x.spared x.places a p x.spares is.at in
    let q : Part = record p { input = w.after.input; output = w.after.output } in
    let stands : IsPartAt (kinds_of x.ops) seen.inputs x.net x.instants (core.state_of seen) (carried seen x.before q) q = record {
      plugged = is.stands.plugged;
      there = is.stands.there;
      reads = subst (λ (items : List ℤ). ReadsInput p.actor.kind seen.inputs items) (sym w.has.input) is.stands.reads;
      state = is.stands.state;
      stands = is.stands.stands;
      output = subst (λ (items : List ℤ). PutsOut p.actor.kind (carried seen x.before p) ((parts.state_of (core.state_of seen) p).took (get_or p.actor.takes 0 0)) items) (sym w.has.output) is.stands.output;
    } in
    record {
      part = w.after;
      at = w.at;
      number = ap (λ (y : Part). y.number) w.has.rest ∙ is.number;
      stands = subst (λ (y : Part). IsPartAt (kinds_of x.ops) seen.inputs x.net x.instants (core.state_of seen) (carried seen x.before y) y) (sym w.has.rest) stands;
      took = subst (λ (y : Part). TookAsMany y.actor.kind (ones_to y.actor.firing x.before) (length (took_first seen y))) (sym w.has.rest) is.took;
    }

ring_spared : (x : Spare) (r : ℕ) (ring : RingSpec) → slice_get x.net.rings r ≡ Some ring → HasEnds (seen_of x) x.spared x.places x.ends r ring
ring_spared x r ring e =
    let old : HasEnds (seen_of x) x.crew x.places x.ends r ring = x.standing.rings r ring e in
    let j : IsJoined x.crew x.places x.ends r ring = old.joined in
    let from : IsSparedAt x.spared x.places ring.from j.giver = spared_at x.crew x.spared x.places ring.from j.giver x.spares j.giver_is in
    let to : IsSparedAt x.spared x.places ring.to j.taker = spared_at x.crew x.spared x.places ring.to j.taker x.spares j.taker_is in
    let joined : IsJoined x.spared x.places x.ends r ring = record {
      at = j.at;
      ends_at = j.ends_at;
      giver = from.after;
      giver_is = from.at;
      gives = subst (λ (y : Part). slice_get y.actor.gives j.at.giver ≡ Some r) (sym from.has.rest) j.gives;
      g = j.g;
      giver_end = subst (λ (y : Part). slice_get y.givers.items j.at.giver ≡ Some j.g) (sym from.has.rest) j.giver_end;
      taker = to.after;
      taker_is = to.at;
      takes = subst (λ (y : Part). slice_get y.actor.takes j.at.taker ≡ Some r) (sym to.has.rest) j.takes;
      t = j.t;
      taker_end = subst (λ (y : Part). slice_get y.takers.items j.at.taker ≡ Some j.t) (sym to.has.rest) j.taker_end;
      ring_is = j.ring_is;
    } in
    record { joined = joined; holds = old.holds }

all_spared : (x : Spare) → IsStanding (seen_of x) x.before x.spared x.places x.ends
all_spared x = record {
  fixed = x.standing.fixed;
  within = x.standing.within;
  early = x.standing.early;
  few = omega (arith, x.standing.few, x.spares.seats);
  placed = x.standing.placed;
  ended = x.standing.ended;
  shared = still_shared x.crew x.spared (length x.net.actors) (spared_numbers x.crew x.spared x.spares) x.standing.shared;
  covered = still_covered x.crew x.spared x.places (spared_numbers x.crew x.spared x.spares) x.standing.covered;
  actors = actor_spared x;
  rings = ring_spared x;
}

-- what stood stands with more room
pub spared_stands : (x : Spare) → IsStanding (seen_by x.net x.schedule x.ops x.instants x.spared x.places) x.before x.spared x.places x.ends
spared_stands x = subst (λ (s : Seen). IsStanding s x.before x.spared x.places x.ends) (sym (same_seen x)) (all_spared x)
