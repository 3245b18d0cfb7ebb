-- In a block more all stands again.
use Rattle.std.proofs.Common.{ℕ, ◌≤◌, ◌≡◌, List, length, get_or, ap, sym, refl, ◌∙◌, subst, arith}
use Rattle.std.specs.Prelude.{ℤ, Some, slice_get}
use Rattle.std.specs.List.{range_with_len}
use Rattle.std.proofs.lemmas.Option.{slice_get_within}
use Rattle.lucy_word.specs.Limits.{limit_number}
use Rattle.lucy_word.specs.declared.limit.Limit.TheVariants as limit
use Rattle.lucy_host.specs.Operators.{Operator}
use Rattle.lucy_net.specs.declared.net.Net.{Net}
use Rattle.lucy_net.specs.declared.net.RingSpec.{RingSpec}
use Rattle.lucy_net.specs.Proper.{IsProperRing, IsSupplied}
use Rattle.lucy_net.specs.Schedules.{Timetable}
use Rattle.lucy_core.specs.Seen.{Seen, IsOver}
use Rattle.lucy_core.proofs.ListLaws.{map_same}
use Rattle.lucy_core.proofs.SeenLaws.{held_same}
use Rattle.lucy_worker.specs.declared.part.Part.{Part}
use Rattle.lucy_runner.specs.declared.place.Place.{Place}
use Rattle.lucy_runner.specs.declared.place.Ends.{Ends}
use Rattle.lucy_runner.specs.Views.{input_count}
use Rattle.lucy_runner.specs.Crews.{done_list, items_of, inputs_of, seen_by, IsJoined}
use Rattle.lucy_runner.specs.Standing.{HasEnds, IsStanding}
use Rattle.lucy_runner.specs.Blocks.{longer_for, longer_inputs, grown_seen}
use Rattle.lucy_runner.specs.Growths.{HaveGrown}
use Rattle.lucy_runner.proofs.CrewLaws.{done_is, counts_same, HaveNumbers, still_shared, still_covered}
use Rattle.lucy_runner.proofs.JoinLaws.{IsGiver, IsTaker, giver_there, taker_there}
use Rattle.lucy_runner.proofs.Blocks.{Block, then, fixed, Gets, gets, grown_done, items_then}
use Rattle.lucy_runner.proofs.BlockStates.{first, last, then_within, same_state}
use Rattle.lucy_runner.proofs.BlockParts.{actor_more}

ring_more : (b : Block) (r : ℕ) (ring : RingSpec) → slice_get b.seen.net.rings r ≡ Some ring → HasEnds (then b) b.grown b.places b.ends r ring
ring_more b r ring e =
    let proper : IsProperRing b.seen.net r ring = b.standing.fixed.proper.rings r ring e in
    let old : HasEnds b.seen b.crew b.places b.ends r ring = b.standing.rings r ring e in
    let j : IsJoined b.crew b.places b.ends r ring = old.joined in
    let from : Gets b ring.from = gets b ring.from (slice_get_within b.seen.net.actors ring.from proper.giver proper.gives_here) in
    let to : Gets b ring.to = gets b ring.to (slice_get_within b.seen.net.actors ring.to proper.taker proper.takes_here) in
    let gives : IsGiver from.part j.at.giver r j.g = giver_there b.crew b.places b.ends r ring.from ring from.part j from.at refl in
    let takes : IsTaker to.part j.at.taker r j.t = taker_there b.crew b.places b.ends r ring.to ring to.part j to.at refl in
    let giver : IsGiver from.after j.at.giver r j.g = subst (λ (y : Part). IsGiver y j.at.giver r j.g) (sym from.grows.rest) (record { gives = gives.gives; end = gives.end }) in
    let taker : IsTaker to.after j.at.taker r j.t = subst (λ (y : Part). IsTaker y j.at.taker r j.t) (sym to.grows.rest) (record { takes = takes.takes; end = takes.end }) in
    let joined : IsJoined b.grown b.places b.ends r ring = record {
      at = j.at;
      ends_at = j.ends_at;
      giver = from.after;
      giver_is = from.after_at;
      gives = giver.gives;
      g = j.g;
      giver_end = giver.end;
      taker = to.after;
      taker_is = to.after_at;
      takes = taker.takes;
      t = j.t;
      taker_end = taker.end;
      ring_is = j.ring_is;
    } in
    let h = old.holds in
    record {
      joined = joined;
      holds = record {
        given = h.given;
        taken = h.taken;
        held = h.held ∙ held_same (first b) (last b) r (same_state b);
        known = h.known;
        slots = h.slots;
        capacity = h.capacity;
      };
    }

pub numbers_grown : (b : Block) → HaveNumbers b.crew b.grown
numbers_grown b = record {
  seats = b.grows.seats;
  counts = b.grows.counts;
  number = λ s k ps qs p q e f c d. ap (λ (y : Part). y.number) (b.grows.parts s k ps qs p q e f c d).rest;
}

all_more : (b : Block) → IsStanding (then b) b.seen.instants b.grown b.places b.ends
all_more b = record {
  fixed = fixed b;
  within = then_within b;
  early = b.later;
  few = omega (arith, b.standing.few, b.grows.seats);
  placed = b.standing.placed;
  ended = b.standing.ended;
  shared = still_shared b.crew b.grown (length b.seen.net.actors) (numbers_grown b) b.standing.shared;
  covered = still_covered b.crew b.grown b.places (numbers_grown b) b.standing.covered;
  actors = actor_more b;
  rings = ring_more b;
}

inputs_then : (b : Block) → inputs_of b.seen.net b.grown b.places ≡ (then b).inputs
inputs_then b =
    let is : List ℕ = range_with_len 0 (input_count b.seen.net.actors) in
    map_same (items_of b.grown b.places) (longer_for b.seen.net.actors b.seen.inputs b.added) is (λ k d l. items_then b (get_or is k d))

-- the block of a runner's parts
abbrev pub block_of : (net : Net) (schedule : Timetable) (ops : List Operator) (before old instants : ℕ) (crew grown : List (List Part)) (places : List Place) (ends : List Ends) (added : List (List ℤ)) →
    IsStanding (seen_by net schedule ops old crew places) before crew places ends → IsOver (seen_by net schedule ops old crew places) → HaveGrown crew grown added instants →
    old ≤ instants → instants ≤ limit_number limit.Instants → IsSupplied (longer_inputs net (inputs_of net crew places) added) net instants → Block
block_of net schedule ops before old instants crew grown places ends added standing over grows later early supplied = record {
  seen = seen_by net schedule ops old crew places;
  before = before;
  crew = crew;
  grown = grown;
  places = places;
  ends = ends;
  added = added;
  instants = instants;
  counts = done_is crew places;
  inputs = refl;
  standing = standing;
  over = over;
  grows = grows;
  later = later;
  early = early;
  supplied = supplied;
}

-- what stood and was finished stands with more to do, and is seen with the longer inputs and the later horizon
pub block_stands : (net : Net) (schedule : Timetable) (ops : List Operator) (before old instants : ℕ) (crew grown : List (List Part)) (places : List Place) (ends : List Ends) (added : List (List ℤ)) →
    IsStanding (seen_by net schedule ops old crew places) before crew places ends → IsOver (seen_by net schedule ops old crew places) → HaveGrown crew grown added instants →
    old ≤ instants → instants ≤ limit_number limit.Instants → IsSupplied (longer_inputs net (inputs_of net crew places) added) net instants →
    IsStanding (seen_by net schedule ops instants grown places) old grown places ends × (seen_by net schedule ops instants grown places ≡ grown_seen (seen_by net schedule ops old crew places) added instants)
block_stands net schedule ops before old instants crew grown places ends added standing over grows later early supplied =
    let b : Block = block_of net schedule ops before old instants crew grown places ends added standing over grows later early supplied in
    let counts : done_list grown places ≡ done_list crew places = counts_same grown crew places (λ a. grown_done b a) in
    let same : seen_by net schedule ops instants grown places ≡ then b =
    ap (λ (lists : List (List ℤ)). record (then b) { inputs = lists; done = done_list grown places }) (inputs_then b) ∙ ap (λ (ds : List ℕ). record (then b) { done = ds }) counts in
    (subst (λ (s : Seen). IsStanding s old grown places ends) (sym same) (all_more b), same)
