use Rattle.std.proofs.Common.{ℕ, ◌≡◌, length, get_or, refl, arith}
use Rattle.std.specs.Prelude.{Some, slice_get}
use Rattle.std.proofs.lemmas.Option.{slice_get_read}
use Rattle.std.proofs.lemmas.List.{length-map}
use Rattle.lucy_net.specs.declared.net.RingSpec.{RingSpec}
use Rattle.lucy_runner.specs.Crews.{seated, crew_of}
use Rattle.lucy_runner.proofs.MeetAllLaws.{none_met, next_met, all_met, ends_there, can_meet, CanMeet}
use Rattle.lucy_runner.proofs.meeting.meet_all.Goals as goal

pub loop-r-init : goal.loop-r-init
loop-r-init c = none_met (crew_of c.args.seats.now) c.args.places.now c.args.ends.now c.args.rings.now c.requires.joined

pub bounds-places-ring : goal.bounds-places-ring
bounds-places-ring c =
    let n : ℕ = c.loop-r.r in
    let ring : RingSpec = c.index-rings-r.result in
    let at : slice_get c.args.rings.now n ≡ Some ring = slice_get_read c.args.rings.now (length c.args.rings.now) n ring refl c.loop-r-test.true c.index-rings-r.is in
    (ends_there (crew_of c.args.seats.now) c.args.places.now c.args.ends.now n ring (c.requires.joined n ring at)).0

pub bounds-places-ring-in-loop-r : goal.bounds-places-ring-in-loop-r
bounds-places-ring-in-loop-r c =
    let n : ℕ = c.loop-r.r in
    let ring : RingSpec = c.index-rings-r.result in
    let at : slice_get c.args.rings.now n ≡ Some ring = slice_get_read c.args.rings.now (length c.args.rings.now) n ring refl c.loop-r-test.true c.index-rings-r.is in
    (ends_there (crew_of c.args.seats.now) c.args.places.now c.args.ends.now n ring (c.requires.joined n ring at)).1

pub bounds-ends-r : goal.bounds-ends-r
bounds-ends-r c =
    let n : ℕ = c.loop-r.r in
    let ring : RingSpec = c.index-rings-r.result in
    let at : slice_get c.args.rings.now n ≡ Some ring = slice_get_read c.args.rings.now (length c.args.rings.now) n ring refl c.loop-r-test.true c.index-rings-r.is in
    (ends_there (crew_of c.args.seats.now) c.args.places.now c.args.ends.now n ring (c.requires.joined n ring at)).2

pub meet_at-requires : goal.meet_at-requires
meet_at-requires c =
    let n : ℕ = c.loop-r.r in
    let ring : RingSpec = c.index-rings-r.result in
    let at : slice_get c.args.rings.now n ≡ Some ring = slice_get_read c.args.rings.now (length c.args.rings.now) n ring refl c.loop-r-test.true c.index-rings-r.is in
    let can : CanMeet (crew_of c.loop-r.seats) c.args.places.now ring (record { seat = 0; part = 0 }) (get_or c.args.ends.now n (record { giver = 0; taker = 0 })) =
    can_meet (crew_of c.loop-r.seats) c.args.places.now c.args.ends.now n ring (record { seat = 0; part = 0 }) (record { giver = 0; taker = 0 }) (c.loop-r.invariant.still n ring (omega arith) at).still.joined in
    record {
      seats = (omega (arith, can.seats.0, length-map c.loop-r.seats seated), omega (arith, can.seats.1, length-map c.loop-r.seats seated));
      giver = can.giver;
      taker = can.taker;
      ring = can.one;
    }

pub loop-r-preserved : goal.loop-r-preserved
loop-r-preserved c =
    let n : ℕ = c.loop-r.r in
    let ring : RingSpec = c.index-rings-r.result in
    let at : slice_get c.args.rings.now n ≡ Some ring = slice_get_read c.args.rings.now (length c.args.rings.now) n ring refl c.loop-r-test.true c.index-rings-r.is in
    next_met (crew_of c.args.seats.now) (crew_of c.loop-r.seats) (crew_of c.meet_at.new.seats) c.args.places.now c.args.ends.now c.args.rings.now n ring (record { seat = 0; part = 0 }) (record { giver = 0; taker = 0 })
    at c.loop-r.invariant c.meet_at.ensures

pub returns : goal.returns
returns c = all_met (crew_of c.args.seats.now) (crew_of c.loop-r.seats) c.args.places.now c.args.ends.now c.args.rings.now c.loop-r.r (omega arith) c.loop-r.invariant
