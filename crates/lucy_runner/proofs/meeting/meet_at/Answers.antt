use Rattle.std.proofs.Common.{◌≡◌, ◌<◌, List, length, get_or, ap, sym, ◌∙◌, arith}
use Rattle.lucy_runner.specs.declared.seat.Seat.{Seat}
use Rattle.lucy_runner.specs.Crews.{seated, crew_of}
use Rattle.lucy_runner.specs.Seats.{parts_at}
use Rattle.lucy_runner.proofs.SeatLaws.{parts_are, left_parts, right_parts, has_giver, has_taker, one_ring, own_met, left_met, right_met}
use Rattle.lucy_runner.proofs.meeting.meet_at.Goals as goal

pub meet_own-requires : goal.meet_own-requires
meet_own-requires c =
    let seats : List Seat = c.args.seats.now in
    let d : Seat = c.index-seats-from.result in
    let from : parts_at (crew_of seats) c.args.from ≡ seated (get_or seats c.args.from d) = parts_are seats c.args.from d c.requires.seats.0 in
    let to : parts_at (crew_of seats) c.args.to ≡ seated (get_or seats c.args.from d) = ap (parts_at (crew_of seats)) (sym c.if-from-to.true) ∙ from in
    record {
      giver = has_giver _ _ c.args.giver from c.requires.giver;
      taker = has_taker _ _ c.args.taker to c.requires.taker;
      ring = one_ring _ _ _ _ c.args.giver c.args.taker from to c.requires.ring;
    }

pub meet_between-requires : goal.meet_between-requires
meet_between-requires c =
    let seats : List Seat = c.args.seats.now in
    let l : List Seat = c.split_at_mut-left.result.0.now in
    let r : List Seat = c.split_at_mut-left.result.1.now in
    let len : length l ≡ c.args.to = c.split_at_mut-left.ensures.front_len in
    let less : c.args.from < c.args.to = c.if-from-to-2.true in
    let from : parts_at (crew_of seats) c.args.from ≡ seated (get_or l c.args.from c.index-left-from.result) =
    left_parts seats l r c.args.from c.index-left-from.result c.split_at_mut-left.ensures.value (omega arith) in
    let to : parts_at (crew_of seats) c.args.to ≡ seated (get_or r 0 c.index-right-0.result) = right_parts seats l r c.args.to c.index-right-0.result c.split_at_mut-left.ensures.value len c.requires.seats.1 in
    record {
      giver = has_giver _ _ c.args.giver from c.requires.giver;
      taker = has_taker _ _ c.args.taker to c.requires.taker;
      ring = one_ring _ _ _ _ c.args.giver c.args.taker from to c.requires.ring;
    }

pub meet_between-requires-else-from-to-2 : goal.meet_between-requires-else-from-to-2
meet_between-requires-else-from-to-2 c =
    let seats : List Seat = c.args.seats.now in
    let cut = c.split_at_mut-left-else-from-to-2 in
    let l : List Seat = cut.result.0.now in
    let r : List Seat = cut.result.1.now in
    let len : length l ≡ c.args.from = cut.ensures.front_len in
    let less : c.args.to < c.args.from = omega (arith, c.if-from-to.false, c.if-from-to-2.false) in
    let from : parts_at (crew_of seats) c.args.from ≡ seated (get_or r 0 c.index-right-0-else-from-to-2.result) = right_parts seats l r c.args.from c.index-right-0-else-from-to-2.result cut.ensures.value len c.requires.seats.0 in
    let to : parts_at (crew_of seats) c.args.to ≡ seated (get_or l c.args.to c.index-left-to.result) = left_parts seats l r c.args.to c.index-left-to.result cut.ensures.value (omega arith) in
    record {
      giver = has_giver _ _ c.args.giver from c.requires.giver;
      taker = has_taker _ _ c.args.taker to c.requires.taker;
      ring = one_ring _ _ _ _ c.args.giver c.args.taker from to c.requires.ring;
    }

pub returns-then-from-to : goal.returns-then-from-to
returns-then-from-to c =
    let seats : List Seat = c.args.seats.now in
    let d : Seat = c.index-seats-from.result in
    let y : Seat = record (get_or seats c.args.from d) { worker = c.meet_own.new.self } in
    own_met seats c.args.from c.args.to c.args.giver c.args.taker d y c.if-from-to.true c.requires.seats.0 c.meet_own.ensures.met

pub returns-then-from-to-2 : goal.returns-then-from-to-2
returns-then-from-to-2 c =
    let seats : List Seat = c.args.seats.now in
    let cut = c.split_at_mut-left in
    let l : List Seat = cut.result.0.now in
    let r : List Seat = cut.result.1.now in
    let d : Seat = c.index-left-from.result in
    let e : Seat = c.index-right-0.result in
    let x : Seat = record (get_or l c.args.from d) { worker = c.meet_between.new.first } in
    let y : Seat = record (get_or r 0 e) { worker = c.meet_between.new.second } in
    left_met seats l r c.args.from c.args.to c.args.giver c.args.taker d e x y cut.ensures.value cut.ensures.front_len c.if-from-to-2.true c.requires.seats.1 c.meet_between.ensures.met

pub returns-else-from-to-2 : goal.returns-else-from-to-2
returns-else-from-to-2 c =
    let seats : List Seat = c.args.seats.now in
    let cut = c.split_at_mut-left-else-from-to-2 in
    let l : List Seat = cut.result.0.now in
    let r : List Seat = cut.result.1.now in
    let d : Seat = c.index-right-0-else-from-to-2.result in
    let e : Seat = c.index-left-to.result in
    let x : Seat = record (get_or r 0 d) { worker = c.meet_between-else-from-to-2.new.first } in
    let y : Seat = record (get_or l c.args.to e) { worker = c.meet_between-else-from-to-2.new.second } in
    let less : c.args.to < c.args.from = omega (arith, c.if-from-to.false, c.if-from-to-2.false) in
    right_met seats l r c.args.from c.args.to c.args.giver c.args.taker d e x y cut.ensures.value cut.ensures.front_len less c.requires.seats.0 c.meet_between-else-from-to-2.ensures.met
