use Rattle.std.proofs.Common.{◌+◌, get_or, subst, sym, arith}
use Rattle.std.proofs.lemmas.Option.{slice_get-get_or}
use Rattle.lucy_types.specs.declared.ty.Ty.{Ty}
use Rattle.lucy_types.specs.declared.ty.Ty.TheVariants as ty
use Rattle.lucy_types.proofs.HeadLaws.{HaveSeats, has_seat, seats_more, seats_heads}
use Rattle.lucy_types.proofs.signature.heads.Goals as goal

pub seat-head-requires-clause-class : goal.seat-head-requires-clause-class
seat-head-requires-clause-class c =
    has_seat c.args.most c.args.ports.now c.each.i c.each.seats.items (get_or c.args.ports.now c.each.i ty.Int) c.requires.classes c.each.invariant.all
    (slice_get-get_or c.args.ports.now c.each.i ty.Int c.each-test.true)

pub each-preserved : goal.each-preserved
each-preserved c =
    let t : Ty = get_or c.args.ports.now c.each.i ty.Int in
    let stands = slice_get-get_or c.args.ports.now c.each.i ty.Int c.each-test.true in
    subst (λ hs. HaveSeats c.args.most c.args.ports.now (c.each.i + 1) c.seat-head.new.seats.items hs) (sym c.in_ok-push.ensures.items)
    (seats_more c.args.most c.args.ports.now c.each.i c.each.seats.items c.each.list.items c.seat-head.new.seats.items c.seat-head.result t c.each.invariant
    (has_seat c.args.most c.args.ports.now c.each.i c.each.seats.items t c.requires.classes c.each.invariant.all stands) stands c.seat-head.ensures)

pub returns : goal.returns
returns c = seats_heads c.args.most c.args.ports.now c.each.i c.each.seats.items c.each.list.items c.each-test.false (omega arith) c.each.invariant
