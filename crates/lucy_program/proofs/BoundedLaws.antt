-- The sizes of an accepted program are at most the bounds that are written.
use Rattle.std.proofs.Common.{ℕ, zero, suc, List, subst, arith}
use Rattle.std.proofs.lemmas.Option.{slice_get_within}
use Rattle.lucy_host.specs.Operators.{Operator}
use Rattle.lucy_host.proofs.Elements.{get_there}
use Rattle.lucy_need.specs.Meeting.{assigned}
use Rattle.lucy_clock.specs.WellClocked.{KeepsBound}
use Rattle.lucy_clock.proofs.BoundLaws.{size_bounded}
use Rattle.lucy_program.specs.declared.options.Options.{Options}
use Rattle.lucy_program.specs.declared.accepted.Accepted.{Accepted}
use Rattle.lucy_program.specs.Accepting.{IsAccepted}
use Rattle.lucy_program.specs.Report.{AreBounded}
use Rattle.lucy_program.proofs.AcceptedLaws.{text_proper}

pub bounded : (ops : List Operator) (o : Options) (text : List ℕ) (a : Accepted) → IsAccepted ops o text a → AreBounded a.placed.nodes a.clocks.items
bounded ops o text a is i zero most size n c at of bound sized = cc bound
bounded ops o text a is i (suc j) most size n c at of bound sized =
    let clocked = is.clocked.clocks.each i n c at of in
    let proper = text_proper ops o text a.placed is.clocked.program.program i n at in
    let there = slice_get_within c.sizes j size sized in
    let place = get_there n.buffers j (omega (arith, there, clocked.sizes.count)) in
    let buffer = proper.buffers (suc j) place.0 place.1 in
    let keeps = subst (λ b. KeepsBound b (assigned c.words buffer.0) (assigned c.words place.0)) bound (clocked.well.bounds place.0 (suc j) buffer.0 buffer.1) in
    size_bounded (assigned c.words buffer.0) (assigned c.words place.0) most size keeps (clocked.sizes.each j place.0 (suc j) buffer.0 size place.1 sized buffer.1)
