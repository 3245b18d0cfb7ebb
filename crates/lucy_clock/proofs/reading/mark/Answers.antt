use Rattle.std.proofs.Common.{◌-◌, ℕ, take, refl, sym, subst, arith}
use Rattle.std.specs.Prelude.{slice_index_or, slice_set}
use Rattle.std.proofs.lemmas.List.{take_more}
use Rattle.std.proofs.lemmas.Option.{slice_get-get_or}
use Rattle.lucy_clock.specs.Reading.{Marks}
use Rattle.lucy_clock.proofs.MarkLaws.{marks_push}
use Rattle.lucy_clock.proofs.reading.mark.Goals as goal

pub overflow_sub-readers : goal.overflow_sub-readers
overflow_sub-readers c =
    (c.requires (slice_index_or c.args.operands.now c.each.operand-index 0) (c.each.operand-index, slice_get-get_or c.args.operands.now c.each.operand-index 0 c.each-test.true)).0

pub bounds-readers-operand : goal.bounds-readers-operand
bounds-readers-operand c =
    let b = c.requires (slice_index_or c.args.operands.now c.each.operand-index 0) (c.each.operand-index, slice_get-get_or c.args.operands.now c.each.operand-index 0 c.each-test.true) in
    let low = b.0 in
    let high = b.1 in
    let len = c.each.invariant.len in
    omega arith

pub each-preserved : goal.each-preserved
each-preserved c =
    let x : ℕ = slice_index_or c.args.operands.now c.each.operand-index 0 in
    let b = c.requires x (c.each.operand-index, slice_get-get_or c.args.operands.now c.each.operand-index 0 c.each-test.true) in
    let low = b.0 in
    let high = b.1 in
    let len = c.each.invariant.len in
    subst (λ ops. Marks c.args.place ops c.args.readers.now (slice_set c.each.readers (x - 1) c.args.place)) (sym (take_more c.args.operands.now c.each.operand-index 0 c.each-test.true))
    (marks_push c.args.place (take c.each.operand-index c.args.operands.now) c.args.readers.now c.each.readers (slice_set c.each.readers (x - 1) c.args.place) x c.each.invariant (omega arith) refl)
