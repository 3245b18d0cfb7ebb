use Rattle.std.proofs.Common.{length, sym, subst, arith}
use Rattle.lucy_word.proofs.Lists.{written_back}
use Rattle.lucy_clock.specs.Reading.{AreReadersUpto}
use Rattle.lucy_clock.proofs.reading.readers.Goals as goal

pub returns-clause-readers : goal.returns-clause-readers
returns-clause-readers c =
    let a = c.mark_all.ensures.all in
    let b = c.in_ok-list.ensures.len in
    let d = c.in_ok-list.list.ok in
    subst (AreReadersUpto c.args.node.now (length c.args.node.now.places)) (sym (written_back c.in_ok-list.list.len c.mark_all.new.readers c.in_ok-list.list.items (omega arith) (omega arith))) c.mark_all.ensures.readers
