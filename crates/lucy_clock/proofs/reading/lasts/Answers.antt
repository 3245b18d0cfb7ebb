use Rattle.std.proofs.Common.{ap, length, sym, subst, arith}
use Rattle.lucy_word.proofs.Lists.{written_back}
use Rattle.lucy_clock.specs.Reading.{AreLasts}
use Rattle.lucy_clock.proofs.reading.lasts.Goals as goal

pub returns-clause-lasts : goal.returns-clause-lasts
returns-clause-lasts c =
    let a = c.mark_lasts.ensures.size in
    let b = c.in_ok-list.ensures.len in
    let d = c.in_ok-list.list.ok in
    let len = ap length c.list.ensures in
    subst (AreLasts c.args.node.now) (sym (written_back c.in_ok-list.list.len c.mark_lasts.new.lasts c.in_ok-list.list.items (omega arith) (omega arith))) c.mark_lasts.ensures.lasts
