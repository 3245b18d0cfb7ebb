use Rattle.std.specs.Prelude.{codes}
use Rattle.std.specs.Fmt.{decimal}
use Rattle.std.proofs.lemmas.Result.{on_ok_weaker}
use Rattle.lucy_word.proofs.Lists.{five}
use Rattle.lucy_tight.proofs.report.put_less.Goals as goal

pub returns : goal.returns
returns c =
    on_ok_weaker c.bytes-3.result (λ last.
    five c.args.out.now.items c.bytes.new.out.items c.number.new.out.items
    c.bytes-2.new.out.items c.number-2.new.out.items c.bytes-3.new.out.items
    (codes "no size ") (decimal c.args.less) (codes " for period ") (decimal c.args.period) (codes "\n")
    c.in_ok-bytes.ensures c.in_ok-number.ensures c.in_ok-bytes-2.ensures c.in_ok-number-2.ensures last)
    c.bytes-3.ensures
