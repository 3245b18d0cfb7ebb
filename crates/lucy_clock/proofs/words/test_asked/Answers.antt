use Rattle.std.proofs.Common.{◌≡◌, true, false, sym, ◌∙◌}
use Rattle.lucy_clock.proofs.ReaderLaws.{index_read}
use Rattle.lucy_clock.proofs.LastLaws.{asked_from, asked_to}
use Rattle.lucy_clock.proofs.words.test_asked.Goals as goal

pub test_next-requires-clause-asked : goal.test_next-requires-clause-asked
test_next-requires-clause-asked c =
    let n = c.args.node.now in
    let here = index_read c.list.result.now n.places c.args.i c.index-list-i.result c.list.ensures c.requires.within c.index-list-i.is in
    asked_from n c.args.lasts.now c.args.i c.index-list-i.result here (c.asks.ensures.0 c.if-asks.true)

pub pass_next-requires-clause-unasked : goal.pass_next-requires-clause-unasked
pass_next-requires-clause-unasked c = λ asked.
    let n = c.args.node.now in
    let here = index_read c.list.result.now n.places c.args.i c.index-list-i.result c.list.ensures c.requires.within c.index-list-i.is in
    let asks = c.asks.ensures.1 (asked_to n c.args.lasts.now c.args.i c.index-list-i.result here asked) in
    let e : true ≡ false = sym asks ∙ c.if-asks.false in
    cc e
