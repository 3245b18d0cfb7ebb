use Rattle.std.proofs.Common.{sym, refl, subst, length, inr}
use Rattle.std.proofs.lemmas.Option.{slice_get_read}
use Rattle.std.proofs.lemmas.Result.{on_ok_weaker, IfErr-weaker}
use Rattle.lucy_word.specs.Stored.{IsStored}
use Rattle.lucy_flat.specs.declared.draft.Draft.{Draft}
use Rattle.lucy_flat.specs.Assembly.{IsReadThere}
use Rattle.lucy_flat.proofs.UnmadeRings.{ring_held}
use Rattle.lucy_flat.proofs.assemble.hold_ring.Goals as goal

pub test_read-requires : goal.test_read-requires
test_read-requires c =
    c.requires.ready.kinds c.args.to c.index-drafts-to.result (slice_get_read c.args.drafts.now (length c.args.drafts.now) c.args.to c.index-drafts-to.result refl c.requires.to c.index-drafts-to.is)

pub returns-then-is_past-clause-ok : goal.returns-then-is_past-clause-ok
returns-then-is_past-clause-ok c = λ rings holds.
    let taker = c.index-drafts-to.result in
    let drafts = c.args.drafts.now in
    let there = slice_get_read drafts (length drafts) c.args.to taker refl c.requires.to c.index-drafts-to.is in
    let giver = c.index-drafts-from.result in
    let source = c.index-from.result.now in
    let got = slice_get_read taker.reads.items (length taker.reads.items) c.args.operand source refl (c.requires.operand taker there) c.index-from.ensures in
    let gives = slice_get_read drafts (length drafts) source giver refl (c.requires.ready.reads c.args.to c.args.operand source taker there got) c.index-drafts-from.is in
    let write = subst (λ (d : Draft). IsStored d.word) (sym c.index-drafts-from.is) c.test_read.ensures.stored in
    on_ok_weaker c.test_read.result
    (λ read. ring_held drafts c.args.to c.args.operand source taker giver rings c.args.held.now there got gives (subst (λ (d : Draft). IsReadThere taker.kind c.args.operand taker.word d.word) (sym c.index-drafts-from.is) read) write holds
    (c.is_past.ensures.0 c.if-is_past.true))
    c.test_read.ensures.ok

pub returns-then-is_past-clause-refused : goal.returns-then-is_past-clause-refused
returns-then-is_past-clause-refused c =
    let taker = c.index-drafts-to.result in
    let there = slice_get_read c.args.drafts.now (length c.args.drafts.now) c.args.to taker refl c.requires.to c.index-drafts-to.is in
    IfErr-weaker c.test_read.result _ _
    (λ e why. inr (why.0, record { a = c.args.to; draft = taker; there = there; operand = c.args.operand; within = c.requires.operand taker there; too_long = why.1 }))
    c.test_read.ensures.refused

pub returns-clause-ok : goal.returns-clause-ok
returns-clause-ok c = λ rings holds.
    on_ok_weaker c.hold.result (λ more. record { ring = c.in_ok-next.next; is = λ from draft e f. c.in_ok-next.ensures.ok draft from e f; holds = more }) (c.hold.ensures.ok rings holds)
