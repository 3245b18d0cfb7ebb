use Rattle.std.proofs.Common.{◌≡◌, refl, subst, length, arith}
use Rattle.std.proofs.lemmas.Option.{slice_get_read}
use Rattle.lucy_flat.specs.Assembly.{AreRingsHeldSoFar, reads_count}
use Rattle.lucy_flat.proofs.HeldLaws.{held_first, held_next, held_all}
use Rattle.lucy_flat.proofs.assemble.hold_rings.Goals as goal

pub each-init : goal.each-init
each-init c = held_first c.args.drafts.now c.args.to c.args.held.now c.requires.before

pub each-preserved : goal.each-preserved
each-preserved c =
    let next = c.in_ok-hold_ring.ensures.ok c.each.invariant.rings c.each.invariant.holds in
    held_next c.args.drafts.now c.args.to c.each.operand c.each.held c.hold_ring.new.held next.ring c.each.invariant next.is next.holds

pub returns-clause-ok : goal.returns-clause-ok
returns-clause-ok c =
    let drafts = c.args.drafts.now in
    let there = slice_get_read drafts (length drafts) c.args.to c.index-drafts-to.result refl c.requires.to c.index-drafts-to.is in
    let len = c.len-count.ensures in
    let low = c.each-test.false in
    let high = c.each.auto.operand-end in
    let n : c.each.operand ≡ reads_count c.index-drafts-to.result = omega arith in
    held_all drafts c.args.to c.index-drafts-to.result c.args.held.now c.each.held there c.requires.before c.words_are_stored.ensures (subst (λ k. AreRingsHeldSoFar drafts c.args.to k c.each.held) n c.each.invariant)
