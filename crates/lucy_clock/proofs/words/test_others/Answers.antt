use Rattle.std.proofs.Common.{◌≡◌, ◌+◌, length, ap, sym, subst, arith}
use Rattle.lucy_need.specs.Meeting.{word_bits}
use Rattle.lucy_clock.specs.Reading.{AreHandedSoFar, AreLasts, AreKeptSoFar}
use Rattle.lucy_clock.proofs.KeptLaws.{kept_first}
use Rattle.lucy_clock.proofs.words.test_others.Goals as goal

pub each-init : goal.each-init
each-init c =
    let size = c.args.first.ok in
    let len = c.len-i.ensures in
    let count = c.requires.first.far.count in
    kept_first c.args.node.now c.in_ok-lasts.lasts.items c.args.first.items _ c.requires.first (omega arith)

pub test_asked-requires-clause-lasts : goal.test_asked-requires-clause-lasts
test_asked-requires-clause-lasts c = subst (AreLasts c.args.node.now) (sym c.deref.ensures.value) c.in_ok-lasts.ensures.lasts

pub test_asked-requires-clause-kept : goal.test_asked-requires-clause-kept
test_asked-requires-clause-kept c =
    let least = word_bits c.args.first.items in (
      least,
      subst (λ lasts. AreKeptSoFar c.args.node.now lasts c.each.i least c.each.words.items) (sym c.deref.ensures.value) c.each.invariant,
    )

pub each-preserved : goal.each-preserved
each-preserved c =
    let n = c.args.node.now in
    let least = word_bits c.args.first.items in
    let before = subst (λ lasts. AreKeptSoFar n lasts c.each.i least c.each.words.items) (sym c.deref.ensures.value) c.each.invariant in
    subst (λ lasts. AreKeptSoFar n lasts (c.each.i + 1) least c.test_asked.new.words.items) c.deref.ensures.value
    (c.in_ok-test_asked.ensures.ok least before)

pub returns-clause-ok : goal.returns-clause-ok
returns-clause-ok c =
    let count = ap length c.list-count.ensures in
    let first = c.requires.first.far.count in
    let within = c.requires.first.within in
    let size = c.args.first.ok in
    let len = c.len-i.ensures in
    let most = c.each.auto.i-end in
    let end = c.each-test.false in
    let words = c.each.invariant.words in
    let e : c.each.i ≡ length c.args.node.now.places = omega arith in
    (words, subst (λ k. AreHandedSoFar c.args.node.now k words) e c.each.invariant.far, c.each.invariant.most)
