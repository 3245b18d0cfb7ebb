use Rattle.std.proofs.Common.{◌+◌, ◌≡◌, ◌≤◌, false, get_or, sym, arith}
use Rattle.lucy_word.specs.Bits.{one_if}
use Rattle.lucy_word.proofs.BitsLaws.{ones_to-none, one_most}
use Rattle.lucy_svg.proofs.OneLaws.{mark_is, counts_more, counts_all}
use Rattle.lucy_svg.proofs.ones.counts.Goals as goal

pub each-init : goal.each-init
each-init c = (omega arith, λ w shown made. (sym (ones_to-none w), c.new-counts.ensures.items))

pub each-preserved : goal.each-preserved
each-preserved c =
    let i = c.each.i in
    let mark = get_or c.args.marks.now i false in
    let before : c.each.count ≤ i = c.each.invariant.0 in
    let most : one_if mark ≤ 1 = one_most mark in
    let step : c.counted-count.result ≡ c.each.count + one_if mark = c.counted-count.ensures in (
      omega arith,
      λ w shown made.
          let h = c.each.invariant.1 w shown made in
          counts_more w i c.each.count c.counted-count.result mark _ _ h.0 h.1
          (mark_is c.args.marks.now w shown i false made (omega arith)) step c.in_ok-push.ensures,
    )

pub returns : goal.returns
returns c = λ w shown made. counts_all c.args.marks.now w shown c.each.i _ made (omega arith) (c.each.invariant.1 w shown made).1
