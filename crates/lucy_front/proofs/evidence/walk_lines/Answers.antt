use Rattle.std.proofs.Common.{length, get_or, refl}
use Rattle.std.proofs.lemmas.Option.{slice_get_read}
use Rattle.lucy_word.proofs.Lists.{three}
use Rattle.lucy_front.proofs.LineLaws.{walk_more, below_at}
use Rattle.lucy_front.proofs.evidence.walk_lines.Goals as goal

pub each-preserved : goal.each-preserved
each-preserved c =
    let l = c.each in
    let walk = c.args.walk.now in
    let needs = c.args.needs.now in
    let low = below_at (length needs) walk l.need-index c.requires c.each-test.true in
    let at = slice_get_read needs (length needs) (get_or walk l.need-index 0) c.index-needs-need.result refl low c.index-needs-need.is in
    walk_more c.args.node.now needs walk l.need-index c.index-needs-need.result l.lines.items c.bytes-in-each.new.out.items _ c.each-test.true at
    (three l.lines.items c.bytes.new.out.items c.need_text.new.out.items c.bytes-in-each.new.out.items _ _ _ c.in_ok-bytes.ensures c.in_ok-need_text.ensures c.in_ok-bytes-2.ensures) l.invariant
