use Rattle.std.proofs.Common.{suc, get_or}
use Rattle.lucy_need.specs.Meeting.{assigned}
use Rattle.lucy_tight.proofs.BufferLaws.{place_here, sizes_more}
use Rattle.lucy_tight.proofs.measuring.sizes_at.Goals as goal

pub size_at-requires-clause-buffer : goal.size_at-requires-clause-buffer
size_at-requires-clause-buffer c =
    let l = c.each in
    let list = c.list-place-items.result.now in
    let at = place_here c.args.node.now l.place-index list c.list-place-items.ensures c.each-test.true in
    let own = c.requires.numbered (suc l.place-index) (get_or list l.place-index 0) at in
    (suc l.place-index, own.0, own.1)

pub each-preserved : goal.each-preserved
each-preserved c =
    let l = c.each in
    let list = c.list-place-items.result.now in
    let at = place_here c.args.node.now l.place-index list c.list-place-items.ensures c.each-test.true in
    sizes_more c.args.node.now (assigned c.args.words.now) l.sizes.items c.push.new.sizes.items l.place-index (get_or list l.place-index 0) c.size_at.result at l.invariant.0 l.invariant.1 c.in_ok-push.ensures
    c.size_at.ensures
