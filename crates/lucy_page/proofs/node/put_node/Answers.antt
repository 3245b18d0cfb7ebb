use Rattle.lucy_page.proofs.PutLaws.{puts_node}
use Rattle.lucy_page.proofs.node.put_node.Goals as goal

pub returns : goal.returns
returns c =
    puts_node c.args.number _ c.node.result.now c.args.out.now.items c.put_begin.new.out.items c.extend_from_slice.new.self.items c.bytes.result.now c.deref.result.now
    c.node.ensures.is c.bytes.ensures c.in_ok-put_begin.ensures c.in_ok-extend_from_slice.ensures.items
