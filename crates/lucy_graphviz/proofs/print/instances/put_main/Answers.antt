use Rattle.std.proofs.Common.{◌∙◌, sym}
use Rattle.lucy_tree.specs.View.{program_tree}
use Rattle.lucy_graphviz.proofs.NetLaws.{net_is}
use Rattle.lucy_graphviz.proofs.print.instances.put_main.Goals as goal

pub returns : goal.returns
returns c =
    net_is (program_tree c.args.program.now) c.args.accepted.now c.args.name.now c.args.main c.in_ok-next.next c.deref.result.now c.args.out.now.items c.put_head.new.out.items c.put_instance.new.out.items
    c.put_outputs.new.out.items c.put_rings.new.out.items c.put.new.out.items c.requires.main c.in_ok-next.ensures.next c.deref.ensures.value c.in_ok-put_head.ensures c.in_ok-next.ensures.text
    c.in_ok-put_outputs.ensures c.in_ok-put_rings.ensures c.in_ok-put.ensures
