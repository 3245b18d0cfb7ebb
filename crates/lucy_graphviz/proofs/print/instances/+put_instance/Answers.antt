use Rattle.std.proofs.Common.{suc, ◌≡◌, ◌+◌, ◌<◌, ◌≤◌, ◌++◌, Some, length, drop, ap, sym, refl, ◌∙◌, arith}
use Rattle.std.specs.Prelude.{slice_get}
use Rattle.lucy_tree.specs.View.{program_tree}
use Rattle.lucy_place.specs.declared.entry.CallSite.{CallSite}
use Rattle.lucy_place.specs.declared.placed.PlacedNode.{PlacedNode}
use Rattle.lucy_place.specs.Standing.{at_one}
use Rattle.lucy_types.proofs.ListLaws.{taken}
use Rattle.lucy_kahn.proofs.Tables.{calls_below}
use Rattle.lucy_graphviz.specs.Nets.{frames_text, instance_text}
use Rattle.lucy_graphviz.proofs.NetLaws.{size_is, size_more, size_none, frame_more, instance_whole}
use Rattle.lucy_graphviz.proofs.print.instances.+put_instance.Goals as goal

pub put_actors-requires-clause-few : goal.put_actors-requires-clause-few
put_actors-requires-clause-few t c =
    let n : PlacedNode = c.node-found.result.now in
    let nodes = c.args.accepted.now.placed.nodes in
    let below = calls_below nodes c.args.node n (c.requires.proper c.args.node n c.node-found.ensures.is) in
    omega (arith, size_is nodes c.args.node n c.node-found.ensures.is below, c.requires.few)

pub overflow_add-next : goal.overflow_add-next
overflow_add-next t c =
    let n : PlacedNode = c.node-found.result.now in
    let nodes = c.args.accepted.now.placed.nodes in
    let below = calls_below nodes c.args.node n (c.requires.proper c.args.node n c.node-found.ensures.is) in
    let places = ap length c.list.ensures in
    omega (arith, size_is nodes c.args.node n c.node-found.ensures.is below, c.requires.few)

pub each-init : goal.each-init
each-init t c =
    let n : PlacedNode = c.node-found.result.now in
    let nodes = c.args.accepted.now.placed.nodes in
    let below = calls_below nodes c.args.node n (c.requires.proper c.args.node n c.node-found.ensures.is) in
    let places = ap length c.list.ensures in record {
      text = refl;
      next = omega (arith, size_is nodes c.args.node n c.node-found.ensures.is below);
    }

pub put_instance-requires : goal.put_instance-requires
put_instance-requires t c =
    let decreases = c.decreases in
    let nodes = c.args.accepted.now.placed.nodes in
    let n : PlacedNode = c.node-found.result.now in
    let i = c.each.i in
    let site : CallSite = c.site_at-site.result.now in
    let same : i + 1 ≡ suc i = omega arith in
    let at : slice_get n.calls i ≡ Some site = ap (at_one n.calls) (sym same) ∙ c.site_at-site.ensures in
    let more = size_more nodes n.calls i site at in
    let call = c.node-found.ensures.proper.calls (i + 1) site c.site_at-site.ensures in
    let above : site.node < c.args.node = (taken c.args.node nodes site.node call.callee call.found).0 in
    (omega (arith, above, decreases), (c.requires.proper, (omega (arith, above, c.requires.node), omega (arith, more, c.each.invariant.next, c.requires.few))))

pub each-preserved : goal.each-preserved
each-preserved t c =
    let n : PlacedNode = c.node-found.result.now in
    let a = c.args.accepted.now in
    let program = program_tree c.args.program.now in
    let i = c.each.i in
    let site : CallSite = c.site_at-site.result.now in
    let same : i + 1 ≡ suc i = omega arith in
    let at : slice_get n.calls i ≡ Some site = ap (at_one n.calls) (sym same) ∙ c.site_at-site.ensures in
    let more = size_more a.placed.nodes n.calls i site at in
    let next = c.in_ok-after.ensures.next in
    let inner = c.in_ok-after.ensures.text ∙ ap (λ p. c.put_frame.new.out.items ++ instance_text program a site.node p c.each.next) (c.deref.ensures.value ∙ c.in_ok-inner.ensures) in record {
      text =
          ap (λ k. c.put.new.out.items ++ frames_text program a (instance_text program a) c.args.node n c.args.path.now k (i + 1 + 1) (drop (i + 1) n.calls)) next
          ∙ frame_more program a (instance_text program a) c.args.node n c.args.path.now c.each.next i n.calls site c.each.out.items c.put_frame.new.out.items _ c.put.new.out.items _ at c.in_ok-put_frame.ensures inner
          c.in_ok-put.ensures c.each.invariant.text;
      next = omega (arith, more, next, c.each.invariant.next);
    }

pub returns : goal.returns
returns t c =
    let n : PlacedNode = c.node-found.result.now in
    let nodes = c.args.accepted.now.placed.nodes in
    let at = c.node-found.ensures.is in
    let below = calls_below nodes c.args.node n (c.requires.proper c.args.node n at) in
    let places = ap length c.list.ensures in
    let calls = ap length c.list-i-end.ensures in
    let all : length n.calls ≤ c.each.i = omega arith in record {
      text =
          instance_whole (program_tree c.args.program.now) c.args.accepted.now c.args.node n c.args.path.now c.args.begin _ c.each.next c.each.i _ c.put_actors.new.out.items c.each.out.items at below (omega arith) all
          c.in_ok-put_actors.ensures c.each.invariant.text;
      next = omega (arith, size_none nodes n.calls c.each.i all, c.each.invariant.next);
    }
