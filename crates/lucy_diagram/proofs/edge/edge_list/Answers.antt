use Rattle.std.proofs.Common.{◌≡◌, ◌+◌, ◌++◌, drop, ap, sym, ◌∙◌, append_assoc}
use Rattle.lucy_word.proofs.Lists.{drop_next}
use Rattle.lucy_diagram.specs.Drawn.{edges_from}
use Rattle.lucy_diagram.proofs.edge.edge_list.Goals as goal

pub each-preserved : goal.each-preserved
each-preserved c =
    let l = c.each in
    let n = c.args.node.now in
    let all = c.list-entry-items.result.now in
    let next = drop_next all l.i c.entry-item.result c.each-test.true c.entry-item.is in
    ap (λ es. es ++ edges_from n (l.i + 1 + 1) (drop (l.i + 1) all)) c.in_ok-put_edges.ensures ∙ append_assoc l.edges.items _ _
    ∙ ap (λ es. l.edges.items ++ edges_from n (l.i + 1) es) (sym next) ∙ l.invariant
