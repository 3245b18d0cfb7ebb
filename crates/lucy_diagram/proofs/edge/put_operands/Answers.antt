use Rattle.std.proofs.Common.{◌≡◌, ◌+◌, ◌++◌, ℕ, List, drop, ap, sym, ◌∙◌, append_assoc}
use Rattle.std.proofs.lemmas.List.{at_drop_more}
use Rattle.lucy_diagram.specs.Drawn.{edges_at}
use Rattle.lucy_diagram.proofs.edge.put_operands.Goals as goal

pub each-preserved : goal.each-preserved
each-preserved c =
    let l = c.each in
    let late = c.args.late in
    let to = c.args.to in
    let further = λ (operands : List ℕ). l.edges.items ++ edges_at late to l.seat operands in
    ap (λ es. es ++ edges_at late to (l.seat + 1) (drop (l.seat + 1) c.args.operands.now)) c.in_ok-push.ensures.items ∙ append_assoc l.edges.items _ _
    ∙ sym (at_drop_more further c.args.operands.now l.seat 0 c.each-test.true) ∙ l.invariant
