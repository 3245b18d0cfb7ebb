use Rattle.std.proofs.Common.{◌≡◌, ◌-◌, ap, sym, subst, ◌∙◌, ◌++◌, arith}
use Rattle.std.specs.Prelude.{slice_get}
use Rattle.std.proofs.lemmas.Option.{same_Some}
use Rattle.lucy_tree.specs.View.{program_tree}
use Rattle.lucy_place.specs.declared.placed.PlacedNode.{PlacedNode}
use Rattle.lucy_graphviz.specs.Nets.{net_text}
use Rattle.lucy_graphviz.proofs.NetLaws.{few_actors}
use Rattle.lucy_graphviz.proofs.print.instances.put_program.Goals as goal

pub put_main-requires-clause-few : goal.put_main-requires-clause-few
put_main-requires-clause-few c =
    let a = c.requires in
    omega (arith, few_actors a.0 a.1 a.2 c.args.accepted.now a.3)

pub returns : goal.returns
returns c = λ n e.
    let a = c.args.accepted.now in
    let found : PlacedNode = c.node-found.result.now in
    let same : found ≡ n = same_Some found n (sym c.node-found.ensures.is ∙ ap (λ k. slice_get a.placed.nodes (k - 1)) c.nodes-main.ensures.count ∙ e) in
    c.in_ok-put_main.ensures ∙ ap (λ name. c.args.out.now.items ++ net_text (program_tree c.args.program.now) a name) (c.bytes.ensures ∙ ap (λ (m : PlacedNode). m.name.text) same)
