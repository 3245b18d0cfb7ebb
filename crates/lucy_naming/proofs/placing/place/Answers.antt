use Rattle.std.proofs.Common.{◌≡◌, ◌<◌, ◌≤◌, length, map, ap, sym, ◌∙◌, subst, arith}
use Rattle.std.proofs.lemmas.List.{length-map}
use Rattle.lucy_tree.specs.Shaped.{IsShapedProgram}
use Rattle.lucy_tree.specs.View.{ProgramTree, node_tree, program_tree}
use Rattle.lucy_word.specs.Limits.{limit_number}
use Rattle.lucy_word.specs.declared.limit.Limit.TheVariants as limit
use Rattle.lucy_word.proofs.Results.{leaves}
use Rattle.lucy_place.specs.Proper.{HaveOperators}
use Rattle.lucy_naming.specs.Faults.{faults}
use Rattle.lucy_naming.specs.Nodes.{placed_nodes}
use Rattle.lucy_naming.specs.Written.{first_unwritten}
use Rattle.lucy_naming.specs.Placing.{TellsFirstFault}
use Rattle.lucy_naming.proofs.VerdictLaws.{accepted_by, rejected_by, out_of}
use Rattle.lucy_naming.proofs.NodesLaws.{placed_exactly}
use Rattle.lucy_naming.proofs.ProgramLaws.{placed_length, placed_sound}
use Rattle.lucy_naming.proofs.placing.place.Goals as goal

pub all_nodes-requires-clause-shaped : goal.all_nodes-requires-clause-shaped
all_nodes-requires-clause-shaped c = subst (λ ns. IsShapedProgram (map node_tree ns)) (sym c.list-nodes.ensures) c.requires.shaped

pub returns-in_err-all_nodes-clause-refused : goal.returns-in_err-all_nodes-clause-refused
returns-in_err-all_nodes-clause-refused c =
    let told : TellsFirstFault (faults c.args.ops.now (program_tree c.args.program.now)) c.in_err-all_nodes.field-0.0 =
    subst (λ ns. TellsFirstFault (faults c.args.ops.now (map node_tree ns)) c.in_err-all_nodes.field-0.0) c.list-nodes.ensures c.in_err-all_nodes.ensures.refused in
    leaves (TellsFirstFault (faults c.args.ops.now (program_tree c.args.program.now))) _ c.in_err-all_nodes.field-0.0 c.from_residual.result c.from_residual.ensures.1 told (λ y h. h)

pub returns-in_err-all_nodes-clause-accepted : goal.returns-in_err-all_nodes-clause-accepted
returns-in_err-all_nodes-clause-accepted c =
    let told : TellsFirstFault (faults c.args.ops.now (program_tree c.args.program.now)) c.in_err-all_nodes.field-0.0 =
    subst (λ ns. TellsFirstFault (faults c.args.ops.now (map node_tree ns)) c.in_err-all_nodes.field-0.0) c.list-nodes.ensures c.in_err-all_nodes.ensures.refused in
    accepted_by (faults c.args.ops.now (program_tree c.args.program.now)) c.from_residual.result c.in_err-all_nodes.field-0.0 (out_of c.from_residual.result _ c.from_residual.ensures.1) told

pub returns-in_err-all_nodes-clause-rejected : goal.returns-in_err-all_nodes-clause-rejected
returns-in_err-all_nodes-clause-rejected c =
    let told : TellsFirstFault (faults c.args.ops.now (program_tree c.args.program.now)) c.in_err-all_nodes.field-0.0 =
    subst (λ ns. TellsFirstFault (faults c.args.ops.now (map node_tree ns)) c.in_err-all_nodes.field-0.0) c.list-nodes.ensures c.in_err-all_nodes.ensures.refused in
    rejected_by (faults c.args.ops.now (program_tree c.args.program.now)) c.from_residual.result c.in_err-all_nodes.field-0.0 (out_of c.from_residual.result _ c.from_residual.ensures.1) told

pub new-requires-clause-count : goal.new-requires-clause-count
new-requires-clause-count c =
    let is = c.in_ok-all_nodes.ensures in
    let l = placed_length c.args.ops.now (map node_tree c.list-nodes.result.now) c.all_nodes.new.list.items c.all_nodes.new.spans.items is.list is.spans in
    omega (arith, l.0, l.1)

pub new-requires-clause-some : goal.new-requires-clause-some
new-requires-clause-some c =
    let nodes = c.list-nodes.result.now in
    let is = c.in_ok-all_nodes.ensures in
    let l = placed_length c.args.ops.now (map node_tree nodes) c.all_nodes.new.list.items c.all_nodes.new.spans.items is.list is.spans in
    let same : length nodes ≡ length c.args.program.now.nodes = ap length c.list-nodes.ensures in
    let some : 0 < length (program_tree c.args.program.now) = c.requires.shaped.some in
    omega (arith, l.0, length-map nodes node_tree, some, same, length-map c.args.program.now.nodes node_tree)

pub new-requires-clause-few : goal.new-requires-clause-few
new-requires-clause-few c =
    let nodes = c.list-nodes.result.now in
    let is = c.in_ok-all_nodes.ensures in
    let l = placed_length c.args.ops.now (map node_tree nodes) c.all_nodes.new.list.items c.all_nodes.new.spans.items is.list is.spans in
    let same : length nodes ≡ length c.args.program.now.nodes = ap length c.list-nodes.ensures in
    let few : length (program_tree c.args.program.now) ≤ limit_number limit.Nodes = c.requires.shaped.few in
    omega (arith, l.0, length-map nodes node_tree, few, same, length-map c.args.program.now.nodes node_tree)

pub new-requires-clause-proper : goal.new-requires-clause-proper
new-requires-clause-proper c =
    let is = c.in_ok-all_nodes.ensures in
    let shape = subst (λ ns. IsShapedProgram (map node_tree ns)) (sym c.list-nodes.ensures) c.requires.shaped in
    (placed_sound c.args.ops.now (map node_tree c.list-nodes.result.now) c.all_nodes.new.list.items c.all_nodes.new.spans.items is.good is.list is.spans shape).0

pub new-requires-clause-written : goal.new-requires-clause-written
new-requires-clause-written c =
    let is = c.in_ok-all_nodes.ensures in
    let shape = subst (λ ns. IsShapedProgram (map node_tree ns)) (sym c.list-nodes.ensures) c.requires.shaped in
    (placed_sound c.args.ops.now (map node_tree c.list-nodes.result.now) c.all_nodes.new.list.items c.all_nodes.new.spans.items is.good is.list is.spans shape).1

pub returns-clause-operators : goal.returns-clause-operators
returns-clause-operators c =
    let is = c.in_ok-all_nodes.ensures in
    let shape = subst (λ ns. IsShapedProgram (map node_tree ns)) (sym c.list-nodes.ensures) c.requires.shaped in
    let sound = placed_sound c.args.ops.now (map node_tree c.list-nodes.result.now) c.all_nodes.new.list.items c.all_nodes.new.spans.items is.good is.list is.spans shape in
    subst (HaveOperators (length c.args.ops.now)) (sym c.new.ensures.nodes) sound.2

pub returns-clause-ok : goal.returns-clause-ok
returns-clause-ok c =
    let is = c.in_ok-all_nodes.ensures in
    let nodes = c.new.ensures.nodes ∙ (is.list ∙ ap (λ ns. placed_nodes c.args.ops.now (map node_tree ns)) c.list-nodes.ensures) in
    let p : ProgramTree = program_tree c.args.program.now in
    record {
      good = ap (λ ns. faults c.args.ops.now (map node_tree ns)) (sym c.list-nodes.ensures) ∙ is.good;
      nodes = (placed_exactly c.args.ops.now p _).1 nodes;
      unwritten = c.new.ensures.unwritten ∙ (is.spans ∙ ap (λ ns. map first_unwritten (map node_tree ns)) c.list-nodes.ensures);
    }
