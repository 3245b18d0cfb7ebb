use Rattle.std.proofs.Common.{◌↔◌, ◌≡◌, Bool, false, [], map, refl, ap, sym, ◌∙◌, subst, inl, inr, true≢false}
use Rattle.std.specs.Prelude.{IsTrue}
use Rattle.lucy_word.proofs.Results.{leaves}
use Rattle.lucy_tree.specs.View.{NodeTree, node_tree, def_tree}
use Rattle.lucy_naming.specs.declared.error.NameError.TheVariants.{OutOfMemory}
use Rattle.lucy_naming.specs.Faults.{Within, verdict, def_faults, result_faults}
use Rattle.lucy_naming.specs.Placing.{TellsFirstFault}
use Rattle.lucy_naming.specs.Views.{within_of}
use Rattle.lucy_naming.proofs.VerdictLaws.{faultless}
use Rattle.lucy_naming.proofs.NodeFaults.{tells_defs, tells_results, tells_rooms, no_inner}
use Rattle.lucy_naming.proofs.placing.named_node.Goals as goal

-- the fit of a node that has more places than it may have
past_most : (b : Bool) {P : Type 0} → IsTrue b ↔ P → b ≡ false → P → ⊥
past_most b fits over p = true≢false (sym (fits.1 p) ∙ over)

pub returns-in_err-def_names-clause-refused : goal.returns-in_err-def_names-clause-refused
returns-in_err-def_names-clause-refused c =
    let w : Within = within_of c.args.names.now in
    let n : NodeTree = node_tree c.args.node.now in
    let told = ap (λ ds. verdict (def_faults w (map def_tree ds))) (sym c.list.ensures) ∙ sym c.def_names.ensures ∙ c.in_err-def_names.was in
    leaves (TellsFirstFault (def_faults w n.defs)) _ _ c.from_residual.result c.from_residual.ensures.1 (inr told) (tells_defs w n)

pub returns-in_err-results-clause-refused : goal.returns-in_err-results-clause-refused
returns-in_err-results-clause-refused c =
    let w : Within = within_of c.args.names.now in
    let n : NodeTree = node_tree c.args.node.now in
    let defined : def_faults w n.defs ≡ [] = faultless (def_faults w n.defs) (ap (λ ds. verdict (def_faults w (map def_tree ds))) (sym c.list.ensures) ∙ sym c.def_names.ensures ∙ c.in_ok-def_names.was) in
    leaves (TellsFirstFault (result_faults w.streams [] n.results)) _ _ c.from_residual-in_err-results.result c.from_residual-in_err-results.ensures.1
    (subst (λ rs. TellsFirstFault (result_faults w.streams [] rs) c.in_err-results.field-0.0) c.list-2.ensures c.in_err-results.ensures.refused) (tells_results w n defined)

pub returns-then-not-fits-clause-refused : goal.returns-then-not-fits-clause-refused
returns-then-not-fits-clause-refused c =
    let w : Within = within_of c.args.names.now in
    let n : NodeTree = node_tree c.args.node.now in
    let defined : def_faults w n.defs ≡ [] = faultless (def_faults w n.defs) (ap (λ ds. verdict (def_faults w (map def_tree ds))) (sym c.list.ensures) ∙ sym c.def_names.ensures ∙ c.in_ok-def_names.was) in
    let resulting = ap (result_faults w.streams []) (sym c.list-2.ensures) ∙ c.in_ok-results.ensures.ok in
    tells_rooms w n defined resulting (past_most c.fits.result c.fits.ensures c.if-not-fits.true)

pub returns-in_err-node_places-clause-refused : goal.returns-in_err-node_places-clause-refused
returns-in_err-node_places-clause-refused c =
    leaves (λ e. e ≡ OutOfMemory) _ OutOfMemory c.from_residual-in_err-node_places.result c.from_residual-in_err-node_places.ensures.1 refl (λ y h. inl h)

pub returns-clause-ok : goal.returns-clause-ok
returns-clause-ok c =
    let w : Within = within_of c.args.names.now in
    let n : NodeTree = node_tree c.args.node.now in
    let defined : def_faults w n.defs ≡ [] = faultless (def_faults w n.defs) (ap (λ ds. verdict (def_faults w (map def_tree ds))) (sym c.list.ensures) ∙ sym c.def_names.ensures ∙ c.in_ok-def_names.was) in
    let resulting = ap (result_faults w.streams []) (sym c.list-2.ensures) ∙ c.in_ok-results.ensures.ok in
    (no_inner w n defined resulting (c.fits.ensures.0 c.if-not-fits.false), c.in_ok-node_places.ensures)
