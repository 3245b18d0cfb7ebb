use Rattle.std.proofs.Common.{◌≡◌, ◌-◌, inl, Some, length, map, ap, sym, refl, ◌∙◌, subst, arith}
use Rattle.std.specs.Prelude.{slice_get}
use Rattle.std.specs.Result.{IfOk}
use Rattle.std.proofs.lemmas.Option.{slice_get_read}
use Rattle.lucy_word.proofs.Results.{goes_out}
use Rattle.lucy_host.specs.Host.{lent}
use Rattle.lucy_host.specs.Operators.{kinds_of}
use Rattle.lucy_kahn.specs.Spots.{results_of}
use Rattle.lucy_kahn.specs.Kahn.{kahn}
use Rattle.lucy_kahn.specs.Turns.{AreThere, IsTurn, own_at}
use Rattle.lucy_kahn.proofs.TurnLaws.{count_of_iterate, count_of_lists, places_there}
use Rattle.lucy_kahn.proofs.RunLaws.{err_known, none_passed, turn_of, run_first, run_more, passed_of, main_lists, main_results}
use Rattle.lucy_kahn.proofs.interpreter.kahn.Goals as goal

pub turns-init : goal.turns-init
turns-init g c =
    let all = c.in_ok-instances.ensures.ok in
    let first = c.in_ok-lists.ensures.ok in
    run_first (kinds_of (lent c.args.host.now)) c.args.inputs.now c.args.placed.now.nodes _ _ all.paths _ all.instances (first (kinds_of (lent c.args.host.now)) c.args.inputs.now all.paths all.instances)

pub next-requires-clause-known : goal.next-requires-clause-known
next-requires-clause-known g c = λ κs h. c.requires.known

pub next-requires-clause-before : goal.next-requires-clause-before
next-requires-clause-before g c = λ κs h.
    (let run = c.turns.invariant in
    let turn = turn_of (kinds_of (lent c.args.host.now)) c.args.inputs.now c.args.placed.now.nodes c.in_ok-instances.instances.list.items c.in_ok-instances.instances.inner.items c.turns.number c.turns.lists.items
    c.nodes.ensures.proper c.requires.inputs c.in_ok-instances.ensures.ok.all run in
    (run.paths, subst (λ xs. IsTurn (kinds_of (lent c.args.host.now)) c.args.inputs.now c.args.placed.now.nodes c.in_ok-instances.instances.list.items c.in_ok-instances.instances.inner.items c.turns.number xs c.turns.invariant.paths) (sym c.deref.ensures.value) turn))

pub returns-in_err-instances-clause-passed : goal.returns-in_err-instances-clause-passed
returns-in_err-instances-clause-passed g c = λ long. err_known {P = ⊥} c.from_residual.result _ c.from_residual.ensures.1 (inl c.in_err-instances.ensures.refused)

pub returns-in_err-lists-clause-passed : goal.returns-in_err-lists-clause-passed
returns-in_err-lists-clause-passed g c = λ long. err_known {P = ⊥} c.from_residual-in_err-lists.result _ c.from_residual-in_err-lists.ensures.1 (inl c.in_err-lists.ensures.refused)

pub returns-in_err-lists-2-clause-passed : goal.returns-in_err-lists-2-clause-passed
returns-in_err-lists-2-clause-passed g c = λ long. err_known c.from_residual-in_err-lists-2.result _ c.from_residual-in_err-lists-2.ensures.1 c.in_err-lists-2.ensures.limit

pub returns-clause-passed : goal.returns-clause-passed
returns-clause-passed g c = λ long.
    absurd (none_passed (kinds_of (lent c.args.host.now)) c.args.inputs.now c.args.placed.now.nodes c.in_ok-instances.instances.list.items c.in_ok-instances.instances.inner.items c.turns.number c.args.turns (omega arith)
    c.turns.invariant.none long)

pub returns-in_err-lists-2-clause-limit : goal.returns-in_err-lists-2-clause-limit
returns-in_err-lists-2-clause-limit g c =
    goes_out _ _ c.from_residual-in_err-lists-2.result c.from_residual-in_err-lists-2.ensures.1
    (passed_of (kinds_of (lent c.args.host.now)) c.args.inputs.now c.args.placed.now.nodes c.in_ok-instances.instances.list.items c.in_ok-instances.instances.inner.items c.turns.number c.args.turns _ (omega arith) c.in_err-lists-2.ensures.limit)

pub turns-preserved : goal.turns-preserved
turns-preserved g c =
    let kinds = kinds_of (lent c.args.host.now) in
    let nodes = c.args.placed.now.nodes in
    let list = c.in_ok-instances.instances.list.items in
    let inner = c.in_ok-instances.instances.inner.items in
    let run = c.turns.invariant in
    let all = c.in_ok-instances.ensures.ok in
    let turn = turn_of kinds c.args.inputs.now nodes list inner c.turns.number c.turns.lists.items c.nodes.ensures.proper c.requires.inputs all.all run in
    let before = subst (λ xs. IsTurn (kinds_of (lent c.args.host.now)) c.args.inputs.now c.args.placed.now.nodes c.in_ok-instances.instances.list.items c.in_ok-instances.instances.inner.items c.turns.number xs c.turns.invariant.paths) (sym c.deref.ensures.value) turn in
    run_more kinds c.args.inputs.now nodes list inner c.turns.number c.turns.lists.items c.in_ok-lists-2.lists.items c.nodes.ensures.proper c.requires.inputs all.all run (c.in_ok-lists-2.ensures.ok run.paths before)

pub index-requires : goal.index-requires
index-requires g c =
    let kinds = kinds_of (lent c.args.host.now) in
    let nodes = c.args.placed.now.nodes in
    let list = c.in_ok-instances.instances.list.items in
    let inner = c.in_ok-instances.instances.inner.items in
    let run = c.turns.invariant in
    let all = c.in_ok-instances.ensures.ok in
    let turn = turn_of kinds c.args.inputs.now nodes list inner c.turns.number c.turns.lists.items c.nodes.ensures.proper c.requires.inputs all.all run in
    omega (arith, count_of_iterate kinds c.args.inputs.now nodes list inner c.turns.number c.turns.lists.items run.paths turn, run.instances.some)

pub results-requires-clause-there : goal.results-requires-clause-there
results-requires-clause-there g c =
    let kinds = kinds_of (lent c.args.host.now) in
    let nodes = c.args.placed.now.nodes in
    let list = c.in_ok-instances.instances.list.items in
    let inner = c.in_ok-instances.instances.inner.items in
    let run = c.turns.invariant in
    let all = c.in_ok-instances.ensures.ok in
    let lists = c.turns.lists.items in
    let turn = turn_of kinds c.args.inputs.now nodes list inner c.turns.number lists c.nodes.ensures.proper c.requires.inputs all.all run in
    let count = count_of_iterate kinds c.args.inputs.now nodes list inner c.turns.number lists run.paths turn in
    let own = slice_get_read lists (length lists) 0 c.index.result.now refl (omega (arith, count, run.instances.some)) c.index.ensures in
    let main : slice_get c.args.placed.now.nodes (length c.args.placed.now.nodes - 1) ≡ Some c.node-main.result.now = ap (λ k. slice_get c.args.placed.now.nodes (k - 1)) (sym c.nodes.ensures.count) ∙ c.node-main.ensures.is in
    let m = main_lists kinds c.args.inputs.now nodes list inner c.turns.number lists c.index.result.now c.node-main.result.now run.paths turn main own in
    subst (λ ps. AreThere c.index.result.now ps) (sym c.list.ensures)
    (places_there kinds c.args.inputs.now nodes list inner c.turns.number lists run.paths turn c.node-main.result.now c.index.result.now c.node-main.result.now.results
    (count_of_lists kinds c.args.inputs.now nodes list inner c.turns.number lists run.paths turn 0 c.node-main.result.now c.index.result.now m.1 m.0) c.node-main.ensures.proper.results)

pub returns-clause-ok : goal.returns-clause-ok
returns-clause-ok g c =
    let kinds = kinds_of (lent c.args.host.now) in
    let nodes = c.args.placed.now.nodes in
    let list = c.in_ok-instances.instances.list.items in
    let inner = c.in_ok-instances.instances.inner.items in
    let run = c.turns.invariant in
    let all = c.in_ok-instances.ensures.ok in
    let lists = c.turns.lists.items in
    let turn = turn_of kinds c.args.inputs.now nodes list inner c.turns.number lists c.nodes.ensures.proper c.requires.inputs all.all run in
    let count = count_of_iterate kinds c.args.inputs.now nodes list inner c.turns.number lists run.paths turn in
    let own = slice_get_read lists (length lists) 0 c.index.result.now refl (omega (arith, count, run.instances.some)) c.index.ensures in
    let main : slice_get c.args.placed.now.nodes (length c.args.placed.now.nodes - 1) ≡ Some c.node-main.result.now = ap (λ k. slice_get c.args.placed.now.nodes (k - 1)) (sym c.nodes.ensures.count) ∙ c.node-main.ensures.is in
    let z : c.turns.number ≡ c.args.turns = omega arith in
    let e = ap (map (own_at c.index.result.now)) c.list.ensures
    ∙ main_results kinds c.args.inputs.now nodes list inner c.turns.number lists c.index.result.now c.node-main.result.now run.paths turn main own c.node-main.ensures.proper.results
    ∙ ap (λ k. map (kahn (kinds_of (lent c.args.host.now)) c.args.inputs.now c.args.placed.now.nodes k) (results_of c.args.placed.now.nodes)) z in
    subst (λ xs. IfOk c.results.result (λ given. given ≡ xs)) e c.results.ensures.ok
