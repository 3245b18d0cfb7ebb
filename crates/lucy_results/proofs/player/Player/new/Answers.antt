use Rattle.std.proofs.Common.{ℕ, ◌≡◌, List, length, ap, sym, subst, ◌∙◌}
use Rattle.lucy_host.specs.Host.{lent}
use Rattle.lucy_host.specs.Operators.{Operator, kinds_of}
use Rattle.lucy_kahn.specs.Spots.{main_of}
use Rattle.lucy_kahn.specs.Turns.{params_in}
use Rattle.lucy_core.specs.Seen.{Seen, CanMakeCore, first_seen, done_of}
use Rattle.lucy_flat.specs.Flat.{IsFlat}
use Rattle.lucy_runner.specs.Views.{inputs_for}
use Rattle.lucy_runner.specs.Homes.{crew_by}
use Rattle.lucy_results.specs.Playing.{PlayerView, crew_for}
use Rattle.lucy_results.proofs.NetLaws.{fixed}
use Rattle.lucy_results.proofs.InputLaws.{inputs_same}
use Rattle.lucy_results.proofs.OutputLaws.{first_unbegun}
use Rattle.lucy_results.proofs.PlayLaws.{crew_is}
use Rattle.lucy_results.proofs.player.Player.new.Goals as goal

pub new-requires : goal.new-requires
new-requires g c =
    let r = c.requires in
    subst (λ (ops : List Operator). CanMakeCore c.args.net c.args.schedule c.args.inputs ops c.args.instants) (sym c.ops.ensures)
    (fixed c.args.placed.now.nodes c.args.clocks.now c.nodes.ensures.proper c.args.net r.flat c.args.schedule c.args.inputs (lent c.args.host.now) c.args.instants r.known r.sound r.suffice r.early)

pub run_core-requires-clause-unbegun : goal.run_core-requires-clause-unbegun
run_core-requires-clause-unbegun g c κs within = λ a.
    ap (λ (s : Seen). done_of s.done a) c.in_ok-core.ensures ∙ first_unbegun c.args.net c.args.schedule c.args.inputs c.ops.result.now c.args.instants a

pub run_core-requires-clause-flat : goal.run_core-requires-clause-flat
run_core-requires-clause-flat g c κs within =
    subst (λ (s : Seen). IsFlat c.args.placed.now.nodes c.args.clocks.now s.net) (sym c.in_ok-core.ensures) c.requires.flat

pub run_core-requires-clause-inputs : goal.run_core-requires-clause-inputs
run_core-requires-clause-inputs g c κs within =
    subst (λ (s : Seen). inputs_for s.net s.inputs ≡ s.inputs) (sym c.in_ok-core.ensures)
    (inputs_same c.args.placed.now.nodes c.args.clocks.now c.nodes.ensures.proper c.args.net c.requires.flat c.args.inputs c.requires.inputs)

pub run_core-requires-clause-params : goal.run_core-requires-clause-params
run_core-requires-clause-params g c κs within =
    subst (λ (s : Seen). params_in (main_of c.args.placed.now.nodes) ≡ length s.inputs) (sym c.in_ok-core.ensures) c.requires.inputs

pub returns : goal.returns
returns g c =
    let nodes = c.args.placed.now.nodes in
    let clocks = c.args.clocks.now in
    let crew : crew_by c.args.workers c.deref.result.now ≡ crew_for c.args.net c.args.workers =
    crew_is c.args.net c.args.workers c.list.result.now c.deref.result.now (c.deref.ensures.value ∙ c.in_ok-homes.ensures.home) c.list.ensures in
    let P : Seen → List (List ℕ) → PlayerView = λ (s : Seen) w.
    record { nodes = nodes; clocks = clocks; kinds = kinds_of s.operators; inputs = s.inputs; instants = s.instants; before = 0; crew = w } in
    let Q : List Operator → PlayerView = λ (ops : List Operator).
    P (first_seen c.args.net c.args.schedule c.args.inputs ops c.args.instants) (crew_for c.args.net c.args.workers) in
    c.in_ok-runner.ensures.is ∙ ap (λ (s : Seen). P s (crew_by c.args.workers c.deref.result.now)) c.in_ok-core.ensures
    ∙ ap (P (first_seen c.args.net c.args.schedule c.args.inputs c.ops.result.now c.args.instants)) crew ∙ ap Q c.ops.ensures
