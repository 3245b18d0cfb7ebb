use Rattle.std.proofs.Common.{◌≡◌, List, length, ap, sym, subst, ◌∙◌}
use Rattle.lucy_host.specs.Operators.{Operator, kinds_of}
use Rattle.lucy_kahn.specs.Spots.{main_of}
use Rattle.lucy_kahn.specs.Turns.{params_in}
use Rattle.lucy_core.specs.Seen.{Seen, done_of}
use Rattle.lucy_flat.specs.Flat.{IsFlat}
use Rattle.lucy_runner.specs.Views.{inputs_for}
use Rattle.lucy_runner.specs.Homes.{crew_by}
use Rattle.lucy_runner.specs.Crews.{crew_of}
use Rattle.lucy_runner.specs.Turns.{AreServed}
use Rattle.lucy_runner.specs.Finishing.{HaveFinished}
use Rattle.lucy_results.specs.Playing.{PlayerView, crew_for, played}
use Rattle.lucy_results.proofs.NetLaws.{fixed}
use Rattle.lucy_results.proofs.InputLaws.{inputs_same}
use Rattle.lucy_results.proofs.OutputLaws.{first_unbegun}
use Rattle.lucy_results.proofs.PlayLaws.{crew_is, told_whole}
use Rattle.lucy_results.proofs.turning.run_net_by_turns.Goals as goal

pub new-requires : goal.new-requires
new-requires g c =
    let r = c.requires in
    fixed c.args.placed.now.nodes c.args.clocks.now c.nodes.ensures.proper c.args.net r.flat c.args.schedule c.args.inputs c.args.ops.now
    c.args.instants r.known r.sound r.suffice r.early

pub turn_core-requires-clause-flat : goal.turn_core-requires-clause-flat
turn_core-requires-clause-flat g c =
    subst (λ (s : Seen). IsFlat c.args.placed.now.nodes c.args.clocks.now s.net) (sym c.in_ok-core.ensures) c.requires.flat

pub turn_core-requires-clause-unbegun : goal.turn_core-requires-clause-unbegun
turn_core-requires-clause-unbegun g c = λ a.
    ap (λ (s : Seen). done_of s.done a) c.in_ok-core.ensures
    ∙ first_unbegun c.args.net c.args.schedule c.args.inputs c.args.ops.now c.args.instants a

pub turn_core-requires-clause-inputs : goal.turn_core-requires-clause-inputs
turn_core-requires-clause-inputs g c =
    subst (λ (s : Seen). inputs_for s.net s.inputs ≡ s.inputs) (sym c.in_ok-core.ensures)
    (inputs_same c.args.placed.now.nodes c.args.clocks.now c.nodes.ensures.proper c.args.net c.requires.flat c.args.inputs
    c.requires.inputs)

pub turn_core-requires-clause-params : goal.turn_core-requires-clause-params
turn_core-requires-clause-params g c =
    subst (λ (s : Seen). params_in (main_of c.args.placed.now.nodes) ≡ length s.inputs) (sym c.in_ok-core.ensures) c.requires.inputs

pub turn_core-requires-clause-turns : goal.turn_core-requires-clause-turns
turn_core-requires-clause-turns g c = λ seats served held.
    let same : c.in_ok-core.core.operators ≡ c.args.ops.now = ap (λ (s : Seen). s.operators) c.in_ok-core.ensures in
    let crew : crew_by c.args.workers c.deref.result.now ≡ crew_for c.args.net c.args.workers =
    crew_is c.args.net c.args.workers c.list.result.now c.deref.result.now (c.deref.ensures.value ∙ c.in_ok-homes.ensures.home) c.list.ensures in
    let asked = c.requires.turns seats (subst (λ (xs : List Operator). AreServed (length xs) (crew_of seats.now)) same served) (held ∙ crew) in (
      asked.0,
      λ none after left.
          subst (λ (xs : List Operator). HaveFinished (kinds_of xs) seats.now after.now) (sym same) (asked.1 none after left),
    )

pub returns : goal.returns
returns g c =
    let nodes = c.args.placed.now.nodes in
    let clocks = c.args.clocks.now in
    let P : Seen → PlayerView = λ (s : Seen).
    record { nodes = nodes; clocks = clocks; kinds = kinds_of s.operators; inputs = s.inputs; instants = s.instants; before = 0; crew = crew_by c.args.workers c.deref.result.now } in
    told_whole c.outputs.result (played nodes clocks c.in_ok-runner.runner) nodes clocks (kinds_of c.args.ops.now) c.args.inputs
    c.args.instants (crew_by c.args.workers c.deref.result.now) (c.in_ok-runner.ensures.is ∙ ap P c.in_ok-core.ensures) c.outputs.ensures
