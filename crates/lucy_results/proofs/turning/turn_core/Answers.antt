use Rattle.std.proofs.Common.{◌≡◌, List, length, ap, sym, ◌∙◌, subst}
use Rattle.lucy_host.specs.Operators.{Operator, kinds_of}
use Rattle.lucy_runner.specs.Views.{RunnerView}
use Rattle.lucy_runner.specs.Homes.{crew_by}
use Rattle.lucy_runner.specs.Crews.{crew_of}
use Rattle.lucy_runner.specs.Turns.{AreServed}
use Rattle.lucy_runner.specs.Finishing.{HaveFinished}
use Rattle.lucy_results.proofs.PlayLaws.{played_first, first_is}
use Rattle.lucy_results.proofs.turning.turn_core.Goals as goal

pub round_by_turns-requires : goal.round_by_turns-requires
round_by_turns-requires g c = λ seats served held.
    let same : c.in_ok-runner.runner.seen.operators ≡ c.args.core.operators = ap (λ (v : RunnerView). v.seen.operators) c.in_ok-runner.ensures.first in
    let asked = c.requires.turns seats (subst (λ (xs : List Operator). AreServed (length xs) (crew_of seats.now)) same served) (held ∙ c.in_ok-runner.ensures.crew) in (
      asked.0,
      λ none after left.
          subst (λ (xs : List Operator). HaveFinished (kinds_of xs) seats.now after.now) (sym same) (asked.1 none after left),
    )

pub returns-clause-played : goal.returns-clause-played
returns-clause-played g c =
    let (moves, round) = c.round_by_turns.ensures.round in
    played_first c.args.placed.now.nodes c.args.clocks.now c.args.core c.in_ok-runner.runner c.round_by_turns.new.self round.picks c.in_ok-runner.ensures.first
    round.is c.round_by_turns.ensures.finished c.requires.flat c.requires.inputs c.requires.params

pub returns-clause-is : goal.returns-clause-is
returns-clause-is g c =
    let (moves, round) = c.round_by_turns.ensures.round in
    first_is c.args.placed.now.nodes c.args.clocks.now c.args.core c.in_ok-runner.runner c.round_by_turns.new.self round.picks c.in_ok-runner.ensures.first
    round.is c.round_by_turns.ensures.before (crew_by c.args.workers c.args.homes.now) c.round_by_turns.ensures.crew c.in_ok-runner.ensures.crew c.requires.inputs
