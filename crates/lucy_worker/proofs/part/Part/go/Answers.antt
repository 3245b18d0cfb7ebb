use Rattle.std.proofs.Common.{◌≡◌, ◌+◌, ◌≤◌, ◌*◌, arith}
use Rattle.std.specs.Prelude.{length}
use Rattle.lucy_host.specs.Host.{lent}
use Rattle.lucy_host.specs.Operators.{kinds_of}
use Rattle.lucy_worker.specs.Parts.{done_of}
use Rattle.lucy_worker.specs.News.{ends_of, most_ends}
use Rattle.lucy_worker.specs.Readiness.{left_of}
use Rattle.lucy_worker.proofs.Runs.{stays, goes_on, still_served, still_plain}
use Rattle.lucy_worker.proofs.CountLaws.{left_few}
use Rattle.lucy_worker.proofs.part.Part.go.Goals as goal

pub loop-moves-init : goal.loop-moves-init
loop-moves-init g c = (c.requires.ready, c.requires.served, stays (kinds_of (lent c.args.host.now)) c.args.self.now, omega arith, omega arith, λ z can. can, c.requires.plain)

pub overflow_add-moves : goal.overflow_add-moves
overflow_add-moves g c =
    let left : left_of c.loop-moves.self + c.loop-moves.moves ≡ left_of c.args.self.now = c.loop-moves.invariant.4 in
    let most : left_of c.args.self.now ≤ 1048576 * ends_of c.args.self.now = left_few c.args.self.now c.requires.ready in
    let few : ends_of c.args.self.now ≤ most_ends = c.requires.ready.few in
    omega arith

pub loop-moves-preserved : goal.loop-moves-preserved
loop-moves-preserved g c =
    let m = c.step.ensures.moved c.loop-moves-test.true in
    let kinds = kinds_of (lent c.args.host.now) in
    let done : done_of c.loop-moves.self ≡ done_of c.args.self.now + c.loop-moves.moves = c.loop-moves.invariant.3 in
    let left : left_of c.loop-moves.self + c.loop-moves.moves ≡ left_of c.args.self.now = c.loop-moves.invariant.4 in (
      c.step.ensures.ready,
      still_served kinds (length (lent c.args.host.now)) c.loop-moves.self c.step.new.self c.step.ensures.run c.loop-moves.invariant.1,
      goes_on kinds c.args.self.now c.loop-moves.self c.step.new.self c.loop-moves.invariant.2 c.step.ensures.run,
      omega (arith, m.0),
      omega (arith, m.1),
      λ z. absurd (omega arith),
      λ t. still_plain kinds c.loop-moves.self c.step.new.self c.step.ensures.run (c.loop-moves.invariant.6 t),
    )

pub returns-clause-run : goal.returns-clause-run
returns-clause-run g c = goes_on (kinds_of (lent c.args.host.now)) c.args.self.now c.loop-moves.self c.step.new.self c.loop-moves.invariant.2 c.step.ensures.run
