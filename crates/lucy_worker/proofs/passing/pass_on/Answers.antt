use Rattle.std.proofs.Common.{ℕ, ◌≡◌, ◌<◌, ◌≤◌, length, get_or, set, arith}
use Rattle.std.proofs.lemmas.List.{get_or_default}
use Rattle.std.proofs.lemmas.List.Elements.{All-get_or}
use Rattle.lucy_host.specs.Host.{lent}
use Rattle.lucy_host.specs.Operators.{kinds_of}
use Rattle.lucy_worker.specs.declared.part.Part.{Part}
use Rattle.lucy_worker.specs.Turns.{IsServed, most_moves}
use Rattle.lucy_worker.specs.Readiness.{left_by, HaveRunBy}
use Rattle.lucy_worker.proofs.Runs.{passed_none, passed_on, passed_one, come_none, come_more}
use Rattle.lucy_worker.proofs.CountLaws.{left_by_few}
use Rattle.lucy_worker.proofs.passing.pass_on.Goals as goal

pub loop-part-init : goal.loop-part-init
loop-part-init g c = (passed_none (kinds_of (lent c.args.host.now)) (length (lent c.args.host.now)) c.args.parts.now c.requires.ready c.requires.served, come_none c.args.parts.now)

pub overflow_add-moves : goal.overflow_add-moves
overflow_add-moves g c =
    let e = c.go_on-moves.ensures in
    let kinds = kinds_of (lent c.args.host.now) in
    let count = length (lent c.args.host.now) in
    let i : ℕ = c.loop-part.part-index in
    let p : Part = get_or c.loop-part.parts i c.part-item.result in
    let l : i < length c.loop-part.parts = omega arith in
    let at : (d : Part) → get_or c.loop-part.parts i d ≡ p = λ (d : Part). get_or_default c.loop-part.parts i d c.part-item.result l in
    let so_far = c.loop-part.invariant.0 in
    let serves : IsServed count p = All-get_or (IsServed count) c.loop-part.parts i c.part-item.result l so_far.served in
    let one : HaveRunBy kinds count c.loop-part.parts (set c.loop-part.parts i c.go_on-moves.new.self) c.go_on-moves.result =
    passed_one kinds count c.loop-part.parts i p c.go_on-moves.new.self c.go_on-moves.result l at (record { ready = e.ready; run = e.run; done = e.moves; left = e.left }) serves so_far.ready so_far.served in
    let most : left_by c.args.parts.now ≤ most_moves = left_by_few c.args.parts.now c.requires.ready in
    let before = so_far.left in
    let now = one.left in
    omega arith

pub loop-part-preserved : goal.loop-part-preserved
loop-part-preserved g c =
    let e = c.go_on-moves.ensures in
    let kinds = kinds_of (lent c.args.host.now) in
    let count = length (lent c.args.host.now) in
    let i : ℕ = c.loop-part.part-index in
    let p : Part = get_or c.loop-part.parts i c.part-item.result in
    let l : i < length c.loop-part.parts = omega arith in
    let at : (d : Part) → get_or c.loop-part.parts i d ≡ p = λ (d : Part). get_or_default c.loop-part.parts i d c.part-item.result l in
    let so_far = c.loop-part.invariant.0 in
    let serves : IsServed count p = All-get_or (IsServed count) c.loop-part.parts i c.part-item.result l so_far.served in
    let step = e.moves in (
      passed_on kinds count c.args.parts.now c.loop-part.parts _ c.loop-part.moves c.go_on-moves.result so_far
          (passed_one kinds count c.loop-part.parts i p c.go_on-moves.new.self c.go_on-moves.result l at (record { ready = e.ready; run = e.run; done = e.moves; left = e.left }) serves so_far.ready so_far.served),
      come_more c.args.parts.now c.loop-part.parts i p c.go_on-moves.new.self l at (λ can. (let m = e.moved can in omega arith)) e.rests c.loop-part.invariant.1,
    )

pub returns : goal.returns
returns g c =
    let come = c.loop-part.invariant.1 in
    let same = c.loop-part.invariant.0.run.as_many in
    let over = c.loop-part-test.false in
    record {
      run_by = c.loop-part.invariant.0;
      moved = λ k d l. come.moved k d (omega arith);
      rests = λ k d l. come.rests k d (omega arith);
    }
