use Rattle.std.proofs.Common.{ℕ, ◌≡◌, ◌+◌, ◌-◌, ◌<◌, ◌≤◌, length, get_or, set, subst, arith}
use Rattle.std.proofs.lemmas.List.{get_or_default, length-set}
use Rattle.std.proofs.lemmas.List.Elements.{All-get_or}
use Rattle.lucy_host.specs.Host.{lent}
use Rattle.lucy_host.specs.Operators.{kinds_of}
use Rattle.lucy_worker.specs.declared.part.Part.{Part}
use Rattle.lucy_worker.specs.Turns.{IsServed, most_moves}
use Rattle.lucy_worker.specs.Readiness.{left_by, HaveRunBy}
use Rattle.lucy_worker.proofs.Runs.{passed_none, passed_on, passed_one, HasComeDown, down_none, down_more}
use Rattle.lucy_worker.proofs.CountLaws.{left_by_few}
use Rattle.lucy_worker.proofs.passing.pass_back.Goals as goal

pub loop-at-init : goal.loop-at-init
loop-at-init g c = (
  passed_none (kinds_of (lent c.args.host.now)) (length (lent c.args.host.now)) c.args.parts.now c.requires.ready c.requires.served,
  down_none c.args.parts.now (length c.args.parts.now) (omega arith),
  omega arith,
)

pub overflow_add-moves : goal.overflow_add-moves
overflow_add-moves g c =
    let e = c.go_on-moves.ensures in
    let kinds = kinds_of (lent c.args.host.now) in
    let count = length (lent c.args.host.now) in
    let i : ℕ = c.loop-at.at - 1 in
    let p : Part = get_or c.loop-at.parts i c.index-parts-at.result in
    let l : i < length c.loop-at.parts = omega (arith, c.loop-at.invariant.2, c.loop-at-test.true) in
    let at : (d : Part) → get_or c.loop-at.parts i d ≡ p = λ (d : Part). get_or_default c.loop-at.parts i d c.index-parts-at.result l in
    let so_far = c.loop-at.invariant.0 in
    let serves : IsServed count p = All-get_or (IsServed count) c.loop-at.parts i c.index-parts-at.result l so_far.served in
    let one : HaveRunBy kinds count c.loop-at.parts (set c.loop-at.parts i c.go_on-moves.new.self) c.go_on-moves.result =
    passed_one kinds count c.loop-at.parts i p c.go_on-moves.new.self c.go_on-moves.result l at
    (record { ready = e.ready; run = e.run; done = e.moves; left = e.left }) serves so_far.ready so_far.served in
    let most : left_by c.args.parts.now ≤ most_moves = left_by_few c.args.parts.now c.requires.ready in
    let before = so_far.left in
    let now = one.left in
    omega arith

pub loop-at-preserved : goal.loop-at-preserved
loop-at-preserved g c =
    let e = c.go_on-moves.ensures in
    let kinds = kinds_of (lent c.args.host.now) in
    let count = length (lent c.args.host.now) in
    let i : ℕ = c.loop-at.at - 1 in
    let p : Part = get_or c.loop-at.parts i c.index-parts-at.result in
    let l : i < length c.loop-at.parts = omega (arith, c.loop-at.invariant.2, c.loop-at-test.true) in
    let next : c.loop-at.at ≡ i + 1 = omega (arith, c.loop-at-test.true) in
    let at : (d : Part) → get_or c.loop-at.parts i d ≡ p = λ (d : Part). get_or_default c.loop-at.parts i d c.index-parts-at.result l in
    let so_far = c.loop-at.invariant.0 in
    let come : HasComeDown c.args.parts.now c.loop-at.parts (i + 1) =
    subst (λ (n : ℕ). HasComeDown c.args.parts.now c.loop-at.parts n) next c.loop-at.invariant.1 in
    let serves : IsServed count p = All-get_or (IsServed count) c.loop-at.parts i c.index-parts-at.result l so_far.served in
    let step = e.moves in (
      passed_on kinds count c.args.parts.now c.loop-at.parts _ c.loop-at.moves c.go_on-moves.result so_far
          (passed_one kinds count c.loop-at.parts i p c.go_on-moves.new.self c.go_on-moves.result l at
          (record { ready = e.ready; run = e.run; done = e.moves; left = e.left }) serves so_far.ready so_far.served),
      down_more c.args.parts.now c.loop-at.parts i p c.go_on-moves.new.self l at (λ can. (let m = e.moved can in omega arith)) e.rests come,
      omega (arith, l, length-set c.loop-at.parts i c.go_on-moves.new.self),
    )

pub returns : goal.returns
returns g c =
    let come = c.loop-at.invariant.1 in
    let over = c.loop-at-test.false in
    record {
      run_by = c.loop-at.invariant.0;
      moved = λ k d l. come.moved k d (omega arith) l;
      rests = λ k d l. come.rests k d (omega arith) (let same = c.loop-at.invariant.0.run.as_many in omega arith);
    }
