use Rattle.std.proofs.Common.{ℕ, ◌<◌, ◌≡◌, List, length, get_or, ap, ◌∙◌, arith}
use Rattle.lucy_worker.specs.declared.part.Part.{Part}
use Rattle.lucy_runner.proofs.GrowLaws.{space_more, space_short}
use Rattle.lucy_runner.proofs.seat.Seat.reserve.Goals as goal

pub returns-in_err-reserve-clause-spared : goal.returns-in_err-reserve-clause-spared
returns-in_err-reserve-clause-spared c =
    let k : ℕ = c.loop-k.k in
    let qs : List Part = c.loop-k.self.worker.parts in
    let p : Part = c.index-parts-k.result in
    let count : length c.parts-k-end.result.now ≡ length c.args.self.now.worker.parts = ap (λ (xs : List Part). length xs) c.parts-k-end.ensures in
    let l : k < length qs = omega (arith, c.loop-k.invariant.as_many) in
    let is : p ≡ get_or qs k p = c.index-parts-k.is ∙ ap (λ (xs : List Part). get_or xs k p) c.parts.ensures in
    let m = c.reserve.ensures.spared p in
    space_short c.args.inputs.now c.args.instants k c.args.self.now.worker.parts qs c.reserve.new.self.parts p m.0 c.loop-k.invariant l is m.1 m.3

pub loop-k-preserved : goal.loop-k-preserved
loop-k-preserved c =
    let k : ℕ = c.loop-k.k in
    let qs : List Part = c.loop-k.self.worker.parts in
    let p : Part = c.index-parts-k.result in
    let count : length c.parts-k-end.result.now ≡ length c.args.self.now.worker.parts = ap (λ (xs : List Part). length xs) c.parts-k-end.ensures in
    let l : k < length qs = omega (arith, c.loop-k.invariant.as_many) in
    let is : p ≡ get_or qs k p = c.index-parts-k.is ∙ ap (λ (xs : List Part). get_or xs k p) c.parts.ensures in
    let m = c.in_ok-reserve.ensures.spared p in
    space_more c.args.inputs.now c.args.instants k (length c.added_to.result.now) c.room_of-room.result c.args.self.now.worker.parts qs c.reserve.new.self.parts p m.0 c.loop-k.invariant l is m.1
    (ap (λ xs. length xs) c.added_to.ensures) c.room_of-room.ensures m.2 m.3
