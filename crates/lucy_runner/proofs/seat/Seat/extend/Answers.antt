use Rattle.std.proofs.Common.{ℕ, ◌<◌, ◌≡◌, List, length, get_or, ap, sym, ◌∙◌, arith}
use Rattle.lucy_worker.specs.declared.part.Part.{Part}
use Rattle.lucy_runner.specs.Growths.{added_for}
use Rattle.lucy_runner.proofs.GrowLaws.{more_more, can_extend_at}
use Rattle.lucy_runner.proofs.seat.Seat.extend.Goals as goal

pub extend-requires-clause-can : goal.extend-requires-clause-can
extend-requires-clause-can c d =
    let k : ℕ = c.loop-k.k in
    let qs : List Part = c.loop-k.self.worker.parts in
    let p : Part = c.index-parts-k.result in
    let count : length c.parts-k-end.result.now ≡ length c.args.self.now.worker.parts = ap (λ (xs : List Part). length xs) c.parts-k-end.ensures in
    let l : k < length qs = omega (arith, c.loop-k.invariant.as_many) in
    let is : p ≡ get_or qs k p = c.index-parts-k.is ∙ ap (λ (xs : List Part). get_or xs k p) c.parts.ensures in
    can_extend_at c.args.inputs.now c.args.instants k c.added_to-items.result.now c.args.self.now.worker.parts qs p d c.loop-k.invariant l is
    (c.added_to-items.ensures ∙ ap (λ (x : Part). added_for x.actor.kind c.args.inputs.now) (sym c.index-parts-k.is)) c.requires.may c.requires.space

pub loop-k-preserved : goal.loop-k-preserved
loop-k-preserved c =
    let k : ℕ = c.loop-k.k in
    let qs : List Part = c.loop-k.self.worker.parts in
    let p : Part = c.index-parts-k.result in
    let count : length c.parts-k-end.result.now ≡ length c.args.self.now.worker.parts = ap (λ (xs : List Part). length xs) c.parts-k-end.ensures in
    let l : k < length qs = omega (arith, c.loop-k.invariant.as_many) in
    let is : p ≡ get_or qs k p = c.index-parts-k.is ∙ ap (λ (xs : List Part). get_or xs k p) c.parts.ensures in
    let m = c.extend.ensures.extended p in
    more_more c.args.inputs.now c.args.instants k c.added_to-items.result.now c.args.self.now.worker.parts qs c.extend.new.self.parts p m.0 c.loop-k.invariant l is
    (c.added_to-items.ensures ∙ ap (λ (x : Part). added_for x.actor.kind c.args.inputs.now) (sym c.index-parts-k.is)) m.1 m.2
