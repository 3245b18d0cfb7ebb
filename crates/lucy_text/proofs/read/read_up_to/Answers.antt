use Rattle.std.proofs.Common.{ℕ, ◌≡◌, ◌≤◌, Some, List, length, take, ◌++◌, ◌∙◌, arith, length-append}
use Rattle.std.proofs.lemmas.List.{length-take}
use Rattle.lucy_text.proofs.OutsideLaws.{followed_more, goes_on, still_none, some_is_no_stop}
use Rattle.lucy_text.specs.declared.outside.Failed.{Failed}
use Rattle.lucy_text.proofs.Gathered.{ran_out}
use Rattle.lucy_text.proofs.read.read_up_to.Goals as goal

pub returns-in_err-extend_from_slice-clause-read : goal.returns-in_err-extend_from_slice-clause-read
returns-in_err-extend_from_slice-clause-read g c =
    let part : List ℕ = take c.in_ok-n.n c.read.new.into in
    let more = followed_more _ _ _ _ _ c.loop-buffer.invariant.took c.in_ok-n.ensures.bytes in
    let short : length part ≤ c.in_ok-n.n = omega (arith, length-take c.in_ok-n.n c.read.new.into) in
    let window : length (take c.min-room.result c.loop-buffer.buffer) ≤ c.min-room.result = omega (arith, length-take c.min-room.result c.loop-buffer.buffer) in
    let start = (g.I.Source.seen c.args.input.now).since_stop in
    let going : start ≡ Some 0 → (g.I.Source.seen c.read.new.self).since_stop ≡ Some 0 =
    λ none. goes_on _ _ _ c.in_ok-n.ensures.counted (some_is_no_stop Failed c.in_ok-n.n c.if-n-eq0.false) (c.loop-buffer.invariant.going none) in
    ran_out _ _ _ (c.loop-buffer.bytes.items ++ part) _ (record { took = more; none_follows = λ none. still_none _ (going none) })
    (omega (arith, length-append c.loop-buffer.bytes.items part, c.in_ok-n.ensures.within)) (c.in_ok-n.ensures.cause.kept ∙ c.loop-buffer.invariant.calm) c.from_residual-in_err-extend_from_slice.ensures.1
