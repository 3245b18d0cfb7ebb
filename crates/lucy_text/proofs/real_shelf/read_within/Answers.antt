use Rattle.std.proofs.Common.{◌+◌, ◌≤◌, List, ℕ, length, take, arith, ◌++◌, length-append}
use Rattle.std.proofs.lemmas.List.{length-take}
use Rattle.std.proofs.KnownBytes.{Consumes-trans}
use Rattle.lucy_text.proofs.real_shelf.read_within.Goals as goal

pub returns-in_err-extend_from_slice-clause-took : goal.returns-in_err-extend_from_slice-clause-took
returns-in_err-extend_from_slice-clause-took g c =
    let part : List ℕ = take c.in_ok-n.n c.read.new.buf in
    let short : length part ≤ c.in_ok-n.n = omega (arith, length-take c.in_ok-n.n c.read.new.buf) in
    let window : length (take (c.min.result + 1) c.loop-buffer.buffer) ≤ c.min.result + 1 = omega (arith, length-take (c.min.result + 1) c.loop-buffer.buffer) in (
      c.loop-buffer.bytes.items ++ part,
      Consumes-trans _ _ _ _ _ c.loop-buffer.invariant.took c.in_ok-n.ensures.bytes.0,
      omega (arith, length-append c.loop-buffer.bytes.items part, c.in_ok-n.ensures.bound.0, c.read.auto.buf, window),
    )
