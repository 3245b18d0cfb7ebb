use Rattle.std.proofs.Common.{ap, length, [], arith}
use Rattle.std.proofs.lemmas.List.FromFn.{length-map-range_with_len}
use Rattle.lucy_lines.specs.Feeding.{values_of}
use Rattle.lucy_lines.proofs.feed_reader.FeedReader.carry_away.Goals as goal

pub invariant_of-self : goal.invariant_of-self
invariant_of-self c =
    let (few, many, listed, can) = c.self.invariant in
    let made = ap length c.in_ok-self-inside.ensures in
    let long = length-map-range_with_len (λ stream. values_of stream []) 0 c.len.result in
    let len = c.len.ensures in
    (few, many, omega arith, can)
