use Rattle.std.proofs.Common.{ap, arith}
use Rattle.std.specs.Prelude.{sum_by}
use Rattle.std.proofs.lemmas.List.{take_all}
use Rattle.lucy_flat.specs.Extents.{ring_bits}
use Rattle.lucy_flat.proofs.NetLaws.{words_bits}
use Rattle.lucy_flat.proofs.flattening.all_bits.Goals as goal

pub returns : goal.returns
returns c =
    let whole = take_all c.rings.ring-index c.list-rings.result.now c.rings-test.false in
    let part = ap (sum_by ring_bits) whole in
    let rings = ap (sum_by ring_bits) c.list-rings.ensures in
    let all = c.rings.invariant.0 in
    omega (arith, all, part, rings, words_bits c.args.net.now)
