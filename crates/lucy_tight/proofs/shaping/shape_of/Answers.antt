use Rattle.lucy_rates.proofs.OneShape.{shape_or_none}
use Rattle.lucy_tight.proofs.shaping.shape_of.Goals as goal

pub unreachable-requires : goal.unreachable-requires
unreachable-requires c =
    let some = c.requires.some in
    let e = shape_or_none c.args.needs.now c.args.options.now.scale c.args.options.now.lead some.0 _ some.1 c.in-Err-Limit.ensures.refused in
    absurd (cc e)

pub unreachable-requires-in-Err-Unequal : goal.unreachable-requires-in-Err-Unequal
unreachable-requires-in-Err-Unequal c =
    let some = c.requires.some in
    let e = shape_or_none c.args.needs.now c.args.options.now.scale c.args.options.now.lead some.0 _ some.1 c.in-Err-Unequal.ensures.refused in
    absurd (cc e)
