use Rattle.std.proofs.Common.{ap, arith, length, ◌-◌, take, drop, length-append}
use Rattle.std.proofs.lemmas.List.{length-take}
use Rattle.lucy_word.proofs.LimbLaws.{length-unpacked}
use Rattle.lucy_word.proofs.shortest.rotated.Goals as goal

pub push_part-requires-clause-room : goal.push_part-requires-clause-room
push_part-requires-clause-room c =
    omega (arith, ap length c.new-made.ensures, length-unpacked c.period.inside.len c.period.inside.limbs.items, ap length c.period.view_is, c.period.invariant.0)

pub push_part-requires-2-clause-room : goal.push_part-requires-2-clause-room
push_part-requires-2-clause-room c =
    omega (
      arith,
      ap length c.new-made.ensures,
      ap length c.in_ok-push_part.ensures,
      length-append c.new-made.result (take (c.args.turn - c.args.at) (drop c.args.at c.args.period)),
      length-take (c.args.turn - c.args.at) (drop c.args.at c.args.period),
      length-unpacked c.period.inside.len c.period.inside.limbs.items,
      ap length c.period.view_is,
      c.period.invariant.0,
    )
