use Rattle.std.proofs.Common.{arith}
use Rattle.lucy_shape.proofs.SizeLaws.{size_count, alone_instances}
use Rattle.lucy_shape.proofs.sizing.rows_of_size.Goals as goal

pub returns-clause-count : goal.returns-clause-count
returns-clause-count c period size =
    omega (arith, c.max.ensures, size_count period c.args.clocks.now c.args.from c.args.to size, alone_instances c.args.clocks.now c.args.from c.args.to)

pub returns-clause-few : goal.returns-clause-few
returns-clause-few c =
    let a = c.requires.2.placed in
    let b = c.requires.3.placed in
    omega (arith, c.max.ensures, a.some, a.first, a.within, b.some, b.first, b.within)
