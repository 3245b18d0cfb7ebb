use Rattle.std.proofs.Common.{◌<◌, length, arith}
use Rattle.lucy_core.proofs.CursorLaws.{count_inside, passes_one}
use Rattle.lucy_core.proofs.cursor.pass.Goals as goal

pub index_mut-requires : goal.index_mut-requires
index_mut-requires c =
    let inside : c.args.actor < length c.args.done.now = count_inside c.args.done.now c.args.actor (omega (arith, c.if-count_at-before.false, c.count_at.ensures)) in
    omega (arith, c.requires, inside)

pub returns-clause-yes : goal.returns-clause-yes
returns-clause-yes c = λ _.
    passes_one c.args.passed.now.items c.deref.result.now c.args.done.now c.args.actor c.count_at-before.result c.count_at.result c.deref.ensures.value c.count_at-before.ensures c.count_at.ensures c.if-count_at-before.false c.requires
