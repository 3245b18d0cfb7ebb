use Rattle.std.proofs.Common.{[], ◌++◌, refl, ap, sym, ◌∙◌, arith}
use Rattle.lucy_run.specs.Owes.{most_instants}
use Rattle.lucy_make.proofs.FirstLaws.{begin, within, told_on}
use Rattle.lucy_make.proofs.blocks.tell.Goals as goal

pub blocks-2-init : goal.blocks-2-init
blocks-2-init g c = record {
  follows = λ p first can along at. ([], along, begin c.first_goes_on.ensures.short p first (g.I.Source.seen c.args.source.now) c.args.course.now can along at);
  given = refl;
}

pub next_block-requires-clause-kinds : goal.next_block-requires-clause-kinds
next_block-requires-clause-kinds g c κs within =
    let (p, first, can, along, at, kinds) = c.requires.first in
    let (all, now, told) = c.blocks-2.invariant.follows p first can along at in
    kinds ∙ sym now.run.kinds

pub next_block-requires-clause-under_way : goal.next_block-requires-clause-under_way
next_block-requires-clause-under_way g c κs within =
    let (p, first, can, along, at, kinds) = c.requires.first in
    let (all, now, told) = c.blocks-2.invariant.follows p first can along at in
    (p, first, all, can, now)

pub add-requires : goal.add-requires
add-requires g c =
    let (p, first, can, along, at, kinds) = c.requires.first in
    let (all, now, told) = c.blocks-2.invariant.follows p first can along at in
    let next = c.in_ok-streams.ensures.goes_on p first all can now in
    let few = within c.first_goes_on.ensures.goes_on c.first_goes_on.ensures.short p can first all _ _ c.blocks-2.course c.next_block.new.self now c.in_ok-streams.streams next
    c.get.result.now c.get.ensures c.blocks-2.tally.count told.counted in
    omega (arith, few)

pub blocks-2-smaller : goal.blocks-2-smaller
blocks-2-smaller g c =
    let same = ap most_instants c.in_ok-streams.ensures.given in
    omega (arith, same, c.in_ok-streams.ensures.ahead, (c.goes_on.ensures.more c.blocks-2-test.true).1)

pub blocks-2-preserved : goal.blocks-2-preserved
blocks-2-preserved g c = record {
  follows = λ p first can along at.
      let (all, now, told) = c.blocks-2.invariant.follows p first can along at in
      let next = c.in_ok-streams.ensures.goes_on p first all can now in (
        all ++ next.more,
        next.along,
        told_on c.first_goes_on.ensures.goes_on c.first_goes_on.ensures.short p can first all _ _ c.blocks-2.course c.next_block.new.self now c.in_ok-streams.streams next c.get.result.now c.get.ensures
            c.blocks-2.tally.count c.add.new.self.count c.blocks-2.tally.sum c.add.new.self.sum told c.add.ensures.count c.add.ensures.sum,
      );
  given = c.in_ok-streams.ensures.given ∙ c.blocks-2.invariant.given;
}

pub returns-clause-tells : goal.returns-clause-tells
returns-clause-tells g c = λ p first can along at.
    let (all, now, told) = c.blocks-2.invariant.follows p first can along at in
    (all, now, c.goes_on.ensures.stopped c.blocks-2-test.false, told)
