use Rattle.std.proofs.Common.{◌<◌, length, refl, sym, subst, arith}
use Rattle.std.proofs.lemmas.Option.{slice_get_read}
use Rattle.lucy_net.specs.declared.net.RingSpec.{RingSpec}
use Rattle.lucy_runner.proofs.JoiningLaws.{join_none, join_more, few_on_the_way}
use Rattle.lucy_runner.proofs.joining.join_all.Goals as goal

pub loop-spec-init : goal.loop-spec-init
loop-spec-init c = join_none c.args.rings.now c.args.parts.now c.new-ends.result.items c.requires.none c.new-ends.ensures.items

pub join-requires-clause-few : goal.join-requires-clause-few
join-requires-clause-few c = few_on_the_way c.args.rings.now c.loop-spec.spec-index c.args.parts.now c.loop-spec.parts c.loop-spec.ends.items c.loop-spec.invariant (omega arith)

pub loop-spec-preserved : goal.loop-spec-preserved
loop-spec-preserved c =
    let at = slice_get_read c.args.rings.now (length c.args.rings.now) c.loop-spec.spec-index c.spec-item.result refl c.loop-spec-test.true c.spec-item.is in
    let there : (c.spec-item.result.from < length c.args.parts.now) × (c.spec-item.result.to < length c.args.parts.now) =
    subst (λ (x : RingSpec). (x.from < length c.args.parts.now) × (x.to < length c.args.parts.now)) (sym c.spec-item.is) (c.requires.actors c.loop-spec.spec-index c.spec-item.result c.loop-spec-test.true) in
    join_more c.args.rings.now c.loop-spec.spec-index c.spec-item.result c.args.parts.now c.loop-spec.parts c.join.new.parts c.loop-spec.ends.items c.push.new.self.items c.in_ok-at.at
    c.loop-spec.invariant at c.in_ok-at.ensures c.in_ok-push.ensures.items there.0 there.1
