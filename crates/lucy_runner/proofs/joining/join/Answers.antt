use Rattle.std.proofs.Common.{◌<◌, List, length, get_or, set, arith}
use Rattle.std.proofs.lemmas.Option.{slice_get-get_or}
use Rattle.std.proofs.lemmas.List.{length-set}
use Rattle.lucy_worker.specs.declared.part.Part.{Part}
use Rattle.lucy_runner.proofs.EndingLaws.{ends_gained}
use Rattle.lucy_runner.proofs.joining.join.Goals as goal

pub returns : goal.returns
returns c =
    let mid : List Part = set c.args.parts.now c.args.spec.now.from c.add_giver.new.part in
    let l : c.args.spec.now.to < length mid = omega (arith, c.requires.to, length-set c.args.parts.now c.args.spec.now.from c.add_giver.new.part) in
    ends_gained c.args.parts.now c.args.spec.now _ c.in_ok-giver.giver c.in_ok-giver.taker
    (get_or c.args.parts.now c.args.spec.now.from c.index-parts-spec.result) c.add_giver.new.part (get_or mid c.args.spec.now.to c.index-parts-spec-2.result) c.add_taker.new.part
    c.in_ok-giver.ensures
    (slice_get-get_or c.args.parts.now c.args.spec.now.from c.index-parts-spec.result c.requires.from) c.in_ok-from.ensures.gained
    (slice_get-get_or mid c.args.spec.now.to c.index-parts-spec-2.result l) c.in_ok-to.ensures.gained
    c.in_ok-from.ensures.at c.in_ok-to.ensures.at
