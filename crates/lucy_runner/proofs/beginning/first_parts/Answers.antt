use Rattle.std.proofs.Common.{length, ap, refl, arith, length-append}
use Rattle.std.specs.Prelude.{[], ◌∷◌}
use Rattle.std.proofs.lemmas.Option.{slice_get_read}
use Rattle.lucy_runner.proofs.BegunLaws.{parts_more}
use Rattle.lucy_runner.proofs.beginning.first_parts.Goals as goal

pub loop-number-preserved : goal.loop-number-preserved
loop-number-preserved c =
    let at = slice_get_read c.args.actors.now (length c.args.actors.now) c.loop-number.number c.index-actors-number.result refl c.loop-number-test.true c.index-actors-number.is in
    record {
      count = omega (arith, ap length c.in_ok-push.ensures.items, length-append c.loop-number.parts.items (c.in_ok-part.part ∷ []), c.loop-number.invariant.count);
      each = parts_more c.args.inputs.now c.args.instants c.loop-number.number c.args.actors.now c.loop-number.parts.items c.push.new.self.items c.index-actors-number.result c.in_ok-part.part c.loop-number.invariant.count at c.in_ok-push.ensures.items c.loop-number.invariant.each c.in_ok-part.ensures;
    }
