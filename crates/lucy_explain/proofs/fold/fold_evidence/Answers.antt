use Rattle.std.proofs.Common.{◌≡◌, ap, subst, ◌∙◌}
use Rattle.lucy_explain.specs.Folded.{AreOfOneStream, AreLongest}
use Rattle.lucy_explain.specs.Streams.{variable_streams}
use Rattle.lucy_explain.proofs.fold.fold_evidence.Goals as goal

pub returns : goal.returns
returns c =
    let n = c.args.needs.now.clocks in
    let told = c.in_ok-told.told in
    let found = c.in_ok-streams.ensures.are in
    let e : c.deref.result.now ≡ variable_streams n found.0 c.args.shape.now.clocks = c.deref.ensures.value ∙ found.2 in
    record {
      streams = found.0;
      are = found.1;
      turned = c.in_ok-told.ensures.turned;
      fold = c.in_ok-told.ensures.fold;
      stream = subst (λ s. AreOfOneStream s c.args.diffs.now.list told.cycle.items told.lines.items) e c.in_ok-told.ensures.stream;
      longest = subst (λ s. AreLongest s c.args.diffs.now.list told.cycle.items told.lines.items) e c.in_ok-told.ensures.longest;
    }
