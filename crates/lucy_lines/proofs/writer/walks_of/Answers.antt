use Rattle.std.proofs.Common.{◌≡◌, List, Some, ap, sym, ◌∙◌, subst, arith}
use Rattle.std.specs.List.{slice_get}
use Rattle.std.proofs.lemmas.Option.{slice_get-get_or}
use Rattle.lucy_lines.specs.Walks.{WalkState}
use Rattle.lucy_lines.proofs.WalkLaws.{AreNew, one_more_new}
use Rattle.lucy_lines.proofs.writer.walks_of.Goals as goal

pub loop-output-preserved : goal.loop-output-preserved
loop-output-preserved c =
    let o = c.output-item.result in
    let is : slice_get c.args.outputs.now c.loop-output.output-index ≡ Some o = slice_get-get_or c.args.outputs.now c.loop-output.output-index o (omega arith) ∙ ap (λ p. Some p) (sym c.output-item.is) in
    let P : List WalkState → Type 0 = λ walks. AreNew c.args.outputs.now walks in
    record {
      count = omega (arith, c.in_ok-push.ensures.len, c.loop-output.invariant.count);
      each = subst P (sym c.in_ok-push.ensures.items)
          (one_more_new c.args.outputs.now c.loop-output.walks.items c.loop-output.output-index o c.new.result c.loop-output.invariant.count is c.new.ensures c.loop-output.invariant.each);
    }
