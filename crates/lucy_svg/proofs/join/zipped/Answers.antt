use Rattle.std.proofs.Common.{[], ◌∷◌, ◌++◌, sym, ap, ◌∙◌, arith}
use Rattle.std.proofs.lemmas.List.FromFn.{map-range_with_len_more}
use Rattle.lucy_svg.specs.Ones.{join_at}
use Rattle.lucy_svg.proofs.join.zipped.Goals as goal

pub each-preserved : goal.each-preserved
each-preserved c =
    let f = join_at c.args.written.now c.args.read.now in
    c.in_ok-push.ensures ∙ ap (λ l. l ++ f c.each.i ∷ []) c.each.invariant
    ∙ sym (map-range_with_len_more f 0 c.each.i c.each.i (omega arith))
