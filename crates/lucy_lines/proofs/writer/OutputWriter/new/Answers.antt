use Rattle.std.proofs.Common.{ℕ, ap, sym, subst, arith}
use Rattle.lucy_lines.specs.Walks.{FitRoom}
use Rattle.lucy_lines.proofs.WalkLaws.{fit_all}
use Rattle.lucy_lines.proofs.writer.OutputWriter.new.Goals as goal

pub invariant_of-result : goal.invariant_of-result
invariant_of-result c =
    let P : ℕ → Type 0 = λ room. FitRoom c.in_ok-walks.walks.items room in (
      omega arith,
      λ whole. record {
        at = c.in_ok-walks.ensures.at;
        fit = subst P (sym (ap (λ lines. lines.room) c.in_ok-lines.ensures)) (fit_all c.args.outputs.now c.in_ok-walks.walks.items 0 c.room_for.result c.in_ok-walks.ensures.at c.room_for.ensures);
        none = ap (λ lines. lines.bytes) c.in_ok-lines.ensures;
      },
    )
