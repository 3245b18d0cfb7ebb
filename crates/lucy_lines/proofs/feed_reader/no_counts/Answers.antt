use Rattle.std.proofs.Common.{ℕ, ◌≡◌, List, subst, sym, arith}
use Rattle.std.specs.Prelude.{slice_index_or}
use Rattle.lucy_lines.proofs.ListLaws.{zeros_more}
use Rattle.lucy_lines.proofs.feed_reader.no_counts.Goals as goal

pub loop-preserved : goal.loop-preserved
loop-preserved c =
    let P : List ℕ → Type 0 = λ u. (i : ℕ) → slice_index_or u i 0 ≡ 0 in
    record {
      many = omega (arith, c.in_ok-push.ensures.len, c.loop.invariant.many);
      none = subst P (sym c.in_ok-push.ensures.items) (zeros_more c.loop.counts.items c.loop.invariant.none);
    }
