use Rattle.std.proofs.Common.{◌≡◌, ◌+◌, ap, sym, ◌∙◌, subst, length, get_or-set_other, length-set, arith}
use Rattle.std.specs.Prelude.{slice_index, sum_by}
use Rattle.lucy_kahn.specs.Below.{Below}
use Rattle.lucy_kahn.specs.Sizes.{capped, total_of}
use Rattle.lucy_kahn.proofs.Tables.{calls_below}
use Rattle.lucy_kahn.proofs.SizeLaws.{below_more, count_node, capped_next}
use Rattle.lucy_kahn.proofs.counting.add_calls.Goals as goal

pub with_calls-all-requires : goal.with_calls-all-requires
with_calls-all-requires c =
    let same = c.each.invariant.0 in
    let below = calls_below c.args.placed.now.nodes c.each.node c.node.result.now c.node.ensures.proper in
    subst (Below (length c.each.counts)) (sym c.list.ensures) (below_more c.each.node (length c.each.counts) c.node.result.now.calls (omega arith) below)

pub each-preserved : goal.each-preserved
each-preserved c =
    let nodes = c.args.placed.now.nodes in
    let counts = c.each.counts in
    let n = c.node.result.now in
    let all = c.with_calls-all.result in
    let same = c.each.invariant.0 in
    let mine = c.each.invariant.2 c.each.node (omega arith) in
    let below = calls_below nodes c.each.node n c.node.ensures.proper in
    let sites = ap (λ ss. capped (slice_index counts c.each.node + sum_by (λ site. slice_index counts site.node) ss)) c.list.ensures in (
      length-set counts c.each.node all ∙ same,
      λ own is.
          let known = c.each.invariant.1 own is in
          let value = c.with_calls-all.ensures ∙ sites ∙ count_node own nodes counts c.each.node (slice_index counts c.each.node) n c.node.ensures.is below known (mine ∙ is c.each.node n c.node.ensures.is) in
          capped_next (total_of own nodes) counts c.each.node all (omega arith) known value,
      λ i l. get_or-set_other counts c.each.node i all 0 (λ (e : i ≡ c.each.node). omega arith) ∙ c.each.invariant.2 i (omega arith),
    )
