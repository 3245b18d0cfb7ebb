use Rattle.std.proofs.Common.{◌∷◌, ◌++◌, [], inl, inr, arith}
use Rattle.lucy_tables.proofs.LoadingLaws.{next_fetched, next_refused, next_step, next_fits}
use Rattle.lucy_tables.proofs.RefusalLaws.{memory_answered}
use Rattle.lucy_tables.proofs.loading.load.Goals as goal

pub returns-in-Err-clause-loads : goal.returns-in-Err-clause-loads
returns-in-Err-clause-loads g c =
    let k = c.each.invariant.loaded in
    let h = c.in-Err.ensures.fetched in (
      k.0 ++ h.0 ∷ [],
      next_fetched c.args.tables.now c.each.words-index _ c.each-test.true k.0 k.1 k.3 h.0 _ _ _ k.2 h.1,
      elim h.2 [
        | inl e ↦ inl e
        | inr r ↦ inr (next_refused c.args.tables.now c.each.words-index _ c.each-test.true k.0 k.1 k.3 h.0 _ r)
      ],
    )

pub add-requires : goal.add-requires
add-requires g c =
    let k = c.each.invariant.loaded in
    next_fits c.args.tables.now c.each.words-index k.0 c.args.ops.now c.each.ops k.1 _ c.each-test.true k.3 k.4 c.requires

pub returns-in_err-add-clause-loads : goal.returns-in_err-add-clause-loads
returns-in_err-add-clause-loads g c =
    let k = c.each.invariant.loaded in
    let h = c.in-Ok.ensures.fetched in
    (k.0 ++ h.0 ∷ [], next_fetched c.args.tables.now c.each.words-index _ c.each-test.true k.0 k.1 k.3 h.0 _ _ _ k.2 h.1, memory_answered c.from_residual.result _ _ c.from_residual.ensures.1)

pub each-preserved : goal.each-preserved
each-preserved g c =
    let k = c.each.invariant.loaded in
    let h = c.in-Ok.ensures.fetched in record {
      loaded = next_step c.args.tables.now c.each.words-index _ c.each-test.true k.0 k.1 k.3 h.0 _ _ _ c.in-Ok.table c.args.ops.now c.each.ops _ k.2 k.4 h.1 h.2 c.in_ok-add.ensures;
      none = λ e. absurd (omega (arith, e));
      count = omega (arith, c.each.invariant.count, c.in-Ok.ensures.count);
    }
