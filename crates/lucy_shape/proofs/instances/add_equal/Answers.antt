use Rattle.std.proofs.Common.{◌≡◌, ◌+◌, ◌∷◌, [], ℕ, ap, ◌∙◌, arith}
use Rattle.lucy_solve.specs.System.{DifferenceSystem}
use Rattle.lucy_shape.specs.Index.{index_of}
use Rattle.lucy_shape.specs.Rows.{row}
use Rattle.lucy_shape.proofs.Adding.{step_flat, pair_is}
use Rattle.lucy_shape.proofs.Firsts.{firsts_at, term_fits, term_fold, row_same}
use Rattle.lucy_shape.proofs.instances.add_equal.Goals as goal

pub positions-requires-clause-fits : goal.positions-requires-clause-fits
positions-requires-clause-fits c = term_fits c.args.diffs.now.count c.args.first.now c.args.u.now c.args.count c.requires.first c.requires.small.few c.requires.few

pub positions-requires-2-clause-fits : goal.positions-requires-2-clause-fits
positions-requires-2-clause-fits c = term_fits c.args.diffs.now.count c.args.second.now c.args.v.now c.args.count c.requires.second c.requires.small.few c.requires.few

pub instance-one-requires-clause-first : goal.instance-one-requires-clause-first
instance-one-requires-clause-first c =
    term_fold c.args.period c.args.diffs.now.count c.args.first.now c.args.u.now c.args.count c.loop-k.k c.index-left.result.now c.requires.first c.requires.small.few c.requires.few c.requires.small.short
    c.loop-k-test.true (firsts_at c.args.u.now c.args.count c.loop-k.k c.index-left.result.now c.in_ok-before.before.items c.in_ok-before.ensures.firsts c.loop-k-test.true c.index-left.ensures)

pub instance-one-requires-clause-second : goal.instance-one-requires-clause-second
instance-one-requires-clause-second c =
    term_fold c.args.period c.args.diffs.now.count c.args.second.now c.args.v.now c.args.count c.loop-k.k c.index-right.result.now c.requires.second c.requires.small.few c.requires.few c.requires.small.short
    c.loop-k-test.true (firsts_at c.args.v.now c.args.count c.loop-k.k c.index-right.result.now c.in_ok-after.after.items c.in_ok-after.ensures.firsts c.loop-k-test.true c.index-right.ensures)

pub instance-two-requires-clause-first : goal.instance-two-requires-clause-first
instance-two-requires-clause-first c =
    term_fold c.args.period c.args.diffs.now.count c.args.second.now c.args.v.now c.args.count c.loop-k.k c.index-right.result.now c.requires.second c.requires.small.few c.requires.few c.requires.small.short
    c.loop-k-test.true (firsts_at c.args.v.now c.args.count c.loop-k.k c.index-right.result.now c.in_ok-after.after.items c.in_ok-after.ensures.firsts c.loop-k-test.true c.index-right.ensures)

pub instance-two-requires-clause-second : goal.instance-two-requires-clause-second
instance-two-requires-clause-second c =
    term_fold c.args.period c.args.diffs.now.count c.args.first.now c.args.u.now c.args.count c.loop-k.k c.index-left.result.now c.requires.first c.requires.small.few c.requires.few c.requires.small.short
    c.loop-k-test.true (firsts_at c.args.u.now c.args.count c.loop-k.k c.index-left.result.now c.in_ok-before.before.items c.in_ok-before.ensures.firsts c.loop-k-test.true c.index-left.ensures)

pub add_pair-requires-clause-one : goal.add_pair-requires-clause-one
add_pair-requires-clause-one c =
    let e = ap (λ (s : DifferenceSystem). s.count) c.loop-k.invariant in
    let a = c.requires.first.placed.within in
    let b = c.requires.second.placed.within in
    c.instance-one.ensures.proper c.loop-k.diffs.count (omega arith) (omega arith)

pub add_pair-requires-clause-two : goal.add_pair-requires-clause-two
add_pair-requires-clause-two c =
    let e = ap (λ (s : DifferenceSystem). s.count) c.loop-k.invariant in
    let a = c.requires.first.placed.within in
    let b = c.requires.second.placed.within in
    c.instance-two.ensures.proper c.loop-k.diffs.count (omega arith) (omega arith)

pub loop-k-preserved : goal.loop-k-preserved
loop-k-preserved c =
    let there = λ (k : ℕ). row c.args.period c.args.first.now (index_of c.args.u.now k) c.args.second.now (index_of c.args.v.now k) in
    let back = λ (k : ℕ). row c.args.period c.args.second.now (index_of c.args.v.now k) c.args.first.now (index_of c.args.u.now k) in
    let l = c.loop-k-test.true in
    let m = firsts_at c.args.u.now c.args.count c.loop-k.k c.index-left.result.now c.in_ok-before.before.items c.in_ok-before.ensures.firsts l c.index-left.ensures in
    let n = firsts_at c.args.v.now c.args.count c.loop-k.k c.index-right.result.now c.in_ok-after.after.items c.in_ok-after.ensures.firsts l c.index-right.ensures in
    let e : c.loop-k.k + 1 ≡ 1 + c.loop-k.k = omega arith in
    step_flat c.args.diffs.now c.loop-k.diffs c.add_pair.new.diffs (λ k. there k ∷ back k ∷ []) 1 c.loop-k.k (c.instance-one.result ∷ c.instance-two.result ∷ []) c.loop-k.invariant c.in_ok-add_pair.ensures.ok
    (pair_is _ _ _ _ (c.instance-one.ensures.row ∙ row_same c.args.period c.args.first.now c.args.second.now _ _ _ _ m n)
    (c.instance-two.ensures.row ∙ row_same c.args.period c.args.second.now c.args.first.now _ _ _ _ n m) ∙ ap (λ k. there k ∷ back k ∷ []) e)
