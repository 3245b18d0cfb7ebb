use Rattle.std.proofs.Common.{◌≡◌, ◌+◌, ℕ, ap, ◌∙◌, arith}
use Rattle.lucy_solve.specs.System.{DifferenceSystem}
use Rattle.lucy_shape.specs.Index.{index_of}
use Rattle.lucy_shape.specs.Rows.{row}
use Rattle.lucy_shape.proofs.Adding.{step_map}
use Rattle.lucy_shape.proofs.Firsts.{firsts_at, term_fits, term_fold, row_same}
use Rattle.lucy_shape.proofs.instances.add_adapt.Goals as goal

pub positions-requires-clause-fits : goal.positions-requires-clause-fits
positions-requires-clause-fits c = term_fits c.args.diffs.now.count c.args.first.now c.args.u.now c.args.count c.requires.first c.requires.small.few c.requires.few

pub positions-requires-2-clause-fits : goal.positions-requires-2-clause-fits
positions-requires-2-clause-fits c = term_fits c.args.diffs.now.count c.args.second.now c.args.v.now c.args.count c.requires.second c.requires.small.few c.requires.few

pub instance-diff-requires-clause-first : goal.instance-diff-requires-clause-first
instance-diff-requires-clause-first c =
    term_fold c.args.period c.args.diffs.now.count c.args.first.now c.args.u.now c.args.count c.loop-k.k c.index.result.now c.requires.first c.requires.small.few c.requires.few c.requires.small.short
    c.loop-k-test.true (firsts_at c.args.u.now c.args.count c.loop-k.k c.index.result.now c.in_ok-before.before.items c.in_ok-before.ensures.firsts c.loop-k-test.true c.index.ensures)

pub instance-diff-requires-clause-second : goal.instance-diff-requires-clause-second
instance-diff-requires-clause-second c =
    term_fold c.args.period c.args.diffs.now.count c.args.second.now c.args.v.now c.args.count c.loop-k.k c.index-in-loop-k.result.now c.requires.second c.requires.small.few c.requires.few c.requires.small.short
    c.loop-k-test.true (firsts_at c.args.v.now c.args.count c.loop-k.k c.index-in-loop-k.result.now c.in_ok-after.after.items c.in_ok-after.ensures.firsts c.loop-k-test.true c.index-in-loop-k.ensures)

pub add-requires : goal.add-requires
add-requires c =
    let e = ap (λ (s : DifferenceSystem). s.count) c.loop-k.invariant in
    let a = c.requires.first.placed.within in
    let b = c.requires.second.placed.within in
    c.instance-diff.ensures.proper c.loop-k.diffs.count (omega arith) (omega arith)

pub loop-k-preserved : goal.loop-k-preserved
loop-k-preserved c =
    let f = λ (k : ℕ). row c.args.period c.args.first.now (index_of c.args.u.now k) c.args.second.now (index_of c.args.v.now k) in
    let l = c.loop-k-test.true in
    let m = firsts_at c.args.u.now c.args.count c.loop-k.k c.index.result.now c.in_ok-before.before.items c.in_ok-before.ensures.firsts l c.index.ensures in
    let n = firsts_at c.args.v.now c.args.count c.loop-k.k c.index-in-loop-k.result.now c.in_ok-after.after.items c.in_ok-after.ensures.firsts l c.index-in-loop-k.ensures in
    step_map c.args.diffs.now c.loop-k.diffs c.add.new.diffs f 1 c.loop-k.k c.instance-diff.result c.loop-k.invariant c.in_ok-add.ensures.ok
    (c.instance-diff.ensures.row ∙ row_same c.args.period c.args.first.now c.args.second.now _ _ _ _ m n ∙ ap f (let e : c.loop-k.k + 1 ≡ 1 + c.loop-k.k = omega arith in e))
