use Rattle.std.proofs.Common.{◌≡◌, ◌+◌, map, ap, ◌∙◌, arith}
use Rattle.std.specs.List.{range_with_len}
use Rattle.lucy_need.specs.Meeting.{alone}
use Rattle.lucy_solve.specs.System.{DifferenceSystem}
use Rattle.lucy_shape.specs.Added.{with_rows}
use Rattle.lucy_shape.specs.Inequalities.{instances}
use Rattle.lucy_shape.specs.Sized.{size_row}
use Rattle.lucy_shape.proofs.Adding.{step_map}
use Rattle.lucy_shape.proofs.SizeLaws.{size_count, near_folds}
use Rattle.lucy_shape.proofs.sizing.add_size.Goals as goal

pub instance-diff-requires-clause-first : goal.instance-diff-requires-clause-first
instance-diff-requires-clause-first c =
    let few = c.rows_of_size-k-end.ensures.few in
    near_folds c.args.period c.args.diffs.now.count (c.loop-k.k + 1) _ c.requires.ready.3.placed c.requires.small.few (omega arith) (let t = c.loop-k-test.true in omega arith) c.requires.small.short

pub instance-diff-requires-clause-second : goal.instance-diff-requires-clause-second
instance-diff-requires-clause-second c =
    let few = c.rows_of_size-k-end.ensures.few in
    near_folds c.args.period c.args.diffs.now.count (c.loop-k.k + 1 + c.args.size) _ c.requires.ready.2.placed c.requires.small.few (omega arith) (let t = c.loop-k-test.true in let s = c.requires.size in omega arith) c.requires.small.short

pub add-requires : goal.add-requires
add-requires c =
    let e = ap (λ (s : DifferenceSystem). s.count) c.loop-k.invariant in
    let a = c.requires.ready.2.placed.within in
    let b = c.requires.ready.3.placed.within in
    c.instance-diff.ensures.proper c.loop-k.diffs.count (omega arith) (omega arith)

pub loop-k-preserved : goal.loop-k-preserved
loop-k-preserved c =
    let f = size_row c.args.period c.args.clocks.now c.args.from c.args.to c.args.size in
    step_map c.args.diffs.now c.loop-k.diffs c.add.new.diffs f 1 c.loop-k.k c.instance-diff.result c.loop-k.invariant c.in_ok-add.ensures.ok
    (c.instance-diff.ensures.row ∙ ap f (let e : c.loop-k.k + 1 ≡ 1 + c.loop-k.k = omega arith in e))

pub returns-clause-ok : goal.returns-clause-ok
returns-clause-ok c =
    let f = size_row c.args.period c.args.clocks.now c.args.from c.args.to c.args.size in
    let all : c.loop-k.k ≡ instances c.args.clocks.now (alone c.args.from) (alone c.args.to) =
    omega (arith, c.loop-k-test.false, c.loop-k.auto.k-end, c.rows_of_size-k-end.ensures.count c.args.period c.args.size, size_count c.args.period c.args.clocks.now c.args.from c.args.to c.args.size) in
    c.loop-k.invariant ∙ ap (λ n. with_rows c.args.diffs.now (map f (range_with_len 1 n))) all
