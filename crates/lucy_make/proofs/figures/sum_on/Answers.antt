use Rattle.std.proofs.Common.{ℤ, pos, ◌+◌, ◌+ℤ◌, ◌++◌, take, ap, sym, ◌∙◌, rules}
use Rattle.std.specs.Prelude.{fold}
use Rattle.std.specs.Int.{w64}
use Rattle.std.proofs.lemmas.Int.{wraps, to_z-of_z}
use Rattle.std.proofs.lemmas.List.{take_all}
use Rattle.std.proofs.lemmas.List.Sums.{fold-append, fold_more}
use Rattle.lucy_host.specs.Numbers.{wrapped}
use Rattle.lucy_make.specs.Figures.{sum_of}
use Rattle.lucy_make.proofs.figures.sum_on.Goals as goal

pub each-preserved : goal.each-preserved
each-preserved c = λ prior e.
    let n = c.each.value-index in
    let values = c.args.values.now in
    let sum : ℤ = fold ◌+ℤ◌ (pos 0) prior in
    let so_far = c.each.invariant prior e ∙ ap wrapped (fold-append ◌+ℤ◌ (pos 0) prior (take n values)) in
    let one_more = fold_more ◌+ℤ◌ sum values n (pos 0) c.each-test.true in
    let all = fold-append ◌+ℤ◌ (pos 0) prior (take (n + 1) values) in
    search (rules, wraps, so_far) ∙ ap wrapped (sym one_more) ∙ ap wrapped (sym all)

pub returns : goal.returns
returns c = λ prior e.
    c.each.invariant prior (to_z-of_z w64 c.args.before c.ranges.before ∙ e) ∙ ap (λ xs. sum_of (prior ++ xs)) (take_all c.each.value-index c.args.values.now c.each-test.false)
