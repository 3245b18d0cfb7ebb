use Rattle.std.proofs.Common.{◌≡◌, Bool, true, false, not, get_or, List, refl, rules, arith, sym, subst}
use Rattle.lucy_solve.specs.declared.diffs.Diff.{Diff}
use Rattle.lucy_solve.specs.System.{diff_at}
use Rattle.lucy_explain.specs.Folded.{GoesOn}
use Rattle.lucy_explain.proofs.LineLaws.{folding_step}
use Rattle.lucy_explain.proofs.line.line_of.Goals as goal

not_false : (b : Bool) → not b ≡ false → b ≡ true
not_false true e = refl
not_false false e = (cc)

not_true : (b : Bool) → not b ≡ true → b ≡ true → ⊥
not_true true e f = (cc)
not_true false e f = (cc)

pub more-preserved : goal.more-preserved
more-preserved c =
    let ok : c.goes_on.result ≡ true = search (rules, not_false) in
    folding_step c.args.diffs.now c.args.streams.now c.args.positions.now c.more.k c.more.line c.longer-line.result c.list-list.result.now c.list-list.ensures.list c.list-list.ensures.proper
    c.more.invariant (omega arith) (c.requires.there c.more.k 0 (omega arith)) (c.goes_on.ensures.joined ok) (c.goes_on.ensures.within ok) (c.goes_on.ensures.more ok) c.longer-line.ensures.left
    c.longer-line.ensures.right c.longer-line.ensures.most c.longer-line.ensures.count

pub returns-then-not-goes_on-clause-longest : goal.returns-then-not-goes_on-clause-longest
returns-then-not-goes_on-clause-longest c = λ l m on.
    let count = c.more.invariant.count in
    let here : GoesOn c.args.streams.now c.more.line (diff_at c.list-list.result.now (get_or c.args.positions.now c.more.k 0)) =
    subst (λ (ds : List Diff). GoesOn c.args.streams.now c.more.line (diff_at ds (get_or c.args.positions.now c.more.k 0))) (sym c.list-list.ensures.list)
    (subst (λ n. GoesOn c.args.streams.now c.more.line (diff_at c.args.diffs.now.list (get_or c.args.positions.now n 0))) count on) in
    let yes = c.goes_on.ensures.exact here in
    absurd (search (rules, not_true))

pub returns-clause-longest : goal.returns-clause-longest
returns-clause-longest c = λ l m on. let count = c.more.invariant.count in absurd (omega arith)
