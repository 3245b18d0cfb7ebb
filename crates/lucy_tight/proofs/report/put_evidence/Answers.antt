use Rattle.std.proofs.Common.{◌-◌, ◌++◌, length, ap, sym, ◌∙◌, subst, arith, append-nil}
use Rattle.std.proofs.lemmas.Result.{on_ok_weaker}
use Rattle.lucy_front.specs.Evidence.{variable_names, cycle_lines}
use Rattle.lucy_front.specs.Refusals.{AreBelow}
use Rattle.lucy_tight.proofs.ReportLaws.{too_small, none_less, one_less, two}
use Rattle.lucy_tight.proofs.report.put_evidence.Goals as goal

pub returns-then-tight-eq0 : goal.returns-then-tight-eq0
returns-then-tight-eq0 c = λ n e.
    let t = c.args.tight.now in
    sym (ap (λ l. c.args.out.now.items ++ l) (none_less n t.least t c.if-tight-eq0.true) ∙ append-nil c.args.out.now.items)

pub cycle_text-requires-clause-there : goal.cycle_text-requires-clause-there
cycle_text-requires-clause-there c =
    let more = c.if-tight-eq0.false in
    subst (AreBelow (length c.args.tight.now.diffs.list)) (sym c.deref.ensures.value) (c.requires.there (omega arith))

pub returns : goal.returns
returns c = λ n e.
    let t = c.args.tight.now in
    let more = c.if-tight-eq0.false in
    let start = c.args.out.now.items in
    let lines = cycle_lines (variable_names n t.shape.clocks) t.diffs.list t.cycle.items in
    let first = c.put_less.new.out.items in
    let cycle = c.deref-2.ensures.value ∙ c.in_ok-cycle.ensures n e
    ∙ ap (cycle_lines (variable_names n t.shape.clocks) t.diffs.list) c.deref.ensures.value in
    on_ok_weaker c.bytes.result (λ last.
    two (too_small (t.least - 1) t.shape.period) lines start first c.bytes.new.out.items
    c.in_ok-put_less.ensures (last ∙ ap (λ l. first ++ l) cycle)
    ∙ ap (λ l. start ++ l) (sym (one_less n t.least t (omega arith)))) c.bytes.ensures
