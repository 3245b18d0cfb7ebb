use Rattle.std.proofs.Common.{ℕ, ◌≤◌, List, length, ap, sym, subst, ◌∙◌, arith}
use Rattle.lucy_lines.specs.Outputs.{lines_after}
use Rattle.lucy_text.specs.Outside.{Writes, Fails}
use Rattle.lucy_lines.specs.Writing.{WriterState}
use Rattle.lucy_lines.proofs.OutputLaws.{lines_from_first}
use Rattle.lucy_lines.proofs.write.write_outputs.Goals as goal

pub write-requires : goal.write-requires
write-requires g c =
    let new = c.in_ok-writer.ensures.new in
    let lists = c.requires in
    record {
      whole = ap (λ s. s.broken) new;
      lists = (let P : WriterState → Type 0 = λ s. length s.outputs ≤ length c.args.lists.now in subst P (sym new) lists);
      later = (let P : WriterState → Type 0 = λ s. s.instants ≤ c.args.instants in let none : 0 ≤ c.args.instants = omega arith in subst P (sym new) none);
    }

pub returns-clause-ok : goal.returns-clause-ok
returns-clause-ok g c =
    let P : List ℕ → Type 0 = λ text. Writes (g.K.Sink.seen c.args.sink.now) (g.K.Sink.seen c.write.new.sink) text in
    let f : WriterState → List ℕ = λ s. lines_after s.outputs c.args.lists.now s.instants c.args.instants in
    subst P (ap f c.in_ok-writer.ensures.new ∙ lines_from_first c.args.outputs.now c.args.lists.now c.args.instants) c.in_ok-write.ensures.ok

pub returns-in_err-write-clause-failed : goal.returns-in_err-write-clause-failed
returns-in_err-write-clause-failed g c = λ failed.
    let P : List ℕ → Type 0 = λ text. Fails (g.K.Sink.seen c.args.sink.now) (g.K.Sink.seen c.write.new.sink) text in
    let f : WriterState → List ℕ = λ s. lines_after s.outputs c.args.lists.now s.instants c.args.instants in
    subst P (ap f c.in_ok-writer.ensures.new ∙ lines_from_first c.args.outputs.now c.args.lists.now c.args.instants) c.in_err-write.ensures.failed

pub returns-clause-untouched : goal.returns-clause-untouched
returns-clause-untouched g c = λ empty.
    let f : WriterState → List ℕ = λ s. lines_after s.outputs c.args.lists.now s.instants c.args.instants in
    c.in_ok-write.ensures.untouched (ap f c.in_ok-writer.ensures.new ∙ lines_from_first c.args.outputs.now c.args.lists.now c.args.instants ∙ empty)

pub returns-in_err-write-clause-untouched : goal.returns-in_err-write-clause-untouched
returns-in_err-write-clause-untouched g c = λ empty.
    let f : WriterState → List ℕ = λ s. lines_after s.outputs c.args.lists.now s.instants c.args.instants in
    c.in_err-write.ensures.untouched (ap f c.in_ok-writer.ensures.new ∙ lines_from_first c.args.outputs.now c.args.lists.now c.args.instants ∙ empty)
