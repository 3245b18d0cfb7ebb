use Rattle.std.proofs.Common.{ℕ, List, ◌≡◌, ◌+◌, ◌++◌, drop}
use Rattle.std.specs.Prelude.{codes}
use Rattle.lucy_word.specs.Spelling.{text_of}
use Rattle.lucy_types.specs.Tables.{table_at}
use Rattle.lucy_need.specs.Meeting.{assigned}
use Rattle.lucy_program.specs.Report.{name_lines}
use Rattle.lucy_program.proofs.printing.name_lines.Given as goal

abbrev pub invariant-each : goal.invariant-each
invariant-each l =
    let said : ℕ → List ℕ = λ place. codes " :: " ++ text_of (assigned l.words place) in
    l.out.items ++ name_lines l.main said (1 + l.i) (drop l.i l.entries) (drop l.i (table_at l.typed l.node))
    ≡ l.initial.out.items ++ name_lines l.main said 1 l.entries (table_at l.typed l.node)
