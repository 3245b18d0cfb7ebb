use Rattle.std.proofs.Common.{refl, subst, ◌∙◌, ◌≡◌}
use Rattle.std.specs.Prelude.{[], None}
use Rattle.lucy_command.specs.Commands.{command_of}
use Rattle.lucy_app.specs.Commands.{files_of, most_input}
use Rattle.lucy_app.specs.Operators.{program_operators}
use Rattle.lucy_tables.proofs.EndingLaws.{ends_refused, ends_lent, lent_not_refused, lent_rest}
use Rattle.lucy_tables.proofs.top.lucy_table.Goals as goal

pub returns-in-Ok-clause-ends : goal.returns-in-Ok-clause-ends
returns-in-Ok-clause-ends g c =
    let lent = rw c.in-Ok.field-0-is at c.in-Ok.ensures.begins in
    ends_lent _ _ lent.0 _ _ _ _ _ lent.1 (c.new-host.ensures.ops ∙ lent.2) refl c.lucy.ensures.ends

pub returns-in-Ok-clause-refused : goal.returns-in-Ok-clause-refused
returns-in-Ok-clause-refused g c =
    let lent = rw c.in-Ok.field-0-is at c.in-Ok.ensures.begins in
    λ refused. absurd (lent_not_refused program_operators _ _ _ _ _ lent.1 refused)

pub returns-in-Ok-clause-shelf : goal.returns-in-Ok-clause-shelf
returns-in-Ok-clause-shelf g c =
    let lent = rw c.in-Ok.field-0-is at c.in-Ok.ensures.begins in
    λ rest cut none.
    c.lucy.ensures.shelf (subst (λ r. files_of (command_of r) ≡ []) (lent_rest program_operators _ _ _ _ _ lent.1 [] rest cut) none) ∙ c.lend.ensures.none rest cut

pub returns-in-Ok-clause-source : goal.returns-in-Ok-clause-source
returns-in-Ok-clause-source g c =
    let lent = rw c.in-Ok.field-0-is at c.in-Ok.ensures.begins in
    λ tables rest cut none.
    c.lucy.ensures.source (subst (λ r. most_input (command_of r) ≡ None) (lent_rest program_operators _ _ _ _ _ lent.1 tables rest cut) none)

pub returns-in-Err-clause-ends : goal.returns-in-Err-clause-ends
returns-in-Err-clause-ends g c = ends_refused _ _ _ _ _ _ c.in-Err.ensures.begins refl refl refl c.refuse.ensures.told
