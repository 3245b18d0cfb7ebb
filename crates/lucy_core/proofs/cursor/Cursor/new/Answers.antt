use Rattle.std.proofs.Common.{ℕ, ◌≡◌, length, ap, refl, ◌∙◌}
use Rattle.std.specs.Prelude.{replicate}
use Rattle.std.proofs.lemmas.List.{length-replicate}
use Rattle.lucy_core.proofs.CursorLaws.{first_in}
use Rattle.lucy_core.proofs.cursor.Cursor.new.Goals as goal

pub go_on-requires-clause-within : goal.go_on-requires-clause-within
go_on-requires-clause-within c =
    let n : ℕ = c.requires.none.0 in
    let same : length c.args.done.now ≡ n = ap length c.requires.none.1 ∙ length-replicate n 0 in
    let passed : c.in_ok-passed.passed.items ≡ replicate n 0 = c.in_ok-passed.ensures.items_if_clones_equal (λ y e. e) ∙ ap (λ k. replicate k 0) same in
    first_in c.args.schedule.now c.args.instants n c.args.done.now _ c.requires.none.1 passed refl c.row-row.ensures.there (ap length c.events_of.ensures)
