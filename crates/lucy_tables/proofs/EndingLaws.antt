-- Laws of how the call ends.
use Rattle.std.proofs.Common.{ℕ, ◌≡◌, ◌⊎◌, List, [], ◌++◌, Ok, Err, refl, sym, subst, inl, inr, ◌∙◌}
use Rattle.lucy_host.specs.Operators.{Operator, names_of}
use Rattle.lucy_text.specs.Shelf.{SeenShelf}
use Rattle.lucy_front.specs.Refusals.{memory_line}
use Rattle.lucy_command.specs.Commands.{command_of}
use Rattle.lucy_app.specs.World.{World}
use Rattle.lucy_app.specs.Answers.{out_of_memory}
use Rattle.lucy_app.specs.Ends.{Tells, Ends}
use Rattle.lucy_app.proofs.Sinks.{declines}
use Rattle.lucy_tables.specs.Words.{TableWords, IsCut}
use Rattle.lucy_tables.specs.Ends.{Begins, AreRefused, EndsTabled}
use Rattle.lucy_tables.specs.Seen.{loading_answer}
use Rattle.lucy_tables.specs.declared.refusal.Refusal.{Refusal}
use Rattle.lucy_tables.specs.declared.refusal.Refusal.TheVariants.{Words, ReadFault, BadNumber, Limit, OutOfMemory}
use Rattle.lucy_tables.proofs.WordLaws.{one_cut, kept_refused, not_both}
use Rattle.lucy_tables.proofs.LendingLaws.{or_memory}

-- a refusal prints nothing
refused_nothing : (e : Refusal) → (loading_answer e).out ≡ []
refused_nothing Words = refl
refused_nothing ReadFault = refl
refused_nothing (BadNumber name place) = refl
refused_nothing (Limit l) = refl
refused_nothing OutOfMemory = refl

-- words that are refused
pub ends_refused : (words : List (List ℕ)) (e : Refusal) (shelf : SeenShelf) (before after : World) (status : ℕ) →
    Begins before.operators words before.shelf shelf (Err (loading_answer e)) → after.shelf ≡ shelf → after.source ≡ before.source → after.out ≡ before.out →
    Tells (loading_answer e).status (loading_answer e).err before.err after.err status ⊎ Tells 7 memory_line before.err after.err status →
    EndsTabled words before after status
ends_refused words e shelf before after status begins same source out (inl told) = (
  shelf,
  Err (loading_answer e),
  begins,
  declines (loading_answer e) (record before { shelf = shelf }) after status (refused_nothing e) same source out told,
)
ends_refused words e shelf before after status begins same source out (inr told) = (
  shelf,
  Err (out_of_memory []),
  or_memory before.operators words before.shelf shelf (Err (loading_answer e)) begins,
  declines (out_of_memory []) (record before { shelf = shelf }) after status refl same source out told,
)

-- words whose tables are lent
pub ends_lent : (words rest : List (List ℕ)) (more host : List Operator) (shelf : SeenShelf) (before after : World) (status : ℕ) →
    Begins before.operators words before.shelf shelf (Ok (more, rest)) → host ≡ before.operators ++ more → before.operators ≡ after.operators →
    Ends (command_of rest) (record before { shelf = shelf; operators = host }) (record after { operators = host }) status →
    EndsTabled words before after status
ends_lent words rest more host shelf before after status begins is same ends =
    let Of : List Operator → List Operator → Type 0 = λ a b.
    Ends (command_of rest) (record before { shelf = shelf; operators = a }) (record after { operators = b }) status in
    let first : Of (before.operators ++ more) (before.operators ++ more) = subst (λ h. Of h h) is ends in
    (shelf, Ok (more, rest), begins, subst (λ o. Of (before.operators ++ more) (o ++ more)) same first)

module _ (there : List Operator) (words : List (List ℕ)) (before after : SeenShelf) (more : List Operator) (rest : List (List ℕ))
    (begins : Begins there words before after (Ok (more, rest))) where
  -- they were not refused
  pub lent_not_refused : AreRefused (names_of there) words → ⊥
  lent_not_refused refused =
      let why = kept_refused (names_of there) words begins.0 begins.1 begins.3 refused in
      not_both (names_of there) begins.0 begins.1 why.0 begins.5.0 begins.5.1 why.1

  -- and what stands behind the tables is the rest
  pub lent_rest : (tables : List TableWords) (behind : List (List ℕ)) → IsCut words tables behind → behind ≡ rest
  lent_rest tables behind cut = (one_cut words tables begins.0 behind begins.1 cut begins.3).1 ∙ sym begins.5.3
