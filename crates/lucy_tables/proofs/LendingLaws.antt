-- Laws of what words come to, as it is handed on.
use Rattle.std.proofs.Common.{ℕ, ◌+◌, ◌≤◌, ◌≡◌, ◌⊎◌, List, [], ◌++◌, length, map, Result, Ok, Err, refl, sym, ap, ◌∙◌, subst, inl, inr, arith}
use Rattle.std.specs.Prelude.{IsErrAnd}
use Rattle.lucy_host.specs.Operators.{Operator, names_of, most_operators}
use Rattle.lucy_text.specs.Shelf.{SeenShelf}
use Rattle.lucy_text.specs.declared.shelf.ShelfError.{ShelfError}
use Rattle.lucy_app.specs.Operators.{program_operators}
use Rattle.lucy_app.specs.World.{Fetches}
use Rattle.lucy_app.specs.Answers.{Answer, out_of_memory}
use Rattle.lucy_tables.specs.Words.{TableWords, AreWhole, most_tables}
use Rattle.lucy_tables.specs.Loading.{file_of}
use Rattle.lucy_tables.specs.Refusals.{RefusesTableWords}
use Rattle.lucy_tables.specs.Ends.{Begun, Begins}
use Rattle.lucy_tables.specs.Seen.{loading_answer, Loads, IsBegun}
use Rattle.lucy_tables.specs.Lent.{IsLent}
use Rattle.lucy_tables.specs.declared.words.TableWords as words
use Rattle.lucy_tables.specs.declared.refusal.Refusal.{Refusal}
use Rattle.lucy_tables.specs.declared.refusal.Refusal.TheVariants.{OutOfMemory}
use Rattle.lucy_tables.specs.declared.lending.Lent.{Lent}
use Rattle.lucy_tables.proofs.WordLaws.{some_cut}

-- whatever words come to, memory may run out behind it
pub or_memory : (there : List Operator) (words : List (List ℕ)) (before after : SeenShelf) (begun : Begun) →
    Begins there words before after begun → Begins there words before after (Err (out_of_memory []))
or_memory there words before after begun h = (h.0, h.1, h.2, h.3, h.4, inr (inr refl))

-- before any file is fetched too
pub lent_memory : (words : List (List ℕ)) (shelf : SeenShelf) (result : Result Lent Refusal) → IsErrAnd result (λ e. e ≡ OutOfMemory) → IsLent words shelf shelf result
lent_memory words shelf (Ok lent) h = absurd h
lent_memory words shelf (Err e) h =
    let cut = some_cut words in
    subst (λ r. Begins program_operators words shelf shelf (Err (loading_answer r))) (sym h) (cut.0, cut.1, [], cut.2, refl, inr (inr refl))

-- the tables fit behind the operators of the program
pub tables_fit : (operators : List Operator) → operators ≡ program_operators → (given tables : List words.TableWords) → given ≡ tables →
    length tables ≤ most_tables → length operators + length given ≤ most_operators
tables_fit operators own given tables same few =
    let as_many : length operators ≡ 6 = ap length own in
    let all : length given ≡ length tables = ap length same in
    omega arith

-- what words come to that ask for these tables, with this rest, by what was fetched
abbrev pub ComesTo : List TableWords → (rest : List (List ℕ)) → (before after : SeenShelf) → Result (List Operator) Refusal → Type 0
ComesTo tables rest before after result =
    (fetched : List (Result (List ℕ) ShelfError)) × Fetches (map file_of tables) before after fetched × IsBegun tables rest fetched result

module _ (tables : List TableWords) (rest : List (List ℕ)) (shelf : SeenShelf) where
  -- memory runs out before a file is fetched
  pub come_to_nothing : (result : Result (List Operator) Refusal) → IsErrAnd result (λ e. e ≡ OutOfMemory) → ComesTo tables rest shelf shelf result
  come_to_nothing (Ok operators) h = absurd h
  come_to_nothing (Err e) h = ([], refl, subst (λ r. IsBegun tables rest [] (Err r)) (sym h) (inr (inr refl)))

  module _ (operators : List Operator) (own : operators ≡ program_operators) where
    -- or the words are refused
    pub come_to_refusal : (e : Refusal) → (e ≡ OutOfMemory) ⊎ RefusesTableWords (names_of operators) tables rest (loading_answer e) →
        ComesTo tables rest shelf shelf (Err e)
    come_to_refusal e (inl memory) = ([], refl, subst (λ r. IsBegun tables rest [] (Err r)) (sym memory) (inr (inr refl)))
    come_to_refusal e (inr why) = ([], refl, inl (subst (λ os. RefusesTableWords (names_of os) tables rest (loading_answer e)) own why, refl))

    module _ (whole : AreWhole (names_of operators) tables rest) (few : length tables ≤ most_tables) where
      whole_here : AreWhole (names_of program_operators) tables rest
      whole_here = subst (λ os. AreWhole (names_of os) tables rest) own whole

      -- which were not refused
      pub come_unrefused : (answer : Answer) → RefusesTableWords (names_of program_operators) tables rest answer → ⊥
      come_unrefused answer (inl why) = why.0 whole_here
      come_unrefused answer (inr why) = omega (arith, why.1)

      module _ (after : SeenShelf) (behind : List Operator) where
        -- or a file is
        pub come_to_bad_file : (e : Refusal) (result : Result (List Operator) Refusal) → Loads tables shelf after operators behind {T = List Operator} (Err e) →
            IsErrAnd result (λ y. y ≡ e) → ComesTo tables rest shelf after result
        come_to_bad_file e (Ok operators') loads h = absurd h
        come_to_bad_file e (Err y) (fetched, fetches, inl memory) h =
            (fetched, fetches, subst (λ r. IsBegun tables rest fetched (Err r)) (sym (h ∙ memory)) (inr (inr refl)))
        come_to_bad_file e (Err y) (fetched, fetches, inr why) h =
            (fetched, fetches, subst (λ r. IsBegun tables rest fetched (Err r)) (sym h) (inr (inl (whole_here, few, why))))

        -- or the tables are lent
        pub come_to_operators : Loads tables shelf after operators behind (Ok behind) → ComesTo tables rest shelf after (Ok behind)
        come_to_operators (fetched, fetches, (more, loaded, is)) =
            (fetched, fetches, (more, (whole_here, few, loaded, refl), is ∙ ap (λ os. os ++ more) own))
