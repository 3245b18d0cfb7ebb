-- What `run`, `check` and `clocks` leave is right, by how they end.
use Rattle.std.specs.Prelude.{ℕ, ◌≡◌, ◌⊎◌, List, Option, Some}
use Rattle.std.specs.Option.{option_map}
use Rattle.lucy_word.specs.Limits.{limit_number}
use Rattle.lucy_word.specs.declared.limit.Limit.TheVariants as limit
use Rattle.lucy_grammar.specs.Texts.{HasTree}
use Rattle.lucy_program.specs.declared.options.Options.{Options}
use Rattle.lucy_right.specs.Right.{RunIsRight}
use Rattle.lucy_right.specs.Accepted.{CheckIsRight}
use Rattle.lucy_right.specs.Earliest.{AreChosen}
use Rattle.lucy_command.specs.Commands.{ClocksWords, ProgramWords, Command, Check, Clocks, Run}
use Rattle.lucy_app.specs.Commands.{written_options, inferring_options}
use Rattle.lucy_app.specs.World.{World}
use Rattle.lucy_app.specs.Ends.{Ends}

-- a call that ends so where the words name `run` leaves what is right
abbrev pub RunsAreRight : Type 0
RunsAreRight = (words : ProgramWords) (workers : ℕ) (block : Option ℕ) (before after : World) (status : ℕ) → Ends (Some (Run words workers block)) before after status →
    RunIsRight HasTree (AreChosen words.scale words.lead) before.operators (limit_number limit.Instants) words.instants (option_map (λ files. files words.file) before.shelf.files)
    before.source.left before.out.written after.out.written status

-- the words name `check` of this FILE, for which each node has to be written; or `clocks`, which infers the clocks of others with these options
abbrev pub Checks : Option Command → (file : List ℕ) → Options → Type 0
Checks found file o =
    ((found ≡ Some (Check file)) × (o ≡ written_options))
    ⊎ ((words : ClocksWords) × (found ≡ Some (Clocks words)) × (file ≡ words.file) × (o ≡ inferring_options words.scale words.lead))

-- a call that ends so where they name one of these leaves what is right
abbrev pub ChecksAreRight : Type 0
ChecksAreRight = (found : Option Command) (file : List ℕ) (o : Options) (before after : World) (status : ℕ) → Checks found file o → Ends found before after status →
    CheckIsRight before.operators o file before.shelf after.shelf before.out after.out before.err after.err status
