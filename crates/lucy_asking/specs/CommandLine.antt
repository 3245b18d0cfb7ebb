-- The command line, as `clap` is told of it: the commands, and which operands and options each takes.
use Rattle.std.specs.Prelude.{ℕ, true, false, List, [], ◌∷◌, Some, codes}
use Rattle.clap.specs.Walk.{Rule}
use Rattle.clap.specs.Simple.{App, Shape, new_rule, new_shape}
use Rattle.clap.specs.declared.builder.action.ArgAction.TheVariants.{SetTrue}
use Rattle.clap.specs.declared.builder.value_parser.ValueParser.TheVariants.{Unsigned}
use Rattle.lucy_asking.specs.declared.name.Name.{Name}
use Rattle.lucy_asking.specs.declared.name.Name.TheVariants as name

-- an operand that has to stand there
abbrev pub required : (name : List ℕ) → Rule
required name = record (new_rule name) { required = true }

-- an option with a number between these
abbrev pub numeral : (name : List ℕ) (least most : ℕ) → Rule
numeral name least most = record (new_rule name) { long = Some name; value_names = 1; parser = Some (Unsigned least most) }

-- a word that stands alone
abbrev pub flag : (name : List ℕ) → Rule
flag name = record (new_rule name) { long = Some name; action = Some SetTrue }

-- a command of this name that takes these
abbrev pub taking : (name : List ℕ) → List Rule → Shape
taking name rules = record (new_shape name) { rules = rules }

-- one that takes FILE, and the options that say how the clocks of a program are found, and these
abbrev pub on_program : (name : List ℕ) → List Rule → Shape
on_program name more = taking name (required (codes "FILE") ∷ (numeral (codes "scale") 1 64 ∷ (numeral (codes "lead") 1 64 ∷ more)))

-- how many instants are shown
abbrev pub shown_instants : Rule
shown_instants = numeral (codes "instants") 1 65536

-- how many instants are run, and two options that change nothing
abbrev pub running : List Rule
running = numeral (codes "instants") 0 1048576 ∷ (numeral (codes "workers") 1 64 ∷ (numeral (codes "block") 1 1048576 ∷ []))

-- what a command takes
abbrev pub command_shape : Name → Shape
command_shape name.Time = on_program (codes "time") (new_rule (codes "NODE") ∷ (shown_instants ∷ (flag (codes "svg") ∷ [])))
command_shape name.Net = on_program (codes "net") (new_rule (codes "NODE") ∷ (flag (codes "flat") ∷ []))
command_shape name.Wave = on_program (codes "wave") running
command_shape name.Where = taking (codes "where") (required (codes "FILE") ∷ (required (codes "AT") ∷ (new_rule (codes "NODE") ∷ [])))
command_shape name.Page = on_program (codes "page") (shown_instants ∷ [])
command_shape name.Explain = on_program (codes "explain") []
command_shape name.Why = on_program (codes "why") (required (codes "BUFFER") ∷ [])
command_shape name.Freeze = on_program (codes "freeze") []

-- all commands, of which one has to stand there
abbrev pub line : App
line = record {
  top = record (new_shape (codes "lucy_view")) { has_version = true; subcommand_required = true; is_leaf = false };
  subs =
      command_shape name.Time ∷ (command_shape name.Net ∷ (command_shape name.Wave ∷ (command_shape name.Where ∷ (command_shape name.Page ∷ (command_shape name.Explain
      ∷ (command_shape name.Why ∷ (command_shape name.Freeze ∷ [])))))));
}
