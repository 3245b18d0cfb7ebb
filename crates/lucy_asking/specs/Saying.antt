-- What the parts of the body hand on: of what `clap` is told, and what it found.
use Rattle.std.specs.Prelude.{ℕ, ◌≡◌, ◌⊎◌, false, List, [], ◌∷◌, ◌++◌, None, codes}
use Rattle.clap.specs.Walk.{Row, Rule, first_of}
use Rattle.clap.specs.Simple.{App, Shape, app_of, new_rule, with_subcommand}
use Rattle.clap.specs.declared.builder.command.Command.{Command}
use Rattle.clap.specs.declared.builder.command.Command.TheViews.{out-Command}
use Rattle.lucy_asking.specs.declared.name.Name.{Name}
use Rattle.lucy_asking.specs.declared.name.Name.TheVariants as name
use Rattle.lucy_asking.specs.declared.ask.Picture.{Picture}
use Rattle.lucy_asking.specs.declared.told.Takes.{Takes}
use Rattle.lucy_asking.specs.declared.told.Takes.TheVariants as takes
use Rattle.lucy_asking.specs.declared.told.Told.{Told}
use Rattle.lucy_asking.specs.CommandLine.{required, numeral, flag, command_shape}
use Rattle.lucy_asking.specs.Asks.{picture_name, SaysPicture, IsPictureWithin}

-- a command with no command below it
abbrev pub leaf : Shape → App
leaf shape = record { top = shape; subs = [] }

-- `clap` is told of a command that takes this, and hands nothing down
pub record HasShape (shape : Shape) (c : Command) : Type 0 where
  pub app : app_of c ≡ leaf shape
  pub local : (out-Command c).has_globals ≡ false

-- what `clap` is told of an operand or an option
abbrev pub rule_taking : List ℕ → Takes → Rule
rule_taking name takes.Operand = new_rule name
rule_taking name takes.Required = required name
rule_taking name takes.Flag = flag name
rule_taking name (takes.Number value least most) = numeral name least most

abbrev pub rule_told : Told → Rule
rule_told told = rule_taking told.name.now told.takes

-- a command that takes these too, one after the other
abbrev pub taking_more : Shape → List Told → Shape
taking_more shape [] = shape
taking_more shape (t ∷ ts) = taking_more (record shape { rules = shape.rules ++ rule_told t ∷ [] }) ts

-- what `clap` is told with the commands of these names, one after the other
abbrev pub with_commands : App → List Name → App
with_commands a [] = a
with_commands a (n ∷ ns) = with_commands (with_subcommand a (command_shape n)) ns

-- a picture that a command of this name asks for, by what stands behind the name
pub record IsSaid (name : Name) (rows : List Row) (p : Picture) : Type 0 where
  pub name_is : picture_name p ≡ name
  pub says : SaysPicture rows p
  pub within : IsPictureWithin p

-- an operand is missing that a command of this name needs
abbrev pub IsLacking : Name → List Row → Type 0
IsLacking name.Where rows = (first_of (codes "FILE") rows ≡ None) ⊎ (first_of (codes "AT") rows ≡ None)
IsLacking name.Why rows = (first_of (codes "FILE") rows ≡ None) ⊎ (first_of (codes "BUFFER") rows ≡ None)
IsLacking other rows = first_of (codes "FILE") rows ≡ None
