-- What `clap` is told of a command, step by step.
use Rattle.std.proofs.Common.{◌≡◌, Bool, false, [], ◌∷◌, ◌++◌, ap, ap₂, ◌∙◌}
use Rattle.std.specs.Prelude.{◌||◌}
use Rattle.clap.specs.Walk.{Rule, rule_of}
use Rattle.clap.specs.Simple.{App, Shape, app_of, with_rule, with_subcommand}
use Rattle.clap.specs.Built.{AddsArg, AddsSubcommand}
use Rattle.clap.specs.declared.builder.arg.Arg.{Arg}
use Rattle.clap.specs.declared.builder.command.Command.{Command}
use Rattle.clap.specs.declared.builder.command.Command.TheViews.{out-Command}
use Rattle.lucy_asking.specs.Saying.{HasShape}

both_false : (a b c : Bool) → c ≡ (a || b) → a ≡ false → b ≡ false → c ≡ false
both_false a b c is first second = is ∙ ap₂ (λ x y. x || y) first second

-- one more operand or option
pub taken : (shape : Shape) (old new : Command) (a : Arg) (rule : Rule) → HasShape shape old → rule_of a ≡ rule → a.global ≡ false → AddsArg old a new →
    HasShape (record shape { rules = shape.rules ++ rule ∷ [] }) new
taken shape old new a rule was is local adds = record {
  app = adds.shape local ∙ ap₂ with_rule was.app is;
  local = both_false (out-Command old).has_globals a.global (out-Command new).has_globals adds.globals was.local local;
}

-- one more command below
pub below : (above : App) (old sub new : Command) (shape : Shape) → app_of old ≡ above → HasShape shape sub → AddsSubcommand old sub new →
    app_of new ≡ with_subcommand above shape
below above old sub new shape was is adds = adds.shape is.local ∙ ap₂ with_subcommand was (ap (λ (a : App). a.top) is.app)
