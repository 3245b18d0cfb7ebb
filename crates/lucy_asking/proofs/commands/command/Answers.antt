use Rattle.std.proofs.Common.{◌≡◌, true, List, [], ◌∷◌, ap, ◌∙◌}
use Rattle.std.proofs.lemmas.Result.{IfOk-weaker}
use Rattle.clap.specs.Simple.{App, app_of, app_of_fields}
use Rattle.lucy_asking.specs.declared.name.Name.{Name}
use Rattle.lucy_asking.specs.declared.name.Name.TheVariants as name
use Rattle.lucy_asking.specs.Saying.{with_commands}
use Rattle.lucy_asking.proofs.commands.command.Goals as goal

-- with a version
abbrev versioned : App → App
versioned a = record { top = record a.top { has_version = true }; subs = a.subs }

-- with a command below that has to stand there
abbrev needing : App → App
needing a = record { top = record a.top { subcommand_required = true }; subs = a.subs }

-- the commands, in order
abbrev names : List Name
names = name.Time ∷ (name.Net ∷ (name.Wave ∷ (name.Where ∷ (name.Page ∷ (name.Explain ∷ (name.Why ∷ (name.Freeze ∷ [])))))))

pub returns : goal.returns
returns c =
    let version : app_of c.version.result ≡ versioned (app_of c.new.result) = ap app_of_fields c.version.ensures in
    let about : app_of c.about.result ≡ app_of c.version.result = ap app_of_fields c.about.ensures in
    let needs : app_of c.subcommand_required-line.result ≡ needing (app_of c.about.result) = ap app_of_fields c.subcommand_required-line.ensures in
    let begun = needs ∙ ap needing (about ∙ version ∙ ap versioned c.new.ensures.app) in
    IfOk-weaker c.with_commands.result _ _ (λ line is. is ∙ ap (λ (a : App). with_commands a names) begun) c.with_commands.ensures
