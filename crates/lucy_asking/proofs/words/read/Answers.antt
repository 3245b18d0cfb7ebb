use Rattle.std.proofs.Common.{◌≡◌, true, refl, ap, sym, subst, ◌∙◌, map, string_bytes, List, ℕ, Option}
use Rattle.std.specs.Prelude.{IfSome, IfNone}
use Rattle.clap.specs.Walk.{Row}
use Rattle.clap.specs.Simple.{App, is_simple, subcommand_of, subcommand_rows_of}
use Rattle.clap.specs.Faults.{fault_of, is_simple_and_free}
use Rattle.clap.specs.Kinds.{HasKind}
use Rattle.clap.proofs.OnLiterals.{clap_on_literals}
use Rattle.lucy_asking.specs.declared.ask.Ask.{Ask}
use Rattle.lucy_asking.specs.CommandLine.{line}
use Rattle.lucy_asking.specs.Asks.{AsksBy}
use Rattle.lucy_asking.proofs.Rows.{if_none, err_same}
use Rattle.lucy_asking.proofs.words.read.Goals as goal

simple : is_simple line ≡ true
unfolding clap_on_literals
simple = refl

free : is_simple_and_free line ≡ true
unfolding clap_on_literals
free = refl

pub returns-in_err-matches-clause-refused : goal.returns-in_err-matches-clause-refused
returns-in_err-matches-clause-refused c =
    let app_is = c.in_ok-command.ensures in
    let words = map string_bytes c.args.words.now in
    let why : HasKind (fault_of line words) c.in_err-matches.field-0.0 =
    subst (λ (a : App). HasKind (fault_of a words) c.in_err-matches.field-0.0) app_is (c.in_err-matches.ensures.kinds (ap is_simple_and_free app_is ∙ free)) in
    err_same c.from_residual-in_err-matches.result c.in_err-matches.field-0.0 (HasKind (fault_of line words)) c.from_residual-in_err-matches.ensures.1 why

pub returns-clause-taken : goal.returns-clause-taken
returns-clause-taken c =
    let app_is = c.in_ok-command.ensures in
    ap (λ (a : App). fault_of a (map string_bytes c.args.words.now)) (sym app_is) ∙ c.in_ok-matches.ensures.kinds (ap is_simple_and_free app_is ∙ free)

pub returns-clause-asks : goal.returns-clause-asks
returns-clause-asks c =
    let app_is = c.in_ok-command.ensures in
    let words = map string_bytes c.args.words.now in
    let same : subcommand_rows_of c.in_ok-matches.matches ≡ subcommand_of line words =
    (c.in_ok-matches.ensures.matches (ap is_simple app_is ∙ simple)).1 ∙ ap (λ (a : App). subcommand_of a words) app_is in
    subst (λ (f : Option (List ℕ × List Row)). IfSome c.found.result (AsksBy f)) same c.found.ensures.asks

pub returns-clause-none : goal.returns-clause-none
returns-clause-none c =
    let app_is = c.in_ok-command.ensures in
    let words = map string_bytes c.args.words.now in
    let same : subcommand_rows_of c.in_ok-matches.matches ≡ subcommand_of line words =
    (c.in_ok-matches.ensures.matches (ap is_simple app_is ∙ simple)).1 ∙ ap (λ (a : App). subcommand_of a words) app_is in
    subst (λ (f : Option (List ℕ × List Row)). IfNone c.found.result ((a : Ask) → AsksBy f a → ⊥)) same (if_none c.found.result c.found.ensures.none)
