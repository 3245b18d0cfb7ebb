use Rattle.std.proofs.Common.{sym}
use Rattle.clap.specs.Walk.{rows_of}
use Rattle.clap.specs.Matches.{found_of}
use Rattle.clap.specs.Simple.{subcommand_rows_of}
use Rattle.lucy_asking.proofs.Rows.{met_is, none_asked}
use Rattle.lucy_asking.proofs.words.found.Goals as goal

pub returns-clause-none : goal.returns-clause-none
returns-clause-none c =
    let word = c.in_ok-word.word.now in
    let rows = rows_of (found_of c.in_ok-word.matches.now) in
    λ none. none_asked (subcommand_rows_of c.args.matches.now) word rows c.in_ok-name_of.field-0
    (met_is c.args.matches.now word rows c.in_ok-word.ensures.name c.in_ok-word.ensures.rows) (sym c.in_ok-name_of.ensures) (c.asked.ensures.none none)
