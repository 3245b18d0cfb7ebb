use Rattle.std.proofs.Common.{drop}
use Rattle.lucy_naming.specs.Phrases.{expr_phrases}
use Rattle.lucy_naming.specs.Views.{known_of}
use Rattle.lucy_naming.proofs.DraftLaws.{AllDrawn}
use Rattle.lucy_naming.proofs.numbering.+numbering.Given as goal

abbrev pub invariant-all_places-each : goal.invariant-all_places-each
invariant-all_places-each l = AllDrawn (known_of l.names) l.found.items l.draft (expr_phrases (drop l.expr-index l.list)) l.initial.draft (expr_phrases l.list)
