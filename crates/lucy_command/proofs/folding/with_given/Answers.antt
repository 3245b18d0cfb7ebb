use Rattle.std.proofs.Common.{rules, map, string_bytes, ap, ◌∙◌}
use Rattle.lucy_command.specs.Seen.{with_named}
use Rattle.lucy_command.proofs.Folds.{next_given, no_given}
use Rattle.lucy_command.proofs.folding.with_given.Goals as goal

pub returns-in_ok-with_named-in-None-clause-is : goal.returns-in_ok-with_named-in-None-clause-is
returns-in_ok-with_named-in-None-clause-is c =
    next_given c.args.name _ _ c.args.word.now _ _ _ _ c.in-None.ensures (ap (map string_bytes) c.in_ok-text-in-None.ensures.cases.0)
    (c.in_ok-with_named-in-None.ensures.is ∙ ap (with_named c.args.name _ c.args.word.now) c.as_str.ensures.value)

pub returns-in_err-with_named-in-None-clause-is : goal.returns-in_err-with_named-in-None-clause-is
returns-in_err-with_named-in-None-clause-is c =
    let none = no_given c.args.name _ c.args.word.now _ _ _ _ c.in-None.ensures (ap (map string_bytes) c.in_ok-text-in-None.ensures.cases.0)
    (c.in_err-with_named-in-None.ensures.is ∙ ap (with_named c.args.name _ c.args.word.now) c.as_str.ensures.value) in
    search (rules, none)
