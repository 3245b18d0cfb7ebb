use Rattle.std.proofs.Common.{◌≡◌, ◌++◌, length, Err, Ok, ap, sym, ◌∙◌}
use Rattle.std.proofs.lemmas.Result.{err_from_is_err_and}
use Rattle.lucy_tree.specs.View.{expr_list}
use Rattle.lucy_naming.specs.Phrases.{expr_phrase, expr_phrases}
use Rattle.lucy_naming.specs.Faults.{verdict, call_faults, phrase_faults, phrases_faults}
use Rattle.lucy_naming.specs.Views.{within_of}
use Rattle.lucy_naming.proofs.PhraseLaws.{phrase_called}
use Rattle.lucy_naming.proofs.VerdictLaws.{verdict_front, verdict_back, count_phrases}
use Rattle.lucy_naming.proofs.faults.+names.Goals as goal

pub expr_names-returns-in_err-call_name-in-Call : goal.expr_names-returns-in_err-call_name-in-Call
expr_names-returns-in_err-call_name-in-Call t c =
    let p = err_from_is_err_and c.from_residual-in_err-call_name-in-Call.result c.from_residual-in_err-call_name-in-Call.ensures.1 in
    let w = within_of c.args.names.now in
    let rest = phrases_faults w (expr_phrases (expr_list c.in-Call.args)) in
    let e = c.in_err-call_name-in-Call.field-0.0 in
    let h : verdict (call_faults w c.in-Call.node (length (expr_list c.in-Call.args)) c.args.results) ≡ Err e =
    ap (λ es. verdict (call_faults w c.in-Call.node (length es) c.args.results)) (sym c.list-in-Call.ensures) ∙ sym c.call_name.ensures ∙ c.in_err-call_name-in-Call.was in
    p.1 ∙ ap Err p.2
    ∙ sym
    (ap (λ x. verdict (phrase_faults w c.args.results (expr_phrase x))) c.in-Call.is
    ∙ ap (λ f. verdict (phrase_faults w c.args.results f)) (phrase_called c.in-Call.node c.in-Call.at c.in-Call.args)
    ∙ ap (λ n. verdict (call_faults w c.in-Call.node n c.args.results ++ rest)) (count_phrases (expr_list c.in-Call.args))
    ∙ verdict_front (call_faults w c.in-Call.node (length (expr_list c.in-Call.args)) c.args.results) rest h)

pub expr_names-returns-in_ok-call_name-in-Call : goal.expr_names-returns-in_ok-call_name-in-Call
expr_names-returns-in_ok-call_name-in-Call t c =
    let w = within_of c.args.names.now in
    let rest = phrases_faults w (expr_phrases (expr_list c.in-Call.args)) in
    let h : verdict (call_faults w c.in-Call.node (length (expr_list c.in-Call.args)) c.args.results) ≡ Ok tt =
    ap (λ es. verdict (call_faults w c.in-Call.node (length es) c.args.results)) (sym c.list-in-Call.ensures) ∙ sym c.call_name.ensures ∙ c.in_ok-call_name-in-Call.was in
    c.all_names-in-Call.ensures ∙ ap (λ es. verdict (phrases_faults w (expr_phrases es))) c.list-in-Call-2.ensures
    ∙ sym
    (ap (λ x. verdict (phrase_faults w c.args.results (expr_phrase x))) c.in-Call.is
    ∙ ap (λ f. verdict (phrase_faults w c.args.results f)) (phrase_called c.in-Call.node c.in-Call.at c.in-Call.args)
    ∙ ap (λ n. verdict (call_faults w c.in-Call.node n c.args.results ++ rest)) (count_phrases (expr_list c.in-Call.args))
    ∙ verdict_back (call_faults w c.in-Call.node (length (expr_list c.in-Call.args)) c.args.results) rest h)
