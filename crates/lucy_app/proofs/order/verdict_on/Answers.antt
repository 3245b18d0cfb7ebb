use Rattle.std.proofs.Common.{map, ap, ◌∙◌}
use Rattle.lucy_word.proofs.Results.{goes_out}
use Rattle.lucy_app.proofs.Pairs.{pair_line, pair_refused}
use Rattle.lucy_app.proofs.order.verdict_on.Goals as goal

pub returns-in_err-verdict_of-clause-refused : goal.returns-in_err-verdict_of-clause-refused
returns-in_err-verdict_of-clause-refused c =
    let cut = ap (map (λ field. field.now)) c.as_slice.ensures.value ∙ c.in_ok-fields.ensures in
    goes_out _ _ c.from_residual-in_err-verdict_of.result c.from_residual-in_err-verdict_of.ensures.1
    (pair_refused (λ field. field.now) c.as_slice.result.now _ c.args.text.now c.in_err-verdict_of.field-0.0 cut c.in-len2.len_at_least c.in-len2.len_below c.in_err-verdict_of.ensures.refused)

pub returns-clause-ok : goal.returns-clause-ok
returns-clause-ok c =
    let cut = ap (map (λ field. field.now)) c.as_slice.ensures.value ∙ c.in_ok-fields.ensures in
    pair_line (λ field. field.now) c.as_slice.result.now _ c.args.text.now _ cut c.in-len2.len_at_least c.in-len2.len_below c.in_ok-verdict_of.ensures.ok
