use Rattle.std.proofs.Common.{◌≡◌, ◌+◌, ap, sym, ◌∙◌}
use Rattle.lucy_word.specs.Cutting.{is_no_open}
use Rattle.std.specs.List.{prefix_len}
use Rattle.lucy_word.proofs.StayLaws.{past_run}
use Rattle.lucy_word.proofs.spelling.prefix_end.Goals as goal

pub returns-clause-value : goal.returns-clause-value
returns-clause-value c =
    let same : c.prefix_len.result ≡ prefix_len is_no_open c.split_at.result.1.now = c.prefix_len.ensures.value in
    ap (λ n. c.limbs_end-from.result + n) (same ∙ ap (prefix_len is_no_open) c.split_at.ensures.back) ∙ sym (past_run c.args.text.now c.limbs_end-from.result c.limbs_end-from.ensures)
