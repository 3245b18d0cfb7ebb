use Rattle.std.proofs.Common.{◌≡◌, length, ap, ◌∙◌, [], arith}
use Rattle.lucy_lines.specs.Feeding.{values_by_stream}
use Rattle.lucy_run.proofs.course.unread.Goals as goal

pub returns : goal.returns
returns c =
    let count : c.len.result ≡ length c.args.inputs.items = omega (arith, c.len.ensures) in
    record {
      begun = c.in_ok-reader.ensures.begun;
      fresh = c.in_ok-reader.ensures.fresh;
      kept = c.in_ok-reader.ensures.inputs;
      empty = c.in_ok-none.ensures ∙ ap (λ n. values_by_stream n []) count;
    }
