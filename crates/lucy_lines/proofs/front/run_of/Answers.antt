use Rattle.std.proofs.Common.{◌+◌, ℕ, not, ◌∙◌, ap}
use Rattle.std.specs.Prelude.{◌==◌}
use Rattle.std.proofs.lemmas.List.{take_rest}
use Rattle.memchr.specs.Find.{is_byte}
use Rattle.lucy_lines.specs.Fronts.{run}
use Rattle.lucy_lines.proofs.Runs.{run_value, run_behind}
use Rattle.lucy_lines.proofs.front.run_of.Goals as goal

pub returns : goal.returns
returns c =
    let n : ℕ = c.args.seen in
    let tail = take_rest c.args.bytes.now n in
    let found = c.unwrap_or.ensures ∙ run_value (is_byte 10) _ c.find_byte.result c.find_byte.ensures in
    ap (λ m. n + m) (found ∙ ap run tail) ∙ run_behind (λ c. not (c == 10)) c.args.bytes.now n c.requires.seen
