use Rattle.std.proofs.Common.{ap, sym, arith}
use Rattle.lucy_lines.specs.Cuts.{bytes_taken}
use Rattle.lucy_lines.proofs.ReadLaws.{took_within, took_stream, took_line_bytes}
use Rattle.lucy_lines.proofs.reader.InputReader.next_line.Goals as goal

pub returns-clause-within : goal.returns-clause-within
returns-clause-within g c =
    let (taken, took) = c.read_line-answer.ensures.answer in
    let same = ap (λ r. bytes_taken r.held) c.self.view_is in
    let room = c.self.invariant in
    let w = took_within _ _ _ _ _ taken took (omega (arith, same, room.2)) in
    omega (arith, same, w)

pub returns-clause-stream : goal.returns-clause-stream
returns-clause-stream g c = let (taken, took) = c.read_line-answer.ensures.answer in took_stream _ _ _ _ _ taken took

pub returns-clause-line : goal.returns-clause-line
returns-clause-line g c = let (taken, took) = c.read_line-answer.ensures.answer in took_line_bytes _ _ _ _ _ _ taken (sym (ap (λ r. r.held.used) c.self.view_is)) took
