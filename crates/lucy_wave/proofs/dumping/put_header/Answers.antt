use Rattle.std.proofs.Common.{◌++◌, ap, sym, ◌∙◌}
use Rattle.std.specs.Prelude.{codes}
use Rattle.std.proofs.lemmas.Result.{on_ok_weaker}
use Rattle.lucy_word.proofs.Lists.{five}
use Rattle.lucy_wave.specs.Dumps.{declarations, text_of}
use Rattle.lucy_wave.specs.Seen.{all_seen}
use Rattle.lucy_wave.proofs.DumpLaws.{header_text}
use Rattle.lucy_wave.proofs.dumping.put_header.Goals as goal

pub returns : goal.returns
returns c =
    let vs = all_seen c.args.variables.now in
    let scope = c.args.scope.now in
    on_ok_weaker c.put_bytes-4.result
    (λ last.
    five c.args.out.now.items c.put_bytes.new.out.items c.put_bytes-2.new.out.items c.put_bytes-3.new.out.items c.put_declarations.new.out.items c.put_bytes-4.new.out.items
    (codes "$timescale 1 ns $end\n$scope module ") scope (codes " $end\n") (text_of (declarations 0 vs)) (codes "$upscope $end\n$enddefinitions $end\n")
    c.in_ok-put_bytes.ensures c.in_ok-put_bytes-2.ensures c.in_ok-put_bytes-3.ensures c.in_ok-put_declarations.ensures last
    ∙ ap (λ x. c.args.out.now.items ++ x) (sym (header_text scope vs)))
    c.put_bytes-4.ensures
