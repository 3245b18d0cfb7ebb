use Rattle.std.proofs.Common.{◌++◌, ap, sym, ◌∙◌}
use Rattle.std.specs.Prelude.{codes}
use Rattle.std.proofs.lemmas.Result.{on_ok_weaker}
use Rattle.lucy_word.proofs.Lists.{five}
use Rattle.lucy_wave.specs.Dumps.{code_of, kind_of}
use Rattle.lucy_wave.specs.Seen.{seen}
use Rattle.lucy_wave.proofs.DumpLaws.{declaration_text}
use Rattle.lucy_wave.proofs.dumping.put_declaration.Goals as goal

pub returns : goal.returns
returns c =
    let v = seen c.args.variable.now in
    let old = c.args.out.now.items in
    on_ok_weaker c.put_bytes-2.result
    (λ last.
    five old c.put_bytes.new.out.items c.put_kind.new.out.items c.put_code.new.out.items c.put_name.new.out.items c.put_bytes-2.new.out.items
    (codes "$var ") (kind_of v.is_wide) (code_of c.args.number ++ codes " ") v.name (codes " $end\n")
    c.in_ok-put_bytes.ensures (c.in_ok-put_kind.ensures ∙ ap (λ wide. c.put_bytes.new.out.items ++ kind_of wide) c.is_wide.ensures) c.in_ok-put_code.ensures c.in_ok-put_name.ensures last
    ∙ ap (λ x. old ++ x) (sym (declaration_text v.is_wide (code_of c.args.number) v.name)))
    c.put_bytes-2.ensures
