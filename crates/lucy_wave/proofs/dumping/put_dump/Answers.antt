use Rattle.std.proofs.Common.{◌+◌, ◌≡◌, suc, arith}
use Rattle.std.proofs.lemmas.Result.{on_ok_weaker}
use Rattle.lucy_wave.specs.Seen.{all_seen}
use Rattle.lucy_wave.proofs.DumpLaws.{dump_text}
use Rattle.lucy_wave.proofs.dumping.put_dump.Goals as goal

pub returns : goal.returns
returns c =
    let next : c.args.count + 1 ≡ suc c.args.count = omega arith in
    on_ok_weaker c.put_time.result
    (λ last.
    dump_text c.args.scope.now (all_seen c.args.variables.now) c.args.count (c.args.count + 1) c.args.out.now.items c.put_header.new.out.items c.put_steps.new.out.items c.put_time.new.out.items
    next c.in_ok-put_header.ensures c.in_ok-put_steps.ensures last)
    c.put_time.ensures
