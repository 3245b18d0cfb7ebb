use Rattle.std.proofs.Common.{sym, subst}
use Rattle.lucy_net.specs.declared.net.Net.{Net}
use Rattle.lucy_flat.specs.Flat.{IsFlat}
use Rattle.lucy_net_rows.proofs.cores.show.Goals as goal

pub output-requires : goal.output-requires
output-requires g c =
    let flat = subst (λ (n : Net). IsFlat c.args.placed.now.nodes c.args.clocks.now n) (sym c.show_events.ensures.net) c.requires.flat in
    c.has_result.ensures c.if-has_result.true c.args.clocks.now c.show_events.new.core.net flat
