use Rattle.std.proofs.Common.{ap, sym, subst}
use Rattle.lucy_net.specs.declared.net.Net.{Net}
use Rattle.lucy_core.specs.Seen.{Seen}
use Rattle.lucy_flat.specs.Flat.{IsFlat}
use Rattle.lucy_net_rows.proofs.rounds.show_run.Goals as goal

pub output-requires : goal.output-requires
output-requires g c =
    let net = ap (λ (s : Seen). s.net) c.go.ensures.run.2 in
    let flat = subst (λ (n : Net). IsFlat c.args.placed.now.nodes c.args.clocks.now n) (sym net) c.requires.flat in
    c.has_result.ensures c.if-has_result.true c.args.clocks.now c.go.new.self.seen.net flat
