use Rattle.std.proofs.Common.{sym, subst}
use Rattle.lucy_stream.specs.Systems.{System}
use Rattle.lucy_stream.specs.Runs.{IsWhole}
use Rattle.lucy_core.specs.Seen.{first_seen}
use Rattle.lucy_results.proofs.WholeRunLaws.{whole_run}
use Rattle.lucy_results.proofs.laws.whole_runs_lead_to_streams.Goals as goal

pub returns : goal.returns
returns c = λ nodes clocks net schedule inputs operators instants picks proper flat fixed whole.
    whole_run nodes clocks net schedule inputs operators instants proper flat fixed picks
    (subst (λ (sys : System). IsWhole sys picks) (sym (c.events_go_by_the_net.ensures (first_seen net schedule inputs operators instants))) whole)
