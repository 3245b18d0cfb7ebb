use Rattle.lucy_results.proofs.WholeRunLaws.{run_along}
use Rattle.lucy_results.proofs.laws.runs_lead_along_streams.Goals as goal

pub returns : goal.returns
returns c = λ nodes clocks net schedule inputs operators instants picks proper flat fixed run.
    run_along nodes clocks net schedule inputs operators instants proper flat fixed picks run
