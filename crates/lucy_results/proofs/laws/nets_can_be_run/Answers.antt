use Rattle.lucy_results.proofs.NetLaws.{fixed, gives_below}
use Rattle.lucy_results.proofs.laws.nets_can_be_run.Goals as goal

pub returns-clause-fixed : goal.returns-clause-fixed
returns-clause-fixed c = λ nodes clocks net schedule inputs operators instants proper have flat sound suffice early.
    fixed nodes clocks proper net flat schedule inputs operators instants have sound suffice early

pub returns-clause-givers : goal.returns-clause-givers
returns-clause-givers c = λ nodes clocks net instants proper flat. gives_below nodes clocks proper net flat instants
