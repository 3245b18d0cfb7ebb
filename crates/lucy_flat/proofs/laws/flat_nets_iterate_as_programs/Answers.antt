use Rattle.lucy_flat.proofs.MeaningLaws.{places_iterate, outputs_iterate}
use Rattle.lucy_flat.proofs.laws.flat_nets_iterate_as_programs.Goals as goal

pub returns-clause-places : goal.returns-clause-places
returns-clause-places c = λ kinds inputs nodes clocks net n spot proper flat is. places_iterate nodes clocks net proper flat kinds inputs n spot is

pub returns-clause-outputs : goal.returns-clause-outputs
returns-clause-outputs c = λ kinds inputs nodes clocks net n i place proper flat e. outputs_iterate nodes clocks net proper flat kinds inputs n i place e
