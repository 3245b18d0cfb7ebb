use Rattle.lucy_kahn.proofs.Numbered.{number_below, number_own, number_reached, place_there, count_places}
use Rattle.lucy_kahn.proofs.numbers.instance_places_are_numbered.Goals as goal

pub returns-clause-below : goal.returns-clause-below
returns-clause-below c = λ nodes spot proper is. number_below nodes proper spot is

pub returns-clause-own : goal.returns-clause-own
returns-clause-own c = λ nodes x y proper x_is y_is e. number_own nodes proper x y x_is y_is e

pub returns-clause-reached : goal.returns-clause-reached
returns-clause-reached c = λ nodes k proper l. number_reached nodes proper k l

pub returns-clause-place : goal.returns-clause-place
returns-clause-place c = λ nodes spot proper is. place_there nodes proper spot is

pub returns-clause-count : goal.returns-clause-count
returns-clause-count c = λ nodes proper. count_places nodes proper
