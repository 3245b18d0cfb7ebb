use Rattle.lucy_stream.specs.Schedules.{events_to}
use Rattle.lucy_results.proofs.WholeLaws.{word_there, place_whole}
use Rattle.lucy_results.proofs.laws.places_are_whole.Goals as goal

pub returns-clause-words : goal.returns-clause-words
returns-clause-words c =
    λ nodes clocks spot proper clocked schedule is. word_there nodes clocks proper schedule.net schedule.flat clocked spot is

pub returns-clause-whole : goal.returns-clause-whole
returns-clause-whole c = λ kinds inputs nodes clocks spot word instants proper clocked schedule suffice is on.
    place_whole nodes clocks proper schedule.net schedule.flat kinds inputs instants (events_to schedule.events instants) suffice
    (schedule.sound instants) clocked spot word is on
