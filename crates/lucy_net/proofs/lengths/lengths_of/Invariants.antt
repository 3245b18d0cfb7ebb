use Rattle.std.proofs.Common.{◌+◌, ◌≤◌, ◌++◌, map, take}
use Rattle.lucy_net.specs.Words.{ring_words}
use Rattle.lucy_net.specs.Lengths.{AreLengths}
use Rattle.lucy_word.specs.Limits.{limit_number}
use Rattle.lucy_word.specs.declared.limit.Limit.TheVariants as limit
use Rattle.lucy_net.proofs.lengths.lengths_of.Given as goal

abbrev pub invariant-actors : goal.invariant-actors
invariant-actors l = record {
  lengths : AreLengths (map (λ actor. actor.firing) (take l.actor-index l.actor-items)) l.lengths.prefix l.lengths.period;
  short : l.lengths.prefix + l.lengths.period ≤ limit_number limit.Schedule;
}

abbrev pub invariant-rings : goal.invariant-rings
invariant-rings l = record {
  lengths : AreLengths (map (λ actor. actor.firing) l.net.actors ++ ring_words (take l.ring-index l.ring-items)) l.lengths.prefix l.lengths.period;
  short : l.lengths.prefix + l.lengths.period ≤ limit_number limit.Schedule;
}
