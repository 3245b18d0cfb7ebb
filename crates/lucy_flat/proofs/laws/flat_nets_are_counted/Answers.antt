use Rattle.lucy_flat.proofs.SizeOfNet.{rings_count, slots_count, passes, would_be}
use Rattle.lucy_flat.proofs.laws.flat_nets_are_counted.Goals as goal

pub returns-clause-would_be : goal.returns-clause-would_be
returns-clause-would_be c = would_be

pub returns-clause-rings : goal.returns-clause-rings
returns-clause-rings c = λ nodes clocks net proper clocked flat. rings_count nodes clocks proper clocked net flat

pub returns-clause-slots : goal.returns-clause-slots
returns-clause-slots c = λ nodes clocks net proper clocked flat. slots_count nodes clocks proper clocked net flat

pub returns-clause-passes : goal.returns-clause-passes
returns-clause-passes c = λ nodes clocks net l proper clocked flat why. passes nodes clocks proper clocked net flat l why
