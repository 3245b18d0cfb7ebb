-- What callers believe, in the order to read it: the operations of a net, proper nets, moves, cursors and states of actors, words, causes and
-- sound orders of events; how long a schedule is, why there is none, what one is, and that a net has one answer.
pub mod Plans
pub mod Proper
pub mod Moves
pub mod Cursors
pub mod States
pub mod Words
pub mod Causal
pub mod Orders
pub mod Lengths
pub mod Faults
pub mod Schedules
pub mod OneAnswer
-- Below this line stands what only serves the proofs.
pub mod Stepping
pub mod Instants
pub mod Turning
pub mod Play
pub mod Waiting
pub mod Settling
pub mod Agenda
pub mod Passing
