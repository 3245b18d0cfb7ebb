-- Why a text is refused, that it has one answer, and what is printed of a refusal, in this order.
pub mod Unclocked
pub mod Items
pub mod Unscheduled
pub mod Refusing
pub mod OneAnswer
pub mod Needs
pub mod Evidence
pub mod Refusals
-- Below this line stands what only serves the proofs of the bodies.
pub mod Sizes
pub mod Clocking
pub mod Ends
