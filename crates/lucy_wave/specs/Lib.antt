-- What has to be believed, in the order to read it: the names of variables, what a dump of variables is, what the lines of a dump say, the
-- net that puts out more streams, what the dump of a run shows and when it is owed, and laws.
pub mod Names
pub mod Dumps
pub mod Reading
pub mod Watching
pub mod Waves
pub mod Laws
-- Below this line stands what only serves the proofs of the bodies.
pub mod Seen
