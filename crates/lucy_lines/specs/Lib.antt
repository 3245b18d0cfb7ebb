-- What has to be believed, in the order to read it: where a line ends or is too long, its fields, values as they are spelled,
-- what a line says, the items of an input and their stop, what a call of the reader answers, the laws of cuts, when a line is
-- judged, and lines in print; what the bytes taken feed, what a reading keeps from call to call, and a reading that is
-- resumed; the lines of a run, what a writer of lines is seen as, and the laws of output lines.
pub mod Fronts
pub mod Fields
pub mod Values
pub mod Kinds
pub mod Cuts
pub mod Nexts
pub mod Reading
pub mod CutLaws
pub mod Judged
pub mod Written
pub mod Feeding
pub mod Going
pub mod Resuming
pub mod Outputs
pub mod Writing
pub mod OutputLaws
-- Below this line stands what only serves proofs of bodies.
pub mod Held
pub mod Steps
pub mod Walks
