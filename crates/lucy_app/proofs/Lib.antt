mod Pairs
mod Causes
mod Verdicts
mod Typed
mod Checked
mod Told
mod OwedPrograms
mod RunsOnce
mod MakesOnce
mod TightOnce
mod Named
mod TightOut
mod Makes
mod Owed
mod Outcomes
pub mod Sinks
pub mod Runs
pub mod RunEnds
mod RunInputs
mod RunRight
mod CheckRight
mod ReplaysOnce
mod Replays
mod Unaccepted
mod Statuses
mod Played
mod Suited
mod Traceable
mod OneOutput
mod Reports
