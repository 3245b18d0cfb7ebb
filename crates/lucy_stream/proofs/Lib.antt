pub mod FrontLaws
pub mod MergeLaws
pub mod KeptLaws
pub mod ListLaws
pub mod IterateLaws
pub mod FiringLaws
pub mod NeedLaws
pub mod NameLaws
mod Rows
pub mod CountLaws
pub mod RunLaws
pub mod StuckLaws
pub mod ConverseLaws
pub mod EventLaws
pub mod StateLaws
pub mod ReachLaws
pub mod GiveCounts
pub mod TakeCounts
pub mod OperatingLaws
pub mod PlanLaws
pub mod HorizonLaws
pub mod LongerPlans
pub mod DecidingLaws
pub mod TurnLaws
pub mod TurnCounts
pub mod CoverLaws
pub mod LeadLaws
pub mod KahnLaws
pub mod InstantLaws
pub mod AlikeLaws
pub mod JoinedLaws
pub mod HoldingLaws
pub mod CountedLaws
pub mod ActorLaws
pub mod PlaceLaws
pub mod OperationLaws
pub mod TotalLaws
pub mod SoundLaws
mod Plugged
mod Moves
mod RowSum
mod RowTwice
mod RowLoop
