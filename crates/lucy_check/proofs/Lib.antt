mod Agreement
mod ClassLeads
mod Leads
pub mod OneVerdict
mod Periods
mod RateLaws
pub mod Remainders
mod Seen
mod StepsBack
mod TurnsLaws
mod OrderRows
mod Walks
pub mod CheckLaws
pub mod LentLaws
pub mod OneAnswer
