pub mod HorizonLaws
pub mod OwesLaws
pub mod FedLaws
pub mod WholeLaws
mod LinesLaws
mod SilentLaws
mod ReadLaws
mod CourseLaws
mod WantingLaws
mod WriteLaws
mod OverLaws
pub mod AcceptedLaws
pub mod EndsLaws
mod EngineLaws
mod RunLaws
pub mod ReplayLaws
mod TracingLaws
mod TraceOnce
