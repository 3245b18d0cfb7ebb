pub mod AcceptedLaws
mod BoundedLaws
pub mod ReportLaws
