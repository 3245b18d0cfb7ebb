pub mod Parts
pub mod JoinedLists
pub mod Tables
pub mod SizeLaws
pub mod Paths
pub mod SpotLists
pub mod Numbered
pub mod Closed
pub mod ByNumber
mod Rows
mod ListSteps
mod InstanceLaws
mod TurnLaws
pub mod OwnLaws
mod RunLaws
mod ReadLaws
