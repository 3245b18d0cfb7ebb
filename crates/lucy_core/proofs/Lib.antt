pub mod CircleLaws
pub mod SeenLaws
pub mod ListLaws
pub mod CursorLaws
pub mod CountingLaws
pub mod StepLaws
pub mod PickLaws
pub mod OpenLaws
pub mod OnwardLaws
pub mod MakeLaws
pub mod InsideLaws
mod Rows
