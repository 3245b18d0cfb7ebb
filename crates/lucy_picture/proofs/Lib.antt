mod ChartLaws
mod TurnLaws
mod FillLaws
mod FormLaws
mod SeekLaws
pub mod TextLaws
pub mod HoldLaws
