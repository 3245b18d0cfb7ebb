pub mod HorizonLaws
pub mod NetLaws
pub mod StreamLaws
pub mod ClockLaws
pub mod OutputLaws
pub mod InputLaws
pub mod LaterLaws
pub mod WholeLaws
mod TaskLaws
mod EnoughLaws
mod PlayLaws
pub mod TakenLaws
pub mod WholeRunLaws
