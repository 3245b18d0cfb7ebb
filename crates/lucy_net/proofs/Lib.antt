pub mod WhereLaws
pub mod NumberedLaws
pub mod NetLaws
pub mod SlotLaws
pub mod WordLaws
pub mod BackLaws
pub mod SoundLaws
pub mod AgainLaws
pub mod FiringLaws
pub mod OperandLaws
pub mod StateLaws
mod CursorLaws
mod EndLaws
mod PlainLaws
mod Rows
pub mod SumLaws
pub mod Steps
pub mod PlayLaws
pub mod StackLaws
pub mod SettleLaws
pub mod InstantLaws
pub mod NeedLaws
pub mod TurnLaws
pub mod RowLaws
pub mod LengthLaws
pub mod CountLaws
pub mod AgendaLaws
pub mod PeriodLaws
pub mod OneAnswer
