mod ReadyLaws
mod EchoLaws
mod RowLaws
mod HandLaws
