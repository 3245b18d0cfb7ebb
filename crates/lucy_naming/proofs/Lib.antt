pub mod TextLaws
pub mod VerdictLaws
pub mod PhraseLaws
pub mod DraftLaws
pub mod PartsLaws
pub mod RoomLaws
pub mod NodeLaws
pub mod ProgramLaws
mod Rows
pub mod WrittenLaws
mod OperandLaws
mod EachLaws
mod Spread
mod BoundLaws
mod CallLaws
mod ShapeLaws
mod Good
pub mod OwnPlaces
mod ProperPhrases
mod NodeParts
pub mod NodeFaults
pub mod NameLaws
pub mod ResultLaws
mod ProperNodes
pub mod ProperPrograms
pub mod NodesLaws
pub mod OperatorLaws
mod WrittenPhrases
mod NamedPhrases
mod WrittenDefs
mod WrittenNodes
mod ReadCounts
mod ReadPhrases
mod ReadNodes
pub mod ReadOrder
