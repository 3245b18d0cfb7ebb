pub mod Deriving
pub mod Sets
pub mod Numbers
pub mod Table
pub mod Completions
pub mod Ahead
pub mod Leads
pub mod Forms
pub mod Tokens
pub mod Rules
pub mod Repeat
pub mod Unique
pub mod Steps
pub mod Growing
pub mod LeafProductions
pub mod NodeProductions
pub mod Productions
pub mod Whole
pub mod TextLaws
pub mod SpanLaws
pub mod Spelling
pub mod PrintedTrees
pub mod PrintedCalls
pub mod PrintedPrograms
pub mod PrintableLaws
pub mod ShapedLaws
pub mod Cores
pub mod CoreRules
pub mod CoreLaws
pub mod PrintedOrder
mod Rows
mod PrintRows
pub mod PrintedText
mod PrintedBytes
mod CutLimits
mod Counts
mod Levels
mod FewEntries
mod FewSteps
mod FewRules
mod FewLaws
mod Laid
mod Weights
mod Fitting
mod FittingTrees
mod FittingPrograms
pub mod RoundTrip
pub mod Sheets
mod Listings
mod Operands
mod ReadAgain
