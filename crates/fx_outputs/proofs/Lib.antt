pub mod Accepted
pub mod AcceptedColumns
mod Examples
pub mod Folded
pub mod Histories
pub mod InOrder
pub mod Limits
pub mod OptionCuts
pub mod NamedPlans
pub mod Names
pub mod Statements
pub mod Taken
pub mod Placed
pub mod OwnNames
pub mod OptionParts
pub mod DerivedNames
pub mod FreeNames
pub mod DifferentColumns
