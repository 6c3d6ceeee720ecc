mod Bounds
mod Filling
mod Numbers
mod Spelled
mod Moving
mod Examples
mod ReadProducts
mod ReadLines
mod ReadNames
pub mod WayBack
pub mod Stepping
pub mod Kept
pub mod GivenLevels
mod RuleMatrices
mod ReadTables
mod Prefixes
mod RowByRow
pub mod Blanks
pub mod Within
mod SamePlaces
mod Faults
