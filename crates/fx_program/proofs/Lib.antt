mod Wording
mod Reading
pub mod Endings
pub mod Limits
pub mod SoFar
pub mod Stages
mod Listings
pub mod CatalogueLines
pub mod Filing
mod Filling
mod Planned
mod Given
pub mod None
pub mod AnyText
pub mod Statuses
pub mod CatalogueClaims
pub mod PlanClaims
mod Summing
pub mod ProvedBooks
pub mod Commands
pub mod Made
pub mod GivenOptions
mod WordPlaces
mod TableFaults
mod WordFaults
mod ProvedTables
pub mod Complete
mod Examples
mod Ruling
mod TableLimits
mod TableNames
mod TableUses
mod Tabulated
pub mod SomeOutput
mod Uses
