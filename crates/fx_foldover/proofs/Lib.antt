pub mod Rules
pub mod EvenWords
pub mod CombinedWords
pub mod Resolutions
pub mod Exchanges
pub mod Additions
mod Examples
