pub mod Examples
mod Families
mod JobExamples
