pub mod Bytes
pub mod Extents
pub mod Items
pub mod Places
pub mod Lexing
pub mod TextPieces
pub mod Tokens
pub mod Flaws
