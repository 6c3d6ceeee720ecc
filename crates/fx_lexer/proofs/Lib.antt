mod Examples
pub mod Ends
pub mod PieceOfItem
pub mod PiecesOfText
pub mod Spans
pub mod ItemOfPiece
pub mod TextOfPieces
pub mod NextByte
pub mod NextPlace
pub mod NextItem
pub mod Placed
