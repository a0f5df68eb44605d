pub mod Piece
pub mod Table
pub mod Test
pub mod TestLaws
