pub mod Pieces
pub mod PiecesLaws
pub mod Cutting
pub mod CuttingLaws
