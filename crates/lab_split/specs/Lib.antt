pub mod Cuts
pub mod PiecesCover
pub mod PiecesAreClasses
