pub mod ChunkLemmas
pub mod Escapes
pub mod Inert
pub mod Framed
pub mod Behind
pub mod Pieces
