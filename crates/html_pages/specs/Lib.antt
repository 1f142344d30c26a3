pub mod Fragments
pub mod Escaping
pub mod FormParts
