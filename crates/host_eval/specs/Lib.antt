pub mod ValueWords
pub mod NamesTerm
pub mod HeadAndTail
pub mod Numbered
