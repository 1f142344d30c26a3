pub mod WorldLemmas
pub mod KeptLemmas
pub mod RunLemmas
pub mod ShownWidgets
