pub mod SystemDisks
