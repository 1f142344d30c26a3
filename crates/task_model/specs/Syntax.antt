-- Programs and literals as text: tokens, the grammar, what a parse means, and what is printed.
pub mod Literal
pub mod Characters
pub mod Calls
pub mod Spelling
pub mod LaterBodies
pub mod Lexemes
pub mod Grammar
pub mod Meaning
pub mod Nodes
pub mod ProgramText
pub mod Printed
pub mod Written
