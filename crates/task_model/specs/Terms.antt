-- The terms of the types of the code, which contracts speak of: no pointers and no spare room.
pub mod Rowed
pub mod Loans
pub mod Left
pub mod Text
pub mod Basic
pub mod Elements
pub mod Value
pub mod Env
pub mod Host
pub mod Scope
pub mod Task
pub mod Program
pub mod Tree
pub mod Input
pub mod Held
pub mod Item
pub mod Token
