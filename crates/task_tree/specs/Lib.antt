pub mod InFront
pub mod Down
pub mod Below
