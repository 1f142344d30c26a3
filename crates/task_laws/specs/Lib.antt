pub mod TreePlaces
pub mod ActsAt
pub mod ProgramNodes
pub mod BodyFronts
pub mod StoresGo
pub mod HaveAlike
