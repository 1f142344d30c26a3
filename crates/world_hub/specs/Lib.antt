pub mod Hubs
pub mod HubOpenings
pub mod Shares
pub mod Histories
