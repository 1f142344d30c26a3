pub mod WorkLemmas
pub mod PlanLemmas
mod DecideLemmas
mod EqualityLemmas
mod SignLemmas
pub mod OfferLemmas
pub mod OutcomeLemmas
pub mod RanLemmas
pub mod StoreLemmas
mod RenumberLemmas
mod LikeLemmas
mod TwinLemmas
mod AlikeLemmas
mod FrameLemmas
mod PlaceLemmas
mod StayLemmas
mod ReachLemmas
mod FootLemmas
mod FailingLemmas
mod NextLemmas
pub mod ParseLemmas
pub mod PlacedLemmas
pub mod CountLemmas
pub mod StartLemmas
pub mod WalkLemmas
pub mod TableLemmas
mod NodeLemmas
mod FrontLemmas
mod OfferListLemmas
mod LackingLemmas
mod MatchLemmas
pub mod HistoryLemmas
pub mod EntryLemmas
pub mod BeginningLemmas
pub mod AddressLemmas
