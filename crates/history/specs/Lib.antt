-- The definitions that the contracts cite.
pub mod Questions
pub mod Refusals
pub mod Replies
pub mod History
pub mod Following
pub mod Laws
