pub mod Record
pub mod Taking
pub mod Changes
pub mod Calls
pub mod Following
pub mod Summaries
pub mod Faults
pub mod Newest
