pub mod Faults
pub mod Policies
pub mod Handling
pub mod Refusals
