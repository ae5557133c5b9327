pub mod Kind
pub mod Taking
pub mod Counts
