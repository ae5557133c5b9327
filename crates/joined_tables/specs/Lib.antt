pub mod Whole
pub mod Joined
pub mod TableKind
