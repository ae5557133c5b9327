pub mod Tables
pub mod Vector
pub mod VectorOut
pub mod Spelling
