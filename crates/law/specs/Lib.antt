pub mod Words
pub mod Model
pub mod Events
pub mod Shown
pub mod Answers
pub mod Exchange
pub mod Law
pub mod Promises
