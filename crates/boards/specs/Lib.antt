pub mod CountBoard
pub mod Counts
pub mod CountLaws
pub mod SlotBoard
pub mod ByteOrder
pub mod SlotLaid
pub mod Slots
pub mod SlotLaws
