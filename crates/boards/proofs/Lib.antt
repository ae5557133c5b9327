pub mod CountExamples
pub mod MakingSlots
pub mod SlotExamples
