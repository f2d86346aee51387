pub mod SlotLaws
pub mod PlannedLaws
pub mod AheadLaws
pub mod OrderLaws
pub mod PickLaws
pub mod SumLaws
pub mod ActionSums
