pub mod BeyondMachines
pub mod BlockLaws
pub mod DelayOrder
pub mod FiveLaws
pub mod OfferedLaws
pub mod QueueLaws
pub mod SlotDelays
