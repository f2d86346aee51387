pub mod Changes
pub mod Lent
pub mod Pushes
pub mod Stamps
pub mod Queues
pub mod Views
pub mod Heads
pub mod Slots
