mod Counted
mod Fields
mod Found
mod Slots
