pub mod DueLaws
pub mod AggregateLaws
pub mod StampLaws
pub mod TunnelLaws
pub mod WaitLaws
pub mod PaddingLaws
pub mod RoomLaws
