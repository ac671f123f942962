pub mod Walk
pub mod FirstPlace
pub mod Settling
pub mod Places
pub mod CarryAll
pub mod Moves
pub mod Ended
