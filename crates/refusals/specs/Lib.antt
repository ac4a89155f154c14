pub mod Check
pub mod Row
pub mod Order
pub mod Told
