pub mod Entry
pub mod Memory
pub mod Claim
pub mod Table
