-- The computed twins: programs that find what the definitions beside this folder say, each proved to do so.
pub mod Round
pub mod Table
pub mod Facts
pub mod FactCount
pub mod RoundsOf
pub mod Marks
pub mod Forest
pub mod Shown
pub mod Search
pub mod Listing
