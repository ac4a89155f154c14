-- What only the proofs and the contracts of inner functions need: no promise rests on it.
pub mod Commit
pub mod Gained
pub mod Holds
pub mod Mask
pub mod Places
pub mod Reach
pub mod Round
