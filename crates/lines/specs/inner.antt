-- What only the proofs and the contracts of inner functions need: no promise rests on it.
pub mod Listing
pub mod Printed
pub mod Stored
