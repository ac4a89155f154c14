-- What only the proofs and the contracts of inner functions need: no promise rests on it.
pub mod Starts
pub mod Words
pub mod Chains
