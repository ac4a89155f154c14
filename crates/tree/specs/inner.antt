-- What only the proofs and the contracts of inner functions need: no promise rests on it.
pub mod Counted
pub mod Kept
pub mod Searchable
pub mod Searched
pub mod Sets
pub mod ShowOutcome
