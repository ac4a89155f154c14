-- What only the proofs and the contracts of inner functions need: no promise rests on it.
pub mod Charted
pub mod Count
pub mod Ends
pub mod Parts
pub mod Writing
