-- What the writer's proofs share.
pub mod Writing
