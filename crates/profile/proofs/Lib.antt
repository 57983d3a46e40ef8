-- Lemmas that several proofs share.
pub mod Nodes
