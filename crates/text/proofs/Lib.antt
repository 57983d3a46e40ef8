-- What the reader's proofs share.
pub mod Rows
