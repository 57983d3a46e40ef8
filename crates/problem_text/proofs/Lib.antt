-- What the proofs of the list and of the reader share.
pub mod Lists
