-- Lemmas on signed numbers, on a sample's rows, and on a list of them.
mod Signs
mod Kept
mod Listing
pub mod Laws  -- what a number says of its float, and the way back
pub mod PartLaws  -- a part by what the code works out
pub mod SampleLaws  -- what 13 numbers say of their sample, and when there are none
