-- Lemmas on plain numbers and on floats' patterns; those that other crates cite are public.
mod Digits
pub mod Patterns
pub mod Products
