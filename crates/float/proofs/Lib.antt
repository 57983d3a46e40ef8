-- Lemmas on plain numbers and on floats.
mod Arms
mod Cases
mod Near
mod Roots
mod Settled
mod Shapes
mod Whole
