-- Lemmas on a mosaic's turns, in the code's steps.
mod Steps
