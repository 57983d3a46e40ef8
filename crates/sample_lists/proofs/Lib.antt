-- Lemmas on a list in the code's steps, and on the samples that are under way.
mod Listing
mod Pipeline
