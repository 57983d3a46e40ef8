-- Lemmas that the proofs share: tests on floats, products and division, terms and ends of the series, the answers.
mod Tests
mod Division
mod Quick
mod Leasts
mod Stages
mod Bits
mod Rounding
mod Regions
mod Places
mod Answered
mod ArcTerms
mod ArcEnds
mod Whole
