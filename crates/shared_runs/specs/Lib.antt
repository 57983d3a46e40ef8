-- Runs that share their beginning.
-- ---- meaning
pub mod Shared  -- what is kept of a base run, and when another decision's run has it
-- ---- laws
pub mod SharedLaws  -- two decisions with the same first rows have the same first steps
