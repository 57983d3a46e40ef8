-- The C interface of what stands beside a plan.
-- ---- meaning
pub mod OrderEntries  -- an order of tiles as numbers
pub mod Region  -- what a call of drive against draught tells
