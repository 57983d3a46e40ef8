-- The limits of a control row.
-- ---- meaning
pub mod Limits  -- limits of controls, momenta and powers; a row held to them
-- ---- laws
pub mod FewerLaws  -- the smaller of two counts
