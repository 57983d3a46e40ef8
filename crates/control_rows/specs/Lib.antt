-- Control rows: what they do to the body.
-- ---- meaning
pub mod Parts  -- the body torque of a row, part by part; the momenta after a step
pub mod Stored  -- a loop that stores one number a turn
-- ---- laws
pub mod RoomLaws  -- what a sized row has room for
pub mod StoredLaws  -- the storing loop: lengths, what stands where, a part that is lent from an offset on
