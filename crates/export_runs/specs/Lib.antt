-- The C interface of runs, residuals and the elimination.
-- ---- meaning
pub mod Paths  -- runs and residuals of a problem as declared, and what is told of them
pub mod Rigs  -- what is told of a torque and of an allocated row
pub mod Systems  -- the elimination and the step for lists of any lengths
-- ---- laws
pub mod Told  -- what the code reads from how a run ended is what its answer says
