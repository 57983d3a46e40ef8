-- Between the nodes: the rates of an answered path's dense samples.
-- ---- meaning
pub mod Between  -- what is promised
pub mod Nodes  -- what is asked of a run's nodes
-- ---- laws
pub mod Courses  -- the nodes of a run: times and rates
pub mod Instants  -- the times of nodes and samples
pub mod Rows  -- a path's rows by its nodes
pub mod Walks  -- the walk to a sample's two nodes
