-- Previews and starts in any sequence.
-- ---- meaning
pub mod Events  -- what each event answers, what is on record after it, the path started last
-- ---- laws
pub mod Entries  -- what holds over every sequence, for both entries
pub mod EventLaws  -- the same for any planner
pub mod SameStarts  -- the planner reads of the momenta the wheels and nothing else
