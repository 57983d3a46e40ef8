-- An order for the tiles.
-- ---- meaning
pub mod Below  -- whether a test holds below k, and a sum over the numbers below k
pub mod Tables  -- a table of times, its test, and the floor
pub mod Orders  -- an order of the tiles, and what it costs
pub mod Search  -- the search, placement by placement, within a budget
pub mod Answers  -- the answer for a table and a budget, and its refusal
pub mod Promises  -- what is promised of the answer
-- ---- laws
pub mod PromisesKept  -- the promises hold of every table and every budget
pub mod Examples  -- three tiles by the definitions alone
pub mod TableLaws  -- what the table's test says
pub mod LeastLaws  -- where the budget was not used up, no order is cheaper
pub mod FloorLaws  -- no order costs less than the floor
pub mod MoreLaws  -- more budget never gives a dearer order
pub mod WaysLaws  -- how many placements there can be
pub mod ProgressLaws  -- what the search keeps
pub mod TurnLaws  -- one turn of the search by cases
pub mod OrderLaws  -- orders: one tile more, 0, 1, 2 and so on
pub mod LinkLaws  -- the links of the tiles that are left
pub mod WalkLaws  -- the code goes from link to link, the definition from tile to tile
pub mod AnyLaws  -- a test at the numbers below k
pub mod SumLaws  -- a sum over the numbers below k
pub mod LoopLaws  -- what a counted loop keeps
-- ---- inner words of proofs
pub mod Inner  -- what the functions of the search keep between them
