-- The answer for n tiles, the table t and the budget b, and what it is in the specification's numbers. Definitions only.
use Rattle.std.specs.Prelude.{ℕ, false, cond, List, replicate, Ok, Err}
use Rattle.common.specs.Answer as Answer
use Rattle.tile_order.specs.declared.Found.{Found}
use Rattle.tile_order.specs.declared.Ordered.{Ordered}
use Rattle.tile_order.specs.Tables.{refused, floor}
use Rattle.tile_order.specs.Search.{Progress, search}
use Rattle.common.specs.Refusals.{Fate, going}

-- 25, with zeros beside it
abbrev pub refusal : Ordered
refusal = record { fate = Err (record { number = 25; place = 0 }); found = record { order = replicate 10 0; cost = 0; placed = 0; exhausted = false; floor = 0 } }

abbrev pub found : Progress → ℕ → Ordered
found s f = record { fate = going; found = record { order = s.order; cost = s.cost; placed = s.placed; exhausted = s.exhausted; floor = f } }

-- the table's test stands before the search
unfoldable pub answer : ℕ → List ℕ → ℕ → Ordered
answer n t b = cond (refused n t) refusal (found (search n t b) (floor n t))

abbrev pub of_fate : Fate → Found → Answer.Answer Found
of_fate (Ok _) f = Answer.Given f
of_fate (Err why) f = Answer.Refused why.number why.place 0

-- an order with what is known of it, or 25 at place 0 with 0 runs
abbrev pub of_ordered : Ordered → Answer.Answer Found
of_ordered o = of_fate o.fate o.found
