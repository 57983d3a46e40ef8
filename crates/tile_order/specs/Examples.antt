-- Three tiles by the definitions alone: the need is 4 placements; with 3 the budget is used up, and what is found so far is given. Assumes nothing.
use Rattle.std.specs.Prelude.{ℕ, ◌≡◌, refl, true, false, List, [], ◌∷◌}
use Rattle.common.specs.Iter.{iter}
use Rattle.tile_order.specs.Below.{any, sum}
use Rattle.tile_order.specs.Search.{turn, visit}
use Rattle.tile_order.specs.Answers.{refusal, answer}
use Rattle.common.specs.Refusals.{going}

abbrev times : List ℕ
times = 39 ∷ 59 ∷ 14 ∷ 16 ∷ 52 ∷ 28 ∷ 11 ∷ 20 ∷ 13 ∷ []

all_tried : answer 3 times 4 ≡ record { fate = going; found = record { order = 0 ∷ 2 ∷ 1 ∷ 0 ∷ 0 ∷ 0 ∷ 0 ∷ 0 ∷ 0 ∷ 0 ∷ []; cost = 34; placed = 4; exhausted = false; floor = 34 } }
unfolding answer visit turn iter any sum
all_tried = refl

one_short : answer 3 times 3 ≡ record { fate = going; found = record { order = 0 ∷ 1 ∷ 2 ∷ 0 ∷ 0 ∷ 0 ∷ 0 ∷ 0 ∷ 0 ∷ 0 ∷ []; cost = 87; placed = 3; exhausted = true; floor = 34 } }
unfolding answer visit turn iter any sum
one_short = refl

not_square : answer 4 times 3 ≡ refusal
unfolding answer
not_square = refl
