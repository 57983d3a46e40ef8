-- A mosaic's legs in lent numbers, a row for each answered leg. Definitions only.
use Rattle.std.specs.Prelude.{ℕ, ◌-◌, cond, List, [], ◌∷◌, ◌++◌, map, ltb, length, drop, Float, Ok, Err}
use Rattle.problem.specs.declared.Momenta.{Momenta}
use Rattle.problem.specs.declared.Problem.{Problem}
use Rattle.planner.specs.declared.Planned.{Planned}
use Rattle.samples.specs.Rows.{rows}
use Rattle.mosaic.specs.Mosaics.{Planner, Flight, count_fate, nothing, tile_of, flown}
use Rattle.common.specs.Refusals.{Fate, refusal, going}

-- forward runs, controls in a row, wheels, iterations
abbrev pub counts : Planned → List ℕ
counts leg = leg.runs ∷ leg.path.controls ∷ leg.path.wheels ∷ leg.path.iterations ∷ []

-- duration, largest defect
abbrev pub times : Planned → List Float
times leg = leg.path.duration ∷ leg.path.max_defect ∷ []

-- the decision's 193 numbers
abbrev pub decision : Planned → List Float
decision leg = leg.path.z

-- 17 rows of 22 numbers
abbrev pub nodes : Planned → List (List Float)
nodes leg = rows leg.path.nodes

-- a row for each leg, in turn, and behind them what stood there
abbrev pub leg_rows : {A : Type 0} → (Planned → A) → List Planned → List A → List A
leg_rows f legs out = map f legs ++ drop (length legs) out

-- ---- the whole mosaic of rows of tiles, into lent lists of a, b, c and d rows

-- 99, which is no refusal's number: a lent list has fewer rows than there are legs
abbrev pub room_fate : ℕ → ℕ → ℕ → ℕ → ℕ → Fate
room_fate legs a b c d = cond (ltb a legs) (Err (refusal 99 0)) (cond (ltb b legs) (Err (refusal 99 0)) (cond (ltb c legs) (Err (refusal 99 0)) (cond (ltb d legs) (Err (refusal 99 0)) going)))

-- 23 first, then 99
abbrev pub lent_fate_by : Fate → ℕ → ℕ → ℕ → ℕ → ℕ → Fate
lent_fate_by (Ok _) tiles a b c d = room_fate (tiles - 1) a b c d
lent_fate_by (Err why) tiles a b c d = Err why

unfoldable pub lent_fate : ℕ → ℕ → ℕ → ℕ → ℕ → Fate
lent_fate tiles a b c d = lent_fate_by (count_fate tiles) tiles a b c d

-- then the legs
abbrev pub lent_by : Fate → Planner → Problem → List (List Float) → Momenta → Flight
lent_by (Ok _) plan p tiles m = flown plan p (tile_of tiles) m (length tiles - 1)
lent_by (Err why) plan p tiles m = nothing m why

unfoldable pub lent : Planner → Problem → List (List Float) → Momenta → ℕ → ℕ → ℕ → ℕ → Flight
lent plan p tiles m a b c d = lent_by (lent_fate (length tiles) a b c d) plan p tiles m
