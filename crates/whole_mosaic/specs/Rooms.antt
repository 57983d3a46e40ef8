-- The counts of tiles and of lent rows, in the code's steps. Laws that assume nothing.
use Rattle.std.specs.Prelude.{ℕ, ◌-◌, ◌<◌, ◌≤◌, Bool, true, false, cond, List, [], ltb, length, Float, Ok, Err}
use Rattle.std.proofs.Math.Path.{◌≡◌, refl}
use Rattle.std.proofs.Common.{sym, ap, subst, ◌∙◌, arith, lt-ltb, le-ltb, ltb-false}
use Rattle.problem.specs.declared.Momenta.{Momenta}
use Rattle.problem.specs.declared.Problem.{Problem}
use Rattle.forward.specs.StepLaws.{refused_going}
use Rattle.planner.specs.PlanLaws.{leaves_none}
use Rattle.mosaic.specs.Mosaics.{Planner, start, halted, count_fate, flown, tile_of}
use Rattle.mosaic.specs.declared.Cursor.{Cursor}
use Rattle.mosaic.specs.declared.ways.Way.{Way}
use Rattle.mosaic_laws.specs.Tiles.{count_least}
use Rattle.whole_mosaic.specs.Filled.{Lends, Filled}
use Rattle.whole_mosaic.specs.Layout.{room_fate, lent_fate_by, lent_fate, lent}
use Rattle.common.specs.Refusals.{Fate, refusal, going}
use Rattle.common.specs.declared.Refusal.{Refusal}

-- ---- 99
module _ (legs a b c d : ℕ) where
  pub short_counts : a < legs → Err (refusal 99 0) ≡ room_fate legs a b c d
  short_counts h = rw (lt-ltb a legs h) refl

  pub short_times : legs ≤ a → b < legs → Err (refusal 99 0) ≡ room_fate legs a b c d
  short_times h i = rw (le-ltb a legs h, lt-ltb b legs i) refl

  pub short_decisions : legs ≤ a → legs ≤ b → c < legs → Err (refusal 99 0) ≡ room_fate legs a b c d
  short_decisions h i j = rw (le-ltb a legs h, le-ltb b legs i, lt-ltb c legs j) refl

  pub short_nodes : legs ≤ a → legs ≤ b → legs ≤ c → d < legs → Err (refusal 99 0) ≡ room_fate legs a b c d
  short_nodes h i j k = rw (le-ltb a legs h, le-ltb b legs i, le-ltb c legs j, lt-ltb d legs k) refl

  pub enough : legs ≤ a → legs ≤ b → legs ≤ c → legs ≤ d → going ≡ room_fate legs a b c d
  enough h i j k = rw (le-ltb a legs h, le-ltb b legs i, le-ltb c legs j, le-ltb d legs k) refl

-- a test that passed
passed : (m n : ℕ) {f : Fate} → cond (ltb m n) (Err (refusal 99 0)) f ≡ going → (n ≤ m) × (f ≡ going)
passed m n {f} e = by (ltb m n) refl e
  where
    by : (b : Bool) → ltb m n ≡ b → cond b (Err (refusal 99 0)) f ≡ going → (n ≤ m) × (f ≡ going)
    by true h g = absurd (refused_going g)
    by false h g = (ltb-false _ _ h, g)

-- ---- 23, then 99
module _ (tiles a b c d : ℕ) {f : Fate} (e : f ≡ count_fate tiles) where
  pub tiles_refused : {why : Refusal} → f ≡ Err why → Err why ≡ lent_fate tiles a b c d
  unfolding lent_fate
  tiles_refused g = rw (← e, g) refl

  pub tiles_room : f ≡ going → room_fate (tiles - 1) a b c d ≡ lent_fate tiles a b c d
  unfolding lent_fate
  tiles_room g = rw (← e, g) refl

count_most : (count : ℕ) → count_fate count ≡ going → count ≤ 64
count_most count e = by (ltb count 2) (ltb 64 count) refl e
  where
    by : (x y : Bool) → ltb 64 count ≡ y → cond x (Err (refusal 23 0)) (cond y (Err (refusal 23 0)) going) ≡ going → count ≤ 64
    by true y h g = absurd (refused_going g)
    by false true h g = absurd (refused_going g)
    by false false h g = ltb-false _ _ h

module _ (tiles a b c d : ℕ) where
  counted : (e : Fate) → count_fate tiles ≡ e → lent_fate_by e tiles a b c d ≡ going → Lends (tiles - 1) tiles a b c d
  counted (Err why) h g = absurd (refused_going g)
  counted (Ok _) h g =
      let p = passed a (tiles - 1) g in
      let q = passed b (tiles - 1) p.1 in
      let r = passed c (tiles - 1) q.1 in
      let s = passed d (tiles - 1) r.1 in
      let two = count_least tiles h in
      let most = count_most tiles h in
      record { enough = omega arith; most = omega arith; counts = p.0; times = q.0; decisions = r.0; nodes = s.0 }

  -- where neither refuses, there is a leg fewer than there are tiles, and a row for each
  pub lends : {f : Fate} → f ≡ lent_fate tiles a b c d → f ≡ going → Lends (tiles - 1) tiles a b c d
  unfolding lent_fate
  lends e g = counted (count_fate tiles) refl (sym e ∙ g)

  pub lends_tile : {f : Fate} → f ≡ lent_fate tiles a b c d → f ≡ going → 1 ≤ tiles
  lends_tile e g = let l = lends e g in omega (arith, l.enough)

-- ---- the whole mosaic
module _ (plan : Planner) (way : Way) (p : Problem) (m : Momenta) (tiles : List (List Float)) (counts : List (List ℕ)) (times decisions : List (List Float)) (nodes : List (List (List Float))) (ws : List Float)
    {f : Fate} (e : f ≡ lent_fate (length tiles) (length counts) (length times) (length decisions) (length nodes)) where
  pub filled_not : {why : Refusal} {c r : Cursor} → f ≡ Err why → c ≡ start m → r ≡ halted c why 0
      → Filled (lent plan p tiles m (length counts) (length times) (length decisions) (length nodes)) way p (tile_of tiles) m r counts counts times times decisions decisions nodes nodes ws ws
  unfolding lent
  filled_not g h i = rw (← e, g, i, h) (record {
    cursor = refl;
    counts_as = refl;
    times_as = refl;
    decisions_as = refl;
    nodes_as = refl;
    left = leaves_none ws;
    promised = λ i leg x. let z : ◌≡◌ {A = ℕ} 0 1 = cc in absurd (omega arith);
  })

  pub filled_all : {r : Cursor} {counts' : List (List ℕ)} {times' decisions' : List (List Float)} {nodes' : List (List (List Float))} {ws' : List Float} → f ≡ going
      → Filled (flown plan p (tile_of tiles) m (length tiles - 1)) way p (tile_of tiles) m r counts counts' times times' decisions decisions' nodes nodes' ws ws'
      → Filled (lent plan p tiles m (length counts) (length times) (length decisions) (length nodes)) way p (tile_of tiles) m r counts counts' times times' decisions decisions' nodes nodes' ws ws'
  unfolding lent
  filled_all g x = rw (← e, g) x
