-- What is written of a leg, in the code's steps, and of the whole. Assumes nothing.
use Rattle.std.specs.Prelude.{ℕ, ◌+◌, ◌≤◌, length, Float, Ok, Err}
use Rattle.std.proofs.Common.{arith}
use Rattle.std.proofs.Math.Path.{◌≡◌, refl}
use Rattle.std.proofs.Math.Bool.{true}
use mathlib.Core.List.{List, []}
use Rattle.common.specs.IterLaws.{iter_none, iter_next, iter_stays}
use Rattle.geom.specs.declared.Quat.{Quat}
use Rattle.text_writer.specs.Puts.{Puts}
use Rattle.text_writer.specs.Texts as Texts
use Rattle.refusal_text.specs.Sentences.{explain_plan}
use Rattle.plan_text.specs.PlanTexts.{Prints}
use Rattle.plan_text.specs.declared.Told.{Told}
use Rattle.mosaic.specs.Mosaics as Mosaics
use Rattle.mosaic.specs.Mosaics.{Planner}
use Rattle.mosaic.specs.Turns.{Advances}
use Rattle.mosaic.specs.Ways.{planner_by}
use Rattle.mosaic.specs.declared.Cursor.{Cursor}
use Rattle.mosaic.specs.declared.ways.Way.{Way}
use Rattle.mosaic.specs.declared.Advanced.{Advanced}
use Rattle.mosaic_text.specs.TileLines.{tile_at}
use Rattle.mosaic_text.specs.declared.ReadMosaic.{ReadMosaic}
use Rattle.mosaic_answer.specs.LegLines.{heading}
use Rattle.mosaic_answer.specs.MosaicAnswers.{counted, after, leg_text, cursor_at, is_refused, leg_by, leg_at, legs_text, answer, slew_mosaic, Writes}
use Rattle.common.specs.Refusals.{Fate, refusal, going}

-- a leg that was planned, and its three texts
module _ (way : Way) (m : ReadMosaic) (c : Cursor) where
  pub leg_written : {from to : Quat} {a : Advanced} {t : Told} {ws ws' : List Float} {headed out said headed' out' said' : List ℕ} {i j : ℕ}
      → from ≡ tile_at m.tiles c.index
      → to ≡ tile_at m.tiles (c.index + 1)
      → Advances way m.problem c from to ws a ws'
      → Puts headed 0 (heading c.index) 27 headed' i
      → Prints a.planned out t out'
      → Puts said 0 (explain_plan t.fate t.runs) 212 said' j
      → Writes (planner_by way (length ws)) m c ws headed out said (record { cursor = a.cursor; heading = i; bytes = t.bytes; said = j }) ws' headed' out' said'
  leg_written {from} {to} {a} {t} e f d h p s =
      let n = rw (e, f) at d.planned in
      let g : t.fate ≡ a.planned.fate = rw p.is in
      let h' : t.runs ≡ a.planned.runs = rw p.is in
      record {
        moves = rw (e, f) at d.cursor;
        heads = h;
        prints = rw n at p.puts;
        says = rw (g, h', n) at s;
        left = rw n at d.left;
      }

-- ---- one leg after another
module _ (plan : Planner) (m : ReadMosaic) where
  pub cursor_first : Mosaics.start m.problem.momenta ≡ cursor_at plan m 0
  unfolding cursor_at
  cursor_first = iter_none _ _

  pub cursor_next : (k : ℕ) {c d : Cursor} → c ≡ cursor_at plan m k → d ≡ after plan m c → d ≡ cursor_at plan m (k + 1)
  unfolding cursor_at
  cursor_next k e f = iter_next _ _ k e f

  stays : (c : Cursor) (e : Fate) → c.fate ≡ e → is_refused e ≡ true → after plan m c ≡ c
  stays c (Err why) f h = rw f
  stays c (Ok _) f h = let z : ◌≡◌ {A = ℕ} 0 1 = cc in absurd (omega arith)

  -- after a refused leg nothing changes
  pub cursor_stays : (k n : ℕ) {c : Cursor} → k ≤ n → c ≡ cursor_at plan m k → is_refused c.fate ≡ true → c ≡ cursor_at plan m n
  unfolding cursor_at
  cursor_stays k n {c} l e h = iter_stays (λ _ d. after plan m d) (Mosaics.start m.problem.momenta) k n l e (λ j. stays c c.fate refl h)

  -- and nothing more is printed of legs
  pub none_after : (k : ℕ) → is_refused (cursor_at plan m k).fate ≡ true → leg_at plan m k ≡ []
  unfolding leg_at
  none_after k h = go (cursor_at plan m k).fate h
    where
      go : (e : Fate) → is_refused e ≡ true → leg_by e (leg_text plan m (cursor_at plan m k)) ≡ []
      go (Err why) f = refl
      go (Ok _) f = let z : ◌≡◌ {A = ℕ} 0 1 = cc in absurd (omega arith)

-- ---- the whole: a refusal of the text alone, or the legs in turn and the sums
module _ (way : Way) (text : List ℕ) where
  pub slew_refused : {n k : ℕ} → (counted text).fate ≡ Err (refusal n k) → slew_mosaic way text ≡ Texts.refused n k 0
  unfolding answer
  slew_refused e = rw e

  pub slew_legs : (counted text).fate ≡ going → slew_mosaic way text ≡ legs_text (planner_by way 8000) (counted text)
  unfolding answer
  slew_legs e = rw e
