-- What is told, in the code's steps. Assumes nothing.
use Rattle.std.specs.Prelude.{ℕ, ◌≤◌, ◌<◌, ◌≡◌, refl, List, ◌++◌, Err}
use native.Mathlib.Omega.{arith}
use Rattle.std.proofs.Common.{◌∙◌}
use borrow.Author.Tests.{lt-ltb, le-ltb}
use Rattle.std.proofs.Math.ListN.{length, drop}
use Rattle.std.proofs.Math.Seq.{length-sets}
use Rattle.text_writer.specs.Puts.{Puts}
use Rattle.text_writer.specs.PutLaws.{puts_most, puts_whole}
use Rattle.text_writer.specs.Texts as Texts
use Rattle.tile_order.specs.declared.Ordered.{Ordered}
use Rattle.order_text.specs.declared.Told.{Told}
use Rattle.order_text.specs.declared.reading.ReadTiles.{ReadTiles}
use Rattle.order_text.specs.TileTexts.{read_tiles}
use Rattle.order_text.specs.OrderTexts.{ordered, answer, printed, wholly, no_room, told, written, Prints, Tells}
use Rattle.common.specs.Refusals.{refusal, going}

-- ---- printing
module _ (n : ℕ) (a : Ordered) {out out' : List ℕ} {i : ℕ} where
  prints : {r : Told} → r ≡ record { fate = a.fate; bytes = i } → Puts out 0 (printed n a) 400 out' i → Prints n a out r out'
  prints {r} e p =
      let z : i ≡ length (printed n a) = omega (arith, p.ends) in
      let b : r.bytes ≡ i = rw e in
      record { is = e ∙ rw z; puts = rw b p }

  pub prints_found : a.fate ≡ going → Puts out 0 (ordered n a.found) 400 out' i → Prints n a out (record { fate = going; bytes = i }) out'
  unfolding printed
  prints_found f p = prints (rw f) (rw f p)

  pub prints_refused : {number place : ℕ} → a.fate ≡ Err (refusal number place) → Puts out 0 (Texts.refused number place 0) 100 out' i
      → Prints n a out (record { fate = Err (refusal number place); bytes = i }) out'
  unfolding printed
  prints_refused f p = prints (rw f) (rw f (puts_most (omega arith) p))

-- ---- telling
module _ (text : List ℕ) {out : List ℕ} where
  pub tells_short : length out < 512 → Tells text out no_room out
  unfolding told written
  tells_short h = let l = lt-ltb (length out) 512 h in record { is = rw l; bytes = rw l; within = omega arith }

  pub tells : {read : ReadTiles} {a : Ordered} {r : Told} {out' : List ℕ} → read ≡ read_tiles text → a ≡ answer read → 512 ≤ length out
      → Prints read.tiles a out r out' → Tells text out r out'
  unfolding told written
  tells {read} {a} {r} {out'} e f h p =
      let l = le-ltb (length out) 512 h in
      let b : r.bytes ≡ length (printed read.tiles a) = rw p.is in
      let w : out' ≡ printed read.tiles a ++ drop r.bytes out = puts_whole p.puts (omega arith) in
      let n : length out' ≡ length out = rw p.puts.is (length-sets out 0 (printed read.tiles a)) in
      record { is = p.is ∙ rw (l, ← e, ← f); bytes = (rw b at w) ∙ rw (l, ← e, ← f); within = omega (arith, p.puts.short) }
