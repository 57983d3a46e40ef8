-- What is told, in the code's steps. Assumes nothing.
use Rattle.std.specs.Prelude.{ℕ, ◌≤◌, ◌<◌, ◌≡◌, List, [], ◌∷◌, ◌++◌, Float, Err}
use native.Mathlib.Omega.{arith}
use Rattle.std.proofs.Math.Path.{refl}
use Rattle.std.proofs.Common.{◌∙◌}
use borrow.Author.Tests.{eq-eqb, ne_eqb, lt-ltb, le-ltb}
use Rattle.std.proofs.Math.ListN.{length, drop}
use Rattle.std.proofs.Math.Seq.{length-sets}
use Rattle.common.specs.Floats.{plus_zero}
use Rattle.common.specs.Lists.{at, slice}
use Rattle.problem.specs.declared.Problem.{Problem}
use Rattle.planner.specs.Plans as Plans
use Rattle.planner.specs.declared.Planned.{Planned}
use Rattle.problem_text.specs.Reader.{read_problem}
use Rattle.problem_text.specs.declared.Read.{Read}
use Rattle.text_writer.specs.Puts.{Puts}
use Rattle.text_writer.specs.PutLaws.{puts_most, puts_whole}
use Rattle.text_writer.specs.Texts as Texts
use Rattle.plan_text.specs.PlanTexts.{of_read, of_text, from_seed, path_text, printed, no_room, told, written, leaves, Prints, Tells}
use Rattle.plan_text.specs.declared.Told.{Told}
use Rattle.common.specs.Refusals.{refusal, going}

-- ---- reading

-- the plan of what was read of a text is the text's
pub text_planned : (text : List ℕ) (plan : Problem → Planned) {read : Read} {a : Planned} → read ≡ read_problem text → a ≡ of_read read plan → a ≡ of_text text plan
unfolding of_text
text_planned text plan e h = h ∙ rw e

-- ---- a caller's seed
module _ (p : Problem) (seed : List Float) (size : ℕ) where
  pub seed_counted : length seed ≡ 103 → Plans.plan_from p (at seed 0) (slice 1 52 seed) (slice 52 103 seed) size ≡ from_seed p seed size
  unfolding from_seed
  seed_counted e = rw (eq-eqb _ _ e) refl

  pub seed_miscounted : (length seed ≡ 103 → ⊥) → Plans.plan_from p plus_zero [] [] size ≡ from_seed p seed size
  unfolding from_seed
  seed_miscounted e = rw (ne_eqb _ _ e) refl

-- ---- printing
module _ {a : Planned} {out out' : List ℕ} {r : Told} where
  prints : {i : ℕ} → r ≡ record { fate = a.fate; runs = a.runs; bytes = i } → Puts out 0 (printed a) 9970 out' i → Prints a out r out'
  prints {i} e p =
      let z : i ≡ length (printed a) = omega (arith, p.ends) in
      let b : r.bytes ≡ i = rw e in
      record { is = e ∙ rw z; puts = rw b p }

  pub prints_path : {i : ℕ} → a.fate ≡ going → r ≡ record { fate = going; runs = a.runs; bytes = i } → Puts out 0 (path_text a.runs a.path) 9970 out' i → Prints a out r out'
  unfolding printed
  prints_path {i} f e p = prints {i = i} (e ∙ rw f) (rw f p)

  pub prints_refusal : {n k : ℕ} → a.fate ≡ Err (refusal n k) → Prints (Plans.refused (refusal n k) a.runs) out r out' → Prints a out r out'
  unfolding printed
  prints_refusal f p = record { is = p.is ∙ rw f; puts = rw f p.puts }

pub prints_refused : {n k runs i : ℕ} {out out' : List ℕ} → Puts out 0 (Texts.refused n k runs) 100 out' i → Prints (Plans.refused (refusal n k) runs) out (record { fate = Err (refusal n k); runs = runs; bytes = i }) out'
unfolding printed
prints_refused {n} {k} {runs} {i} p = prints {a = Plans.refused (refusal n k) runs} {i = i} refl (puts_most (omega arith) p)

-- ---- telling
module _ (plan : ℕ → Planned) (ws : List Float) {out : List ℕ} {r : Told} where
  pub tells_short : r ≡ no_room → length out < 16384 → Tells plan ws out r ws out
  unfolding told written leaves
  tells_short e h =
      let l = lt-ltb (length out) 16384 h in
      let z : r.bytes ≡ 0 = rw e in
      record { is = e ∙ rw l; left = rw l; bytes = rw l; within = omega arith }

  pub tells : {a : Planned} {ws' : List Float} {out' : List ℕ} → 16384 ≤ length out → a ≡ plan (length ws) → ws' ≡ Plans.leaves a.runs ws → Prints a out r out' → Tells plan ws out r ws' out'
  unfolding told written leaves
  tells {a} {ws'} {out'} h g e p =
      let l = le-ltb (length out) 16384 h in
      let b : r.bytes ≡ length (printed a) = rw p.is in
      let w : out' ≡ printed a ++ drop r.bytes out = puts_whole p.puts (omega arith) in
      let n : length out' ≡ length out = rw p.puts.is (length-sets out 0 (printed a)) in
      record { is = p.is ∙ rw (← g, l); left = e ∙ rw (← g, l); bytes = (rw b at w) ∙ rw (← g, l); within = omega (arith, p.puts.short) }
