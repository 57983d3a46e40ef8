-- A text is told to go on exactly where it is accepted, and what is written is then its canonical text; and the steps by which the code tells it. Assumes nothing.
use Rattle.std.specs.Prelude.{ℕ, ◌+◌, ◌≤◌, ◌<◌, ◌≡◌, refl, ◌↔◌, Bool, true, false, List, ◌++◌, ltb, Ok, Err}
use native.Mathlib.Omega.{arith}
use Rattle.std.proofs.Math.Nat.{zero-add}
use Rattle.std.proofs.Common.{◌∙◌, ap}
use Rattle.std.proofs.Math.ListN.{length, drop}
use Rattle.std.proofs.Math.Seq.{length-sets}
use borrow.Author.Tests.{lt-ltb, le-ltb, ltb-false}
use Rattle.problem.specs.declared.Problem.{Problem}
use Rattle.text_writer.specs.PutLaws.{puts_none, puts_whole}
use Rattle.text_writer.specs.Puts.{Puts}
use Rattle.text.specs.Forms.{loose}
use Rattle.problem_text.specs.declared.Read.{Read}
use Rattle.problem_text.specs.Reader.{read_problem}
use Rattle.canonical_laws.specs.Texts.{Few, Accepted, problem, canonical}
use Rattle.canonical_laws.specs.TextLaws.{stands}
use Rattle.canonical.specs.declared.Told.{Told}
use Rattle.canonical.specs.Writing.{written}
use Rattle.canonical.specs.WritingLaws.{written_is}
use Rattle.canonical.specs.CanonicalTexts.{counts_fate, fate_by, text_by, fate_of, text_of, told, left, Rewrites, Tells}
use Rattle.common.specs.Refusals.{Fate, refusal, going}

-- ---- accepted texts

never : {n place : ℕ} {A : Type 0} → Err (refusal n place) ≡ going → A
never e = let z : ◌≡◌ {A = ℕ} 0 1 = cc in absurd (omega arith)

few_going : (p : Problem) → Few p → counts_fate p.actuators ≡ going
unfolding counts_fate
few_going p n = rw (le-ltb _ _ n.0, le-ltb _ _ n.1)

going_few : (p : Problem) → counts_fate p.actuators ≡ going → Few p
unfolding counts_fate
going_few p h = go (ltb 8 p.actuators.wheel_count) (ltb 12 p.actuators.thruster_count) refl refl
  where
    go : (a b : Bool) → ltb 8 p.actuators.wheel_count ≡ a → ltb 12 p.actuators.thruster_count ≡ b → Few p
    go true b e k = never (rw e at h)
    go false true e k = never (rw (e, k) at h)
    go false false e k = (ltb-false _ _ e, ltb-false _ _ k)

accepted_by : (f : Fate) (p : Problem) → fate_by f p ≡ going → (f ≡ going) × Few p
accepted_by (Err why) p h = never h
accepted_by (Ok _) p h = (refl, going_few p h)

going_by : (f : Fate) (p : Problem) → f ≡ going → Few p → fate_by f p ≡ going
going_by f p e n = ap (λ (x : Fate). fate_by x p) e ∙ few_going p n

-- a text goes on exactly where it is accepted
pub going_is : (t : List ℕ) → (fate_of t ≡ going) ↔ Accepted loose t
unfolding fate_of
going_is t = (accepted_by (read_problem t).fate (read_problem t).problem, λ h. going_by (read_problem t).fate (read_problem t).problem h.0 h.1)

-- and what is then written is its canonical text
pub canonical_is : (t : List ℕ) → Accepted loose t → text_of t ≡ canonical t
unfolding text_of
canonical_is t h =
    ap (λ (x : Fate). text_by x (problem loose t)) h.0 ∙ written_is (problem loose t) (h.1, (stands loose t h.0 h.1.0 h.1.1).3)

-- ---- steps of the code

pub refused_rewrites : (f : Fate) (p : Problem) (b : List ℕ) (n line : ℕ) → f ≡ Err (refusal n line) → Rewrites f p b (record { fate = Err (refusal n line); bytes = 0 }) b
refused_rewrites f p b n line h = record { is = rw h; puts = rw h (puts_none b 0 4096) }

pub going_rewrites : (f : Fate) (p : Problem) (b b' : List ℕ) (x : Fate) (k : ℕ) → f ≡ going → x ≡ counts_fate p.actuators → Puts b 0 (written p) 4096 b' k → Rewrites f p b (record { fate = x; bytes = k }) b'
going_rewrites f p b b' x k h g w = record { is = rw h g; puts = rw h w }

told_is : (r : Told) (x : Fate) (n : ℕ) → r.fate ≡ x → r.bytes ≡ n → r ≡ record { fate = x; bytes = n }
told_is r x n p q = rw (← p, ← q)

module _ (t : List ℕ) {out : List ℕ} where
  pub tells_short : length out < 4096 → Tells t out (record { fate = Err (refusal 99 0); bytes = 0 }) out
  unfolding told left
  tells_short h = record { is = rw (lt-ltb _ _ h); bytes = rw (lt-ltb _ _ h); within = omega arith }

  pub tells : {read : Read} {r : Told} {out' : List ℕ} → read ≡ read_problem t → 4096 ≤ length out → Rewrites read.fate read.problem out r out' → Tells t out r out'
  unfolding told left fate_of text_of
  tells {read} {r} {out'} e h w =
      let u = text_by read.fate read.problem in
      let l = le-ltb (length out) 4096 h in
      let b : r.bytes ≡ length u = w.puts.ends ∙ zero-add (length u) in
      let x : out' ≡ u ++ drop r.bytes out = puts_whole w.puts h in
      let n : length out' ≡ length out = rw w.puts.is (length-sets out 0 u) in
      record { is = rw (l, ← e) (told_is r (fate_by read.fate read.problem) (length u) w.is b); bytes = (rw b at x) ∙ rw (l, ← e); within = omega (arith, w.puts.short, b) }
