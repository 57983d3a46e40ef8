-- What is printed of a sample for the drive board, in the code's steps. Assumes nothing.
use Rattle.std.specs.Prelude.{ℕ, suc, ◌+◌, ◌-◌, ◌≤◌, ◌<◌, ◌^◌, ◌≡◌, refl, Bool, true, false, not, cond, List, T, ltb, ℤ, pos, negsuc, nat_abs, ◌+ℤ◌, Float, Ok, Err}
use Rattle.std.proofs.Common.{arith, sym, ap, ltb-true, ltb-false, SFits}
use Rattle.std.proofs.Math.IntN.{sub_ℕ}
use Rattle.std.specs.Int.Signed.{non_neg}
use Rattle.std.specs.Int.{w32, w64}
use Rattle.geom.specs.Vec.{tensor}
use Rattle.samples.specs.Rows.{rows}
use Rattle.drive_numbers.specs.Drive.{drive_sample}
use Rattle.text_writer.specs.Puts.{Puts}
use Rattle.sample_text.specs.SampleTexts.{sample_of, sample_course}
use Rattle.sample_text.specs.SampleLines.{is_last, is_planned, Refuses}
use Rattle.sample_text.specs.SampleLineLaws.{step_refused, step_given}
use Rattle.sample_text.specs.declared.Course.{Course}
use Rattle.sample_text.specs.declared.lines.Line.{Line}
use Rattle.board_text.specs.BoardLines.{board_course, answer, board_line, StepsAt}
use Rattle.board_text.specs.declared.Board.{Board}
use Rattle.common.specs.Refusals.{going}
use Rattle.common.specs.declared.Refusal.{Refusal}

-- ---- a path's sample is `drive_sample`'s, with 0 runs
pub path_sample : (c : Course) (requested : ℕ) (alpha : Float) (index : ℕ) → c.fate ≡ going → board_course c requested alpha index ≡ record { runs = 0; driven = drive_sample (tensor c.inertia) c.tolerance c.duration (rows c.nodes) requested alpha index }
unfolding board_course sample_course sample_of drive_sample
path_sample c requested alpha index h = rw h

-- ---- a number of 32 bits by its count from -2 ^ 31
abbrev pub M : ℕ
M = 2147483648

pub record Count (z : ℤ) : Type 0 where
  pub count : ℕ
  pub sum : z +ℤ pos M ≡ pos count
  pub small : count < 2 ^ 32
  pub back : z ≡ sub_ℕ count M

pub counted : (z : ℤ) → SFits w32 z → Count z
counted (pos n) h = let l : n < M = omega (arith, h.sfits) in record { count = n + M; sum = refl; small = omega arith; back = by (ltb (n + M) M) refl }
  where
    by : (b : Bool) → ltb (n + M) M ≡ b → pos n ≡ cond b (negsuc (M - suc (n + M))) (pos (n + M - M))
    by true e = let l : n + M < M = ltb-true (n + M) M e in absurd (omega arith)
    by false e = let d : n + M - M ≡ n = omega arith in ap pos (sym d)
counted (negsuc n) h = let l : n < M = omega (arith, h.sfits) in record { count = M - suc n; sum = over (ltb M (suc n)) refl; small = omega arith; back = by (M - suc n) refl (ltb (M - suc n) M) refl }
  where
    over : (b : Bool) → ltb M (suc n) ≡ b → cond b (negsuc (suc n - suc M)) (pos (M - suc n)) ≡ pos (M - suc n)
    over true e = let l : n < M = omega (arith, h.sfits) in let k : M < suc n = ltb-true M (suc n) e in absurd (omega arith)
    over false e = refl

    by : (m : ℕ) → M - suc n ≡ m → (b : Bool) → ltb m M ≡ b → negsuc n ≡ cond b (negsuc (M - suc m)) (pos (m - M))
    by m q true e = let l : n < M = omega (arith, h.sfits) in let d : M - suc m ≡ n = omega arith in ap negsuc (sym d)
    by m q false e = let l : n < M = omega (arith, h.sfits) in let k : M ≤ m = ltb-false m M e in absurd (omega arith)

pub widened : (z : ℤ) → SFits w32 z → SFits w64 z
widened z h = record { sfits = omega (arith, h.sfits) }

-- the sum as the code forms it
pub sum_fits : (z : ℤ) → SFits w32 z → SFits w64 (z +ℤ pos M)
sum_fits z h = let c = counted z h in rw c.sum (record { sfits = omega (arith, c.small) })

pub sum_plus : (z : ℤ) → SFits w32 z → T (non_neg (z +ℤ pos M))
sum_plus z h = rw (counted z h).sum tt

pub sum_back : (z : ℤ) → SFits w32 z → z ≡ sub_ℕ (nat_abs (z +ℤ pos M)) M
sum_back z h = let c = counted z h in rw c.sum c.back

-- ---- what is printed
module _ (c : Course) (requested : ℕ) (alpha : Float) (index : ℕ) {b : Board} {out said out' : List ℕ} (e : b ≡ board_course c requested alpha index) where
  pub steps_refused : {why : Refusal} {sampled : Bool} {said' : List ℕ} {r : Line} → sampled ≡ is_planned c.fate → b.driven ≡ Err why → Refuses sampled why.number why.place b.runs out said r out' said' → StepsAt c requested alpha index out said r out' said'
  unfolding answer
  steps_refused {sampled = sampled} g f s = rw (← e, ← g) (step_refused (board_line index (is_last c.duration requested alpha index)) sampled _ b.runs (omega arith) f s)

  pub steps_given : {v : List ℤ} {last : Bool} {i : ℕ} → b.driven ≡ Ok v → last ≡ is_last c.duration requested alpha index → Puts out 0 (board_line index last v) 320 out' i → StepsAt c requested alpha index out said (record { bytes = i; said = 0; more = not last }) out' said
  unfolding answer
  steps_given {last = last} f l p = rw (← e, ← l) (step_given (board_line index last) (is_planned c.fate) last b.runs f p)
