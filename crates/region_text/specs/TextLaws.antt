-- Laws of the texts: a choice, small words, what is printed of an answer. Assumes nothing.
use Rattle.std.specs.Prelude.{ℕ, zero, suc, ◌-◌, ◌<◌, ◌≤◌, ◌≡◌, refl, Bool, true, false, cond, List, [], ltb, ℤ, pos, negsuc, nat_abs, ◌+ℤ◌, ◌-ℤ◌}
use Rattle.std.proofs.Common.{arith, ltb-true, SFits, to_z, to_z-of_z}
use Rattle.std.proofs.Math.IntN.{sub_ℕ}
use Rattle.std.specs.Int.{w64}
use Rattle.text_writer.specs.Puts.{Puts}
use Rattle.text_writer.specs.PutLaws.{puts_none, puts_most}
use Rattle.reach_avoid.specs.Room.{within}
use Rattle.reach_avoid.specs.WholeLaws.{is_one, sub_is, within_is, within_of, within_in}
use Rattle.region_text.specs.RegionTexts.{Prints}
use Rattle.region_text.specs.Words.{clipped}

-- a choice by its count from -2
pub choice_less : (u : ℤ) → within 2 u ≡ true → u ≡ sub_ℕ (nat_abs (u +ℤ pos 2)) 2
choice_less u e = is_one (within_is 2 u e) (sub_is _ 2)

-- a reply is small enough to be a choice
pub reply_small : (d : ℤ) → within 1 d ≡ true → within 2 d ≡ true
reply_small d e = let i = within_is 1 d e in let w = within_of 1 i e in within_in 2 i (omega (arith, w.0)) (omega (arith, w.1))

-- a small size as a word, and its negative
pub word_is : (k : ℕ) → k ≤ 1001 → to_z w64 k ≡ pos k
word_is k h = to_z-of_z {w = w64} {z = pos k} (record { sfits = omega arith })

pub below_fits : (k : ℕ) → k ≤ 1001 → SFits w64 (pos 0 -ℤ pos k)
below_fits zero h = record { sfits = omega arith }
below_fits (suc k) h = by (ltb 0 (suc k))
  where
    by : (b : Bool) → SFits w64 (cond b (negsuc (suc k - 1)) (pos (0 - suc k)))
    by true = record { sfits = omega arith }
    by false = record { sfits = omega arith }

pub clipped_most : (n : ℕ) → clipped n ≤ 1001
unfolding clipped
clipped_most n = by (ltb n 1001) refl
  where
    by : (b : Bool) → ltb n 1001 ≡ b → cond b n 1001 ≤ 1001
    by true e = let h : n < 1001 = ltb-true n 1001 e in omega arith
    by false e = omega arith

-- an answer with nothing to say beside it
pub prints_given : {t out out' : List ℕ} {m n : ℕ} (said : List ℕ) → m ≤ 100 → Puts out 0 t m out' n → Prints t [] out said (record { bytes = n; said = 0 }) out' said
prints_given said l p = record { told = puts_most l p; says = puts_none said 0 212 }
