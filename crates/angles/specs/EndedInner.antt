-- What the code's contracts say of a series on its way: the terms over sizes one by one, from which size on each is not zero, the arc cosine's sum so far. Inner
-- words of the proofs; `Ended` says what the answers mean. Definitions only.
use Rattle.std.specs.Prelude.{◌≡◌, ℕ, zero, suc, ◌+◌, ◌^◌, ◌<◌, ◌≤◌, ◌≢◌}
use Rattle.angles.specs.declared.series.Stage.{Stage}
use Rattle.angles.specs.declared.arc.Arc.{Arc}
use Rattle.angles.specs.declared.arc.Part.{Part}
use Rattle.angles.specs.Arcs.{arc_term, arc_sum}
use Rattle.angles.specs.SizesInner.{term_of, sum_of}
use Rattle.angles.specs.Ended.{Formed, arc_part}

-- ---- the two series: the sine's where c is 1, the cosine's where it is 0

-- the first term's size
abbrev pub first_of : ℕ → ℕ → ℕ
first_of zero u = 2 ^ 60
first_of (suc c) u = u

-- the size of term n, and the sum of the terms 0 to n
abbrev pub part_of : ℕ → ℕ → ℕ → ℕ
part_of c u n = term_of c u (first_of c u) n

abbrev pub parts_of : ℕ → ℕ → ℕ → ℕ
parts_of c u n = sum_of c u (first_of c u) n

-- 0 for 0, else 1
abbrev pub tally : ℕ → ℕ
tally zero = 0
tally (suc n) = 1

-- how many of the terms 0 to n are not zero
unfoldable pub count_of : ℕ → ℕ → ℕ → ℕ
count_of c u zero = tally (part_of c u zero)
count_of c u (suc n) = count_of c u n + tally (part_of c u (suc n))

-- the series up to term n
abbrev pub stage_of : ℕ → ℕ → ℕ → Stage
stage_of c u n = record { sum = parts_of c u n; term = part_of c u n; terms = count_of c u n }

-- the least u at which term j + 1 is not zero
abbrev pub sine_least : ℕ → ℕ
sine_least zero = 0x1d1_2ed2_267c
sine_least (suc zero) = 0x2_9aed_50e1_ffec
sine_least (suc (suc zero)) = 0x24_64bb_6214_09c0
sine_least (suc (suc (suc zero))) = 0xa7_34c3_181a_e96b
sine_least (suc (suc (suc (suc zero)))) = 0x1ca_94ce_9c3e_4988
sine_least (suc (suc (suc (suc (suc zero))))) = 0x3b3_2b12_811e_140a
sine_least (suc (suc (suc (suc (suc (suc zero)))))) = 0x66c_aa57_20cb_a010
sine_least (suc (suc (suc (suc (suc (suc (suc j))))))) = 0x9f2_295a_b5b9_8665

abbrev pub cosine_least : ℕ → ℕ
cosine_least zero = 0x5a82_799a
cosine_least (suc zero) = 0x46d3_e5c7_64b3
cosine_least (suc (suc zero)) = 0xb_f9b1_5e1b_8e25
cosine_least (suc (suc (suc zero))) = 0x55_2d8c_3b53_3550
cosine_least (suc (suc (suc (suc zero)))) = 0x121_d79d_2445_41d6
cosine_least (suc (suc (suc (suc (suc zero))))) = 0x2a5_02e5_9925_4674
cosine_least (suc (suc (suc (suc (suc (suc zero)))))) = 0x4f5_d30b_eee9_f2a3
cosine_least (suc (suc (suc (suc (suc (suc (suc j))))))) = 0x816_67ef_8f6d_a8a0

abbrev pub least_of : ℕ → ℕ → ℕ
least_of zero j = cosine_least j
least_of (suc c) j = sine_least j

-- the sum of all nine terms is s, and k were formed
pub record Ends (c u s k : ℕ) : Type 0 where
  pub sum : s ≡ parts_of c u 8
  pub terms : Formed (part_of c u) 9 k

-- ---- the arc cosine's

-- the sum so far and the next p
abbrev pub part_at : Part → Arc
part_at a = record { sum = a.sum; p = a.p }

-- the first n terms are summed; where a's count is 0 none of them is zero, else the series has ended
pub record ArcRun (h s n : ℕ) (a : Part) : Type 0 where
  pub summed : a.sum ≡ arc_sum h s n
  pub next : a.terms ≡ 0 → a.p ≡ arc_term h s n
  pub going : a.terms ≡ 0 → (j : ℕ) → j < n → arc_part h s j ≢ 0
  pub ended : (a.terms ≢ 0) → Formed (arc_part h s) 60 a.terms
  pub none : (a.terms ≢ 0) → (j : ℕ) → n ≤ j → arc_part h s j ≡ 0
