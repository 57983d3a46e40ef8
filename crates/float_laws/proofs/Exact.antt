-- Of finite values the lower float is the lower exact number. Assumes nothing.
use Rattle.std.specs.Prelude.{ℕ, zero, suc, ◌+◌, ◌-◌, ◌<◌, Bool, true, false, ◌<ℤ◌, T, Float}
use Rattle.std.proofs.Common.{arith, lt→ltb}
use Rattle.std.specs.Int.Signed.{lt_z_yes}
use Rattle.std.specs.Float.{nan, inf, fin, binary64}
use Rattle.std.specs.Float.Ieee.{lt, fits}
use Rattle.std.specs.Float.Ieee.Scale.{finite}
use Rattle.float_laws.specs.Place.{mag, mid, side, place, mag_lt}
use Rattle.float_laws.specs.Order.{held, lt_up}
use Rattle.float_laws.specs.Exact.{signed, exact}

signed_lt : (M : ℕ) (s : Bool) (p : ℕ) (t : Bool) (q : ℕ) → p < M → q < M → side M s p < side M t q → signed s p <ℤ signed t q
signed_lt M false p false q P Q h = lt_z_yes (lt→ltb p q (omega arith))
signed_lt M false p true q P Q h = absurd (no h)
  where
    no : M + p < M - q → ⊥
    no h = omega arith
signed_lt M true zero false q P Q h = lt_z_yes (lt→ltb 0 q (omega arith))
signed_lt M true (suc p) false q P Q h = lt_z_yes tt
signed_lt M true zero true q P Q h = absurd (no h)
  where
    no : M - 0 < M - q → ⊥
    no h = omega arith
signed_lt M true (suc p) true zero P Q h = lt_z_yes tt
signed_lt M true (suc p) true (suc q) P Q h = lt_z_yes (lt→ltb q p (omega arith))

-- of finite values the lower float is the lower number
pub exact_lt : (x y : Float) → T (fits binary64 x) → T (fits binary64 y) → T (finite x) → T (finite y) → T (lt x y) → exact x <ℤ exact y
unfolding exact place
exact_lt nan y g h p q t = absurd p
exact_lt (inf s) y g h p q t = absurd p
exact_lt (fin s m e) nan g h p q t = absurd q
exact_lt (fin s m e) (inf r) g h p q t = absurd q
exact_lt (fin s m e) (fin r n d) g h p q t =
    signed_lt (mid binary64) s (mag binary64 (fin s m e)) r (mag binary64 (fin r n d)) (mag_lt binary64 s e m g) (mag_lt binary64 r d n h)
    (lt_up binary64 (fin s m e) (fin r n d) (held g tt) (held h tt) t)
