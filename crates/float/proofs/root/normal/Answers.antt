-- A small number is shifted up first (`small_units`), a large one goes as it is (`large_squared`).
use Rattle.std.proofs.Common.{◌≡◌, ℕ, ◌+◌, ◌-◌, ◌*◌, ◌/◌, ◌%◌, ◌^◌, ◌<◌, sym, refl, subst, lt_of_lt_of_le, mod-eq_of_lt, arith, lit≤}
use Rattle.float.specs.RootInner.{units_of, radicand}
use Rattle.float.proofs.Shapes.{squared, small_units, large_squared}
use Rattle.float.proofs.root.normal.Goals as goal

pub returns-then-b-lt4503599627370496 : goal.returns-then-b-lt4503599627370496
returns-then-b-lt4503599627370496 c =
    let b = c.args.b in
    let s = c.norm_shift-s.result in
    let h = c.norm_shift-s.ensures in
    subst (λ (m : ℕ). (units_of b * 2 ^ 1074 ≡ radicand ((52 - s) % 2 * 2 ^ 52 + m % 2 ^ 52) * 2 ^ 52 * (2 ^ ((52 - s) / 2 + 485) * 2 ^ ((52 - s) / 2 + 485))) × ((52 - s) % 2 * 2 ^ 52 + m % 2 ^ 52 < 2 ^ 53) × ((52 - s) / 2 + 485 < 2046)) (sym (mod-eq_of_lt (lt_of_lt_of_le h.1 (lit≤ tt))))
    (squared b (b * 2 ^ s) (52 - s) _ _ (small_units b s c.if-b-lt4503599627370496.true h.2) h.0 h.1 refl refl, omega arith, omega arith)

pub returns-else-b-lt4503599627370496 : goal.returns-else-b-lt4503599627370496
returns-else-b-lt4503599627370496 c =
    let h = large_squared c.args.b c.if-b-lt4503599627370496.false c.requires.1 in
    (h.0, omega arith, h.1)
