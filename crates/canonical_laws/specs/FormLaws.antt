-- What the loose and the strict form have in common: a float's canonical text is read as that float, and what is read fits. Assumes nothing.
use Rattle.std.specs.Prelude.{ℕ, zero, suc, ◌+◌, ◌-◌, ◌*◌, ◌/◌, ◌^◌, ◌≤◌, ◌<◌, ◌≡◌, refl, Bool, true, false, cond, not, ◌&&◌, List, T, ltb, leb, eqb, length, get_or, Option, Some, None}
use Rattle.std.proofs.Common.{arith, sym, ◌∙◌, ap, eqb-true, ne_eqb, lt-ltb, le-ltb, ltb-true, ltb-false}
use Rattle.std.specs.Float.Ieee as Ieee
use Rattle.std.specs.Float.{binary64}
use Rattle.std.specs.Float.Ieee.{fits, to_bits, of_bits, of_fields, nan_bits, is_nan}
use Rattle.std.specs.Float.Ieee.Bits.{of_bits-to_bits, of_bits-fits, to_bits-lt, to_bits-of_bits, nan_bits_is}
use borrow.Author.Tests as Tests
use Rattle.text.specs.Hex.{digit_byte, hex_text, real_text, real_by, float}
use Rattle.canonical_laws.specs.Strict.{capital, strict_more, stop, strict_hex_at}
use Rattle.text.specs.Lines.{is_at}
use Rattle.canonical_laws.specs.CapitalLaws.{more_end, more_stop, more_step, strict_step, strict_none}
use Rattle.canonical_laws.specs.Positions.{is_at_cons, none_some, some_pair}
use Rattle.canonical_laws.specs.StrictLaws.{val_char, hex_back, hex_forth}
use Rattle.text.specs.Hex.{digit, more, hex_at, real_at}
use Rattle.text.specs.Forms.{Form, past, past_blanks, loose}
use Rattle.canonical_laws.specs.Strict.{other_nan, strict_by, strict_real_at, strict}

pub record Lawful (f : Form) : Type 0 where
  -- where no blank stands, none is skipped
  pub stays : (s : List ℕ) (at : ℕ) → (get_or s at 0 ≡ 32 → ⊥) → f.skip s at ≡ at
  -- no position is left behind
  pub skips : (s : List ℕ) (at : ℕ) → at ≤ f.skip s at
  pub goes : (s : List ℕ) (at j : ℕ) (x : Ieee.Float) → f.real s at ≡ Some (x, j) → at ≤ j
  -- a float begins with a digit
  pub begins : (s : List ℕ) (at j : ℕ) (x : Ieee.Float) → f.real s at ≡ Some (x, j) → digit (get_or s at 0) < 16
  -- what is read fits
  pub fit : (s : List ℕ) (at j : ℕ) (x : Ieee.Float) → f.real s at ≡ Some (x, j) → T (fits binary64 x)
  -- a canonical text, followed by no digit, is read as its float
  pub back : (s : List ℕ) (at : ℕ) (x : Ieee.Float) → T (fits binary64 x) → is_at s at (real_text x) ≡ true → 16 ≤ digit (get_or s (at + length (real_text x)) 0) → f.real s at ≡ Some (x, at + length (real_text x))

-- ---- digits

-- a capital digit is a digit in either case
pub any_is : (b : ℕ) → capital b < 16 → digit b ≡ capital b
unfolding digit capital
any_is b h = go (leb 48 b && leb b 57) (leb 65 b && leb b 70) refl refl
  where
    go : (p q : Bool) → (leb 48 b && leb b 57) ≡ p → (leb 65 b && leb b 70) ≡ q → digit b ≡ capital b
    go true q e g = rw e
    go false true e g = rw (e, g)
    go false false e g = let z : capital b ≡ 16 = rw (e, g) in absurd (omega arith)

pub none_is : (b : ℕ) → 16 ≤ digit b → 16 ≤ capital b
none_is b h = go (ltb (capital b) 16) refl
  where
    go : (t : Bool) → ltb (capital b) 16 ≡ t → 16 ≤ capital b
    go true e = let l = ltb-true (capital b) 16 e in let z = any_is b l in absurd (omega arith)
    go false e = ltb-false (capital b) 16 e

-- a canonical text begins with a digit
pub first_digit : (s : List ℕ) (at y : ℕ) → y < 2 ^ 64 → is_at s at (hex_text 16 y) ≡ true → capital (get_or s at 0) < 16
unfolding hex_text
first_digit s at y l h =
    let b : y / 16 ^ 15 < 16 = omega arith in
    let e : capital (get_or s at 0) ≡ y / 16 ^ 15 = ap capital (is_at_cons s at (digit_byte (y / 16 ^ 15)) _ h).0 ∙ val_char (y / 16 ^ 15) b in
    omega arith

any_step : (s : List ℕ) (k at m : ℕ) → capital (get_or s at 0) < 16 → more s (suc k) at m ≡ more s k (at + 1) (m + capital (get_or s at 0) * 16 ^ k)
unfolding more
any_step s k at m h = rw (any_is _ h, lt-ltb _ _ h)

any_stop : (s : List ℕ) (k at m : ℕ) → 16 ≤ digit (get_or s at 0) → more s k at m ≡ Some (m, at)
unfolding more
any_stop s zero at m h = refl
any_stop s (suc k) at m h = rw (le-ltb _ _ h)

stop_is : (m last at y j : ℕ) → stop m last at ≡ Some (y, j) → (m ≡ y) × (at ≡ j)
stop_is m last at y j e = go (eqb last 0) refl
  where
    go : (b : Bool) → eqb last 0 ≡ b → (m ≡ y) × (at ≡ j)
    go true q = none_some (rw q at e)
    go false q = some_pair (rw q at e)

-- what the capital digits give, digits in either case give, where none follows
any_more : (s : List ℕ) (k at m last y j : ℕ) → strict_more s k at m last ≡ Some (y, j) → 16 ≤ digit (get_or s j 0) → more s k at m ≡ Some (y, j)
unfolding more
any_more s zero at m last y j e h = let r = stop_is m last at y j (sym (more_end s at m last 0 refl) ∙ e) in (λ i. Some (r.0 i, r.1 i))
any_more s (suc k) at m last y j e h = go (λ at m last e. any_more s k at m last y j e h) (ltb (capital (get_or s at 0)) 16) refl
  where
    go : ((at m last : ℕ) → strict_more s k at m last ≡ Some (y, j) → more s k at m ≡ Some (y, j)) → (b : Bool) → ltb (capital (get_or s at 0)) 16 ≡ b → more s (suc k) at m ≡ Some (y, j)
    go ih true q =
        let v = capital (get_or s at 0) in
        let l : v < 16 = ltb-true v 16 q in
        let z : suc k - 1 ≡ k = omega arith in
        let g : strict_more s (suc k) at m last ≡ strict_more s k (at + 1) (m + v * 16 ^ k) v = rw z at (more_step s at m last v refl (suc k) (omega arith) l) in
        any_step s k at m l ∙ ih (at + 1) (m + v * 16 ^ k) v (sym g ∙ e)
    go ih false q =
        let r = stop_is m last at y j (sym (more_stop s at m last _ refl (suc k) (omega arith) (ltb-false _ _ q)) ∙ e) in
        any_stop s (suc k) at m (rw (← r.1) at h) ∙ cc

any_hex : (s : List ℕ) (at y j : ℕ) → strict_hex_at s at ≡ Some (y, j) → 16 ≤ digit (get_or s j 0) → hex_at s at ≡ Some (y, j)
unfolding hex_at
any_hex s at y j e h = go (ltb (capital (get_or s at 0)) 16) refl
  where
    go : (b : Bool) → ltb (capital (get_or s at 0)) 16 ≡ b → hex_at s at ≡ Some (y, j)
    go true q =
        let v = capital (get_or s at 0) in
        let l : v < 16 = ltb-true v 16 q in
        rw (any_is _ l, lt-ltb _ _ l) (any_more s 15 (at + 1) _ 1 y j (sym (strict_step s at v refl l) ∙ e) h)
    go false q = none_some (sym (strict_none s at _ refl (ltb-false _ _ q)) ∙ e)

-- ---- the loose form

pub past_none : (s : List ℕ) (n at : ℕ) → (get_or s at 0 ≡ 32 → ⊥) → past s n at ≡ at
unfolding past
past_none s zero at h = refl
past_none s (suc n) at h = rw (ne_eqb _ _ h)

past_goes : (s : List ℕ) (n at : ℕ) → at ≤ past s n at
unfolding past
past_goes s zero at = omega arith
past_goes s (suc n) at = go (past_goes s n (at + 1)) (eqb (get_or s at 0) 32)
  where
    go : at + 1 ≤ past s n (at + 1) → (b : Bool) → at ≤ cond b (past s n (at + 1)) at
    go l true = omega arith
    go l false = omega arith

more_goes : (s : List ℕ) (k at m y j : ℕ) → more s k at m ≡ Some (y, j) → at ≤ j
unfolding more
more_goes s zero at m y j e = let w = some_pair e in omega arith
more_goes s (suc k) at m y j e = go (λ m e. more_goes s k (at + 1) m y j e) (ltb (digit (get_or s at 0)) 16) refl
  where
    go : ((m : ℕ) → more s k (at + 1) m ≡ Some (y, j) → at + 1 ≤ j) → (b : Bool) → ltb (digit (get_or s at 0)) 16 ≡ b → at ≤ j
    go ih true q = let z = ih _ (rw q at e) in omega arith
    go ih false q = let w = some_pair (rw q at e) in omega arith

any_goes : (s : List ℕ) (at y j : ℕ) → hex_at s at ≡ Some (y, j) → at ≤ j
unfolding hex_at
any_goes s at y j e = go (ltb (digit (get_or s at 0)) 16) refl
  where
    go : (b : Bool) → ltb (digit (get_or s at 0)) 16 ≡ b → at ≤ j
    go true q = let z = more_goes s 15 (at + 1) _ y j (rw q at e) in omega arith
    go false q = none_some (rw q at e)

real_is : (h : Option (ℕ × ℕ)) (x : Ieee.Float) (j : ℕ) → real_by h ≡ Some (x, j) → (y : ℕ) × (h ≡ Some (y, j)) × (x ≡ float y)
real_is (Some (y, i)) x j e = let w = some_pair e in (y, ap (λ (k : ℕ). Some (y, k)) w.1, sym w.0)
real_is None x j e = none_some e

any_begins : (s : List ℕ) (at y j : ℕ) → hex_at s at ≡ Some (y, j) → digit (get_or s at 0) < 16
unfolding hex_at
any_begins s at y j e = go (ltb (digit (get_or s at 0)) 16) refl
  where
    go : (b : Bool) → ltb (digit (get_or s at 0)) 16 ≡ b → digit (get_or s at 0) < 16
    go true q = ltb-true _ _ q
    go false q = none_some (rw q at e)

pub loose_lawful : Lawful loose
unfolding real_at past_blanks
loose_lawful = record {
  stays = λ s at h. past_none s (length s) at h;
  skips = λ s at. past_goes s (length s) at;
  goes = λ s at j x e. any_goes s at (real_is _ x j e).0 j (real_is _ x j e).1;
  begins = λ s at j x e. any_begins s at (real_is _ x j e).0 j (real_is _ x j e).1;
  fit = λ s at j x e. rw (real_is (hex_at s at) x j e).2 (of_bits-fits binary64 (real_is _ x j e).0);
  back = λ s at x f i e. rw (any_hex s at _ _ (hex_back s (to_bits binary64 x) at (to_bits-lt binary64 x f) i (none_is _ e)) e) (back_is x _ f);
}
  where
    back_is : (x : Ieee.Float) (j : ℕ) → T (fits binary64 x) → ◌≡◌ {A = Option (Ieee.Float × ℕ)} (Some (float (to_bits binary64 x), j)) (Some (x, j))
    back_is x j f = rw (of_bits-to_bits binary64 x f)

-- ---- the strict form

-- every pattern that the strict form takes is written as it was
one_nan : to_bits binary64 (float 0x7ff8_0000_0000_0000) ≡ 0x7ff8_0000_0000_0000
unfolding to_bits of_bits of_fields
one_nan = refl

kept : (y : ℕ) → y < 2 ^ 64 → other_nan y ≡ false → to_bits binary64 (float y) ≡ y
unfolding other_nan
kept y l h = go (nan_bits binary64 y) refl
  where
    go : (b : Bool) → nan_bits binary64 y ≡ b → to_bits binary64 (float y) ≡ y
    go true q = let e : not (eqb y 0x7ff8_0000_0000_0000) ≡ false = rw q at h in let i : y ≡ 0x7ff8_0000_0000_0000 = eqb-true _ _ (Tests.not-false _ e) in rw i one_nan
    go false q = to_bits-of_bits binary64 y l (rw (← nan_bits_is binary64 y, q) tt)

strict_is : (h : Option (ℕ × ℕ)) (x : Ieee.Float) (j : ℕ) → strict_by h ≡ Some (x, j) → (y : ℕ) × (h ≡ Some (y, j)) × (x ≡ float y) × (other_nan y ≡ false)
strict_is (Some (y, i)) x j e = go (other_nan y) refl
  where
    go : (b : Bool) → other_nan y ≡ b → (z : ℕ) × (◌≡◌ {A = Option (ℕ × ℕ)} (Some (y, i)) (Some (z, j))) × (x ≡ float z) × (other_nan z ≡ false)
    go true q = none_some (rw q at e)
    go false q = let w = some_pair (rw q at e) in (y, ap (λ (k : ℕ). Some (y, k)) w.1, sym w.0, q)
strict_is None x j e = none_some e

-- what the strict form reads is the canonical text
pub strict_forth : (s : List ℕ) (at j : ℕ) (x : Ieee.Float) → strict_real_at s at ≡ Some (x, j) → (is_at s at (real_text x) ≡ true) × (j ≡ at + length (real_text x))
unfolding strict_real_at
strict_forth s at j x e =
    let r = strict_is (strict_hex_at s at) x j e in
    let h = hex_forth s at r.0 j r.1 in
    let k : to_bits binary64 x ≡ r.0 = ap (to_bits binary64) r.2 ∙ kept r.0 h.0 r.3 in
    rw k (h.1, h.2)

nan_written : (x : Ieee.Float) → (is_nan x && not (eqb (to_bits binary64 x) 0x7ff8_0000_0000_0000)) ≡ false
unfolding is_nan to_bits
nan_written Ieee.nan = refl
nan_written (Ieee.inf s) = refl
nan_written (Ieee.fin s m e) = refl

-- no float's canonical pattern is another NaN's
no_other : (x : Ieee.Float) → T (fits binary64 x) → other_nan (to_bits binary64 x) ≡ false
unfolding other_nan
no_other x f = rw (nan_bits_is binary64 (to_bits binary64 x), of_bits-to_bits binary64 x f) (nan_written x)

pub strict_lawful : Lawful strict
unfolding strict_real_at
strict_lawful = record {
  stays = λ s at h. refl;
  skips = λ s at. omega arith;
  goes = λ s at j x e. omega (arith, (strict_forth s at j x e).1);
  begins = λ s at j x e.
      let h = strict_forth s at j x e in
      let r = strict_is (strict_hex_at s at) x j e in
      let d = first_digit s at r.0 (hex_forth s at r.0 j r.1).0 (hex_forth s at r.0 j r.1).1 in
      let z = any_is _ d in
      omega arith;
  fit = λ s at j x e. rw (strict_is (strict_hex_at s at) x j e).2 (of_bits-fits binary64 (strict_is _ x j e).0);
  back = λ s at x f i e. rw (hex_back s (to_bits binary64 x) at (to_bits-lt binary64 x f) i (none_is _ e), no_other x f) (back_is x _ f);
}
  where
    back_is : (x : Ieee.Float) (j : ℕ) → T (fits binary64 x) → ◌≡◌ {A = Option (Ieee.Float × ℕ)} (Some (float (to_bits binary64 x), j)) (Some (x, j))
    back_is x j f = rw (of_bits-to_bits binary64 x f)
