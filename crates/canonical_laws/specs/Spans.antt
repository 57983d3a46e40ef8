-- A list of pieces stands in a text between two positions, in some form. Its canonical text does in every form; in the strict form nothing else does. Assumes nothing.
use Rattle.std.specs.Prelude.{ℕ, ◌+◌, ◌≤◌, ◌<◌, ◌≡◌, refl, Bool, true, false, ◌&&◌, T, leb, eqb, Some}
use native.Mathlib.Omega.{arith}
use Rattle.std.proofs.Common.{add-zero, add_assoc, ◌∙◌}
use Rattle.std.proofs.Math.Path.{sym}
use mathlib.Core.List.{List, [], ◌∷◌, ◌++◌}
use Rattle.std.proofs.Math.ListN.{length, get_or, length-append}
use Rattle.std.specs.Float.Ieee as Ieee
use Rattle.std.specs.Float.Ieee.{binary64, fits, to_bits}
use Rattle.std.specs.Float.Ieee.Bits.{to_bits-lt}
use borrow.Author.Tests.{eqb-true, eq-eqb, leb-true}
use Rattle.text.specs.Bytes.{bytes}
use Rattle.text.specs.Hex.{real_text}
use Rattle.canonical_laws.specs.Strict.{capital}
use Rattle.text.specs.Lines.{is_at}
use Rattle.text.specs.Hex.{digit}
use Rattle.text.specs.Forms.{Form}
use Rattle.canonical_laws.specs.Strict.{strict}
use Rattle.text.specs.Lines.{word_at, none_at, none_end}
use Rattle.canonical_laws.specs.Pieces.{Piece, lit, num, non, text, flat}
use Rattle.canonical_laws.specs.Positions.{is_at_cons, within, start, nothing, split, join, both, none_some}
use Rattle.canonical_laws.specs.FormLaws.{Lawful, first_digit, strict_forth}

-- a piece stands from a position to another
abbrev pub Span : Form → List ℕ → ℕ → Piece → ℕ → Type 0
Span f s at (lit w) j = (is_at s at w ≡ true) × (j ≡ at + length w)
Span f s at (num x) j = word_at f s at ≡ Some (x, j)
Span f s at non j = (none_at f s at ≡ true) × (j ≡ none_end f s at)

abbrev pub Spans : Form → List ℕ → ℕ → List Piece → ℕ → Type 0
Spans f s at [] k = at ≡ k
Spans f s at (p ∷ ps) k = (j : ℕ) × (Span f s at p j) × (Spans f s j ps k)

-- the floats fit
abbrev pub Fit : List Piece → Type 0
Fit [] = Unit {0}
Fit (lit w ∷ ps) = Fit ps
Fit (num x ∷ ps) = T (fits binary64 x) × Fit ps
Fit (non ∷ ps) = Fit ps

-- what the text of some pieces begins with; 48 where they have none
abbrev pub first : List Piece → ℕ
first [] = 48
first (lit w ∷ ps) = get_or w 0 48
first (num x ∷ ps) = 32
first (non ∷ ps) = 32

-- after each float stands no digit
unfoldable pub apart : List Piece → Bool
apart [] = true
apart (lit w ∷ ps) = apart ps
apart (num x ∷ ps) = leb 16 (digit (first ps)) && apart ps
apart (non ∷ ps) = apart ps

-- pieces in two parts
pub parts : (f : Form) (s : List ℕ) (ps qs : List Piece) (at k : ℕ) → Spans f s at (ps ++ qs) k → (j : ℕ) × (Spans f s at ps j) × (Spans f s j qs k)
parts f s [] qs at k h = (at, refl, h)
parts f s (p ∷ ps) qs at k h = let r = parts f s ps qs h.0 k h.2 in (r.0, (h.0, h.1, r.1), r.2)

-- ---- a blank, and what stands after it
word_is : (f : Form) (s : List ℕ) (at i j : ℕ) (x : Ieee.Float) → get_or s at 0 ≡ 32 → f.skip s (at + 1) ≡ i → f.real s i ≡ Some (x, j) → word_at f s at ≡ Some (x, j)
unfolding word_at
word_is f s at i j x b e r = rw (eq-eqb _ _ b, e) r

pub word_forth : (f : Form) (s : List ℕ) (at j : ℕ) (x : Ieee.Float) → word_at f s at ≡ Some (x, j) → (get_or s at 0 ≡ 32) × (f.real s (f.skip s (at + 1)) ≡ Some (x, j))
unfolding word_at
word_forth f s at j x e = go (eqb (get_or s at 0) 32) refl
  where
    go : (b : Bool) → eqb (get_or s at 0) 32 ≡ b → (get_or s at 0 ≡ 32) × (f.real s (f.skip s (at + 1)) ≡ Some (x, j))
    go true q = (eqb-true _ _ q, rw q at e)
    go false q = none_some (rw q at e)

none_is : (f : Form) (s : List ℕ) (at i : ℕ) → get_or s at 0 ≡ 32 → f.skip s (at + 1) ≡ i → is_at s i (bytes "none") ≡ true → none_at f s at ≡ true
unfolding none_at
none_is f s at i b e r = rw (eq-eqb _ _ b, e) r

pub none_forth : (f : Form) (s : List ℕ) (at : ℕ) → none_at f s at ≡ true → (get_or s at 0 ≡ 32) × (is_at s (f.skip s (at + 1)) (bytes "none") ≡ true)
unfolding none_at
none_forth f s at e = let r = both _ _ e in (eqb-true _ _ r.0, r.1)

-- ---- the canonical text is read in every form
module _ (f : Form) (L : Lawful f) (s : List ℕ) where
  -- the byte after a float
  after : (ps : List Piece) (at : ℕ) → 16 ≤ digit (first ps) → is_at s at (flat ps) ≡ true → get_or s at 0 ≡ first ps
  unfolding digit capital
  after [] at h i = absurd (omega arith)
  after (lit [] ∷ ps) at h i = absurd (omega arith)
  after (lit (c ∷ w) ∷ ps) at h i = (is_at_cons s at c (w ++ flat ps) i).0
  after (num x ∷ ps) at h i = (is_at_cons s at 32 (real_text x ++ flat ps) i).0
  after (non ∷ ps) at h i = (is_at_cons s at 32 (bytes "none" ++ flat ps) i).0

  not_blank : (b : ℕ) → capital b < 16 → b ≡ 32 → ⊥
  unfolding capital
  not_blank b h e = let z : capital 32 < 16 = rw e at h in omega arith

  moved : (at n : ℕ) (w : List ℕ) → at + n + length w ≡ at + (n + length w)
  moved at n w = add_assoc at n (length w)

  pub spans_of : (ps : List Piece) (at : ℕ) → apart ps ≡ true → Fit ps → is_at s at (flat ps) ≡ true → Spans f s at ps (at + length (flat ps))
  unfolding apart
  spans_of [] at a g i = sym (add-zero at)
  spans_of (lit w ∷ ps) at a g i =
      let h = split s at w (flat ps) i in
      (at + length w, (h.0, refl), rw (length-append w (flat ps), ← moved at (length w) (flat ps)) (spans_of ps (at + length w) a g h.1))
  spans_of (num x ∷ ps) at a g i =
      let c = is_at_cons s at 32 (real_text x ++ flat ps) i in
      let h = split s (at + 1) (real_text x) (flat ps) c.1 in
      let b = both _ _ a in
      let j = at + 1 + length (real_text x) in
      let d : capital (get_or s (at + 1) 0) < 16 = first_digit s (at + 1) (to_bits binary64 x) (to_bits-lt binary64 x g.0) h.0 in
      let o : 16 ≤ digit (first ps) = leb-true 16 (digit (first ps)) b.0 in
      let n : get_or s j 0 ≡ first ps = after ps j o h.1 in
      let r = L.back s (at + 1) x g.0 h.0 (rw n o) in
      let e : at + length (text (num x) ++ flat ps) ≡ j + length (flat ps) = let l = length-append (real_text x) (flat ps) in omega arith in
      (j, word_is f s at (at + 1) j x c.0 (L.stays s (at + 1) (not_blank _ d)) r, rw e (spans_of ps j b.1 g.1 h.1))
  spans_of (non ∷ ps) at a g i =
      let c = is_at_cons s at 32 (bytes "none" ++ flat ps) i in
      let h = split s (at + 1) (bytes "none") (flat ps) c.1 in
      let n : get_or s (at + 1) 0 ≡ 110 = (is_at_cons s (at + 1) 110 (bytes "one") h.0).0 in
      let k : f.skip s (at + 1) ≡ at + 1 = L.stays s (at + 1) (λ e. omega (arith, n, e)) in
      let e : at + length (text non ++ flat ps) ≡ at + 1 + 4 + length (flat ps) = omega arith in
      (at + 1 + 4, (none_is f s at (at + 1) c.0 k h.0, rw k), rw e (spans_of ps (at + 1 + 4) a g h.1))

  -- what is read fits
  pub fit_of : (ps : List Piece) (at k : ℕ) → Spans f s at ps k → Fit ps
  fit_of [] at k h = tt
  fit_of (lit w ∷ ps) at k h = fit_of ps h.0 k h.2
  fit_of (num x ∷ ps) at k h = (L.fit s _ h.0 x (word_forth f s at h.0 x h.1).1, fit_of ps h.0 k h.2)
  fit_of (non ∷ ps) at k h = fit_of ps h.0 k h.2

  -- no position is left behind
  pub onward : (ps : List Piece) (at k : ℕ) → Spans f s at ps k → at ≤ k
  onward [] at k h = omega arith
  onward (lit w ∷ ps) at k h = omega (arith, onward ps h.0 k h.2, h.1.1)
  onward (num x ∷ ps) at k h = omega (arith, onward ps h.0 k h.2, L.skips s (at + 1), L.goes s _ h.0 x (word_forth f s at h.0 x h.1).1)
  onward (non ∷ ps) at k h = omega (arith, onward ps h.0 k h.2, L.skips s (at + 1), h.1.1)

-- ---- in the strict form only the canonical text is read
pub strict_text : (s : List ℕ) (ps : List Piece) (at k : ℕ) → k ≤ length s → Spans strict s at ps k → (is_at s at (flat ps) ≡ true) × (k ≡ at + length (flat ps))
strict_text s [] at k l h = (nothing s at (rw h l), sym h ∙ sym (add-zero at))
strict_text s (lit w ∷ ps) at k l h =
    let r = strict_text s ps h.0 k l h.2 in
    let n = length-append w (flat ps) in
    (join s at w (flat ps) h.1.0 (rw h.1.1 at r.0), omega (arith, r.1, h.1.1, n))
strict_text s (num x ∷ ps) at k l h =
    let r = strict_text s ps h.0 k l h.2 in
    let w = word_forth strict s at h.0 x h.1 in
    let d = strict_forth s (at + 1) h.0 x w.1 in
    let n = length-append (real_text x) (flat ps) in
    let t = join s (at + 1) (real_text x) (flat ps) d.0 (rw d.1 at r.0) in
    (start s at 32 (real_text x ++ flat ps) (omega (arith, within s (at + 1) _ t)) w.0 t, omega (arith, r.1, d.1, n))
strict_text s (non ∷ ps) at k l h =
    let r = strict_text s ps h.0 k l h.2 in
    let w = none_forth strict s at h.1.0 in
    let t = join s (at + 1) (bytes "none") (flat ps) w.1 (rw h.1.1 at r.0) in
    (start s at 32 (bytes "none" ++ flat ps) (omega (arith, within s (at + 1) _ t)) w.0 t, omega (arith, r.1, h.1.1))
