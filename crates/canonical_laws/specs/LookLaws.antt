-- The accepted texts are exactly those that specs/Looks.antt tells. Assumes nothing.
use Prim.Native.Nat.{ℕ, zero, suc, ◌+◌, ◌*◌, ◌^◌, ◌≤◌, ◌<◌}
use native.Mathlib.Omega.{arith}
use Rattle.std.proofs.Math.Nat.{add-zero, add_assoc}
use Rattle.std.proofs.Common.{zero-add, ◌∙◌, subst}
use Rattle.std.proofs.Math.Path.{◌≡◌, refl, sym, ap}
use Rattle.std.specs.Prelude.{◌↔◌, Bool, Option, Some, None}
use Rattle.std.proofs.Math.Bool.{true, false}
use mathlib.Core.List.{List, [], ◌∷◌, ◌++◌}
use Rattle.std.proofs.Math.Dec.{ltb, eqb}
use Rattle.std.proofs.Math.ListN.{length, get_or, replicate, length-append, length-replicate}
use Rattle.std.specs.Float.Ieee as Ieee
use borrow.Author.Tests.{eqb-true, eq-eqb, ltb-true, lt-ltb, le-ltb, leb-true}
use Rattle.problem.specs.declared.Problem.{Problem}
use Rattle.problem_text.specs.declared.Read.{Read}
use Rattle.text.specs.Bytes.{bytes}
use Rattle.text.specs.Hex.{float, real_by}
use Rattle.text.specs.Lines.{is_at}
use Rattle.text.specs.DigitLaws.{digit_within}
use Rattle.text.specs.Hex.{digit, more, hex_at, real_at}
use Rattle.text.specs.Forms.{past, past_blanks, loose}
use Rattle.text.specs.Lines.{word_at, none_at, none_end}
use Rattle.canonical_laws.specs.Pieces.{Piece, lit, num, non, pieces, no_wheel, no_thruster, tidied}
use Rattle.canonical_laws.specs.Positions.{is_at_cons, blank_within, within, start, nothing, split, join, both, whole, here, none_some, some_pair}
use Rattle.canonical_laws.specs.FormLaws.{loose_lawful, past_none}
use Rattle.canonical_laws.specs.Spans.{Spans, first, apart, word_forth, none_forth}
use Rattle.canonical_laws.specs.LineLaws.{firsts_length}
use Rattle.canonical_laws.specs.TextLaws.{reads, stands}
use Rattle.canonical_laws.specs.PrintLaws.{print_apart}
use Rattle.canonical_laws.specs.Texts.{Few, Writable, Accepted, problem}
use Rattle.canonical_laws.specs.Looks.{Digits, value, blanks, Look, Looks}
use Rattle.common.specs.Refusals.{going}

-- ---- what is read looks so

module _ (s : List ℕ) where
  past_forth : (k at : ℕ) → at ≤ length s → (n : ℕ) × (past s k at ≡ at + n) × (is_at s at (replicate n 32) ≡ true)
  unfolding past
  past_forth zero at l = (0, sym (add-zero at), nothing s at l)
  past_forth (suc k) at l = go (λ at l. past_forth k at l) (eqb (get_or s at 0) 32) refl
    where
      go : ((at : ℕ) → at ≤ length s → (n : ℕ) × (past s k at ≡ at + n) × (is_at s at (replicate n 32) ≡ true)) → (b : Bool) → eqb (get_or s at 0) 32 ≡ b → (n : ℕ) × (past s (suc k) at ≡ at + n) × (is_at s at (replicate n 32) ≡ true)
      go ih true q =
          let e = eqb-true _ _ q in
          let m = blank_within s at e in
          let r = ih (at + 1) (omega arith) in
          let z : at + 1 + r.0 ≡ at + suc r.0 = omega arith in
          (suc r.0, rw q (r.1 ∙ z), start s at 32 (replicate r.0 32) m e r.2)
      go ih false q = (0, rw q (sym (add-zero at)), nothing s at l)

  abbrev More : ℕ → ℕ → ℕ → ℕ → ℕ → Type 0
  More k at m y j = (ds : List ℕ) × (length ds ≤ k) × (Digits ds) × (is_at s at ds ≡ true) × (j ≡ at + length ds) × (y ≡ m + value k ds)

  none_more : (k at m y j : ℕ) → at ≤ length s → ◌≡◌ {A = Option (ℕ × ℕ)} (Some (m, at)) (Some (y, j)) → More k at m y j
  unfolding value
  none_more zero at m y j l e = let w = some_pair e in ([], omega arith, tt, nothing s at l, omega arith, omega arith)
  none_more (suc k) at m y j l e = let w = some_pair e in ([], omega arith, tt, nothing s at l, omega arith, omega arith)

  more_forth : (k at m y j : ℕ) → at ≤ length s → more s k at m ≡ Some (y, j) → More k at m y j
  unfolding more value
  more_forth zero at m y j l e = none_more 0 at m y j l e
  more_forth (suc k) at m y j l e = go (λ at m l e. more_forth k at m y j l e) (ltb (digit (get_or s at 0)) 16) refl
    where
      go : ((at m : ℕ) → at ≤ length s → more s k at m ≡ Some (y, j) → More k at m y j) → (b : Bool) → ltb (digit (get_or s at 0)) 16 ≡ b → More (suc k) at m y j
      go ih true q =
          let c = get_or s at 0 in
          let h : digit c < 16 = ltb-true _ _ q in
          let w = digit_within s at h in
          let r = ih (at + 1) (m + digit c * 16 ^ k) (omega arith) (rw q at e) in
          let z : m + digit c * 16 ^ k + value k r.0 ≡ m + (digit c * 16 ^ k + value k r.0) = add_assoc m (digit c * 16 ^ k) (value k r.0) in
          (c ∷ r.0, omega (arith, r.1), (h, r.2), start s at c r.0 w refl r.3, omega (arith, r.4), r.5 ∙ z)
      go ih false q = none_more (suc k) at m y j l (rw q at e)

  hex_forth : (at y j : ℕ) → hex_at s at ≡ Some (y, j) → (ds : List ℕ) × (Digits ds) × (0 < length ds) × (length ds ≤ 16) × (is_at s at ds ≡ true) × (j ≡ at + length ds) × (y ≡ value 16 ds)
  unfolding hex_at value
  hex_forth at y j e = go (ltb (digit (get_or s at 0)) 16) refl
    where
      go : (b : Bool) → ltb (digit (get_or s at 0)) 16 ≡ b → (ds : List ℕ) × (Digits ds) × (0 < length ds) × (length ds ≤ 16) × (is_at s at ds ≡ true) × (j ≡ at + length ds) × (y ≡ value 16 ds)
      go true q =
          let c = get_or s at 0 in
          let h : digit c < 16 = ltb-true _ _ q in
          let w = digit_within s at h in
          let r = more_forth 15 (at + 1) (digit c * 16 ^ 15) y j (omega arith) (rw q at e) in
          (c ∷ r.0, (h, r.2), omega arith, omega (arith, r.1), start s at c r.0 w refl r.3, omega (arith, r.4), r.5)
      go false q = none_some (rw q at e)

  real_is : (h : Option (ℕ × ℕ)) (x : Ieee.Float) (j : ℕ) → real_by h ≡ Some (x, j) → (y : ℕ) × (h ≡ Some (y, j)) × (x ≡ float y)
  real_is (Some (y, i)) x j e = let w = some_pair e in (y, ap (λ (k : ℕ). Some (y, k)) w.1, sym w.0)
  real_is None x j e = none_some e

  -- after a blank, the others and a word
  gap : (at n i : ℕ) (w : List ℕ) → get_or s at 0 ≡ 32 → is_at s (at + 1) (replicate n 32) ≡ true → i ≡ at + 1 + n → is_at s i w ≡ true → is_at s at (blanks n ++ w) ≡ true
  gap at n i w b h e k =
      let bs : List ℕ = replicate n 32 in
      let z : at + 1 + length bs ≡ i = let l = length-replicate {A = ℕ} n 32 in omega arith in
      start s at 32 (replicate n 32 ++ w) (blank_within s at b) b (join s (at + 1) (replicate n 32) w h (rw z k))

  long : (n : ℕ) (w : List ℕ) → length (blanks n ++ w) ≡ suc n + length w
  long n w = length-append (blanks n) w ∙ ap (λ (m : ℕ). suc m + length w) (length-replicate n 32)

  abbrev Found : Piece → ℕ → ℕ → Type 0
  Found p at j = (u : List ℕ) × (Look p u) × (is_at s at u ≡ true) × (j ≡ at + length u)

  num_forth : (at j : ℕ) (x : Ieee.Float) → word_at loose s at ≡ Some (x, j) → Found (num x) at j
  unfolding real_at past_blanks
  num_forth at j x e =
      let w = word_forth loose s at j x e in
      let b = blank_within s at w.0 in
      let g = past_forth (length s) (at + 1) (omega arith) in
      let r = real_is (hex_at s (past_blanks s (at + 1))) x j w.1 in
      let d = hex_forth (past_blanks s (at + 1)) r.0 j r.1 in
      let n = g.0 in
      let ds = d.0 in
      (blanks n ++ ds, (n, ds, refl, d.1, d.2, d.3, r.2 ∙ ap float d.6), gap at n (past_blanks s (at + 1)) ds w.0 g.2 g.1 d.4, omega (arith, d.5, g.1, long n ds))

  none_found : (at : ℕ) → none_at loose s at ≡ true → Found non at (none_end loose s at)
  unfolding past_blanks
  none_found at e =
      let w = none_forth loose s at e in
      let b = blank_within s at w.0 in
      let g = past_forth (length s) (at + 1) (omega arith) in
      let n = g.0 in
      (blanks n ++ bytes "none", (n, refl), gap at n (past_blanks s (at + 1)) (bytes "none") w.0 g.2 g.1 w.1, omega (arith, g.1, long n (bytes "none")))

  joined : (p : Piece) (ps : List Piece) (at j k : ℕ) → Found p at j → (w : List ℕ) → Looks ps w → is_at s j w ≡ true → k ≡ j + length w → (w : List ℕ) × (Looks (p ∷ ps) w) × (is_at s at w ≡ true) × (k ≡ at + length w)
  joined p ps at j k f w l h e =
      let u = f.0 in
      (u ++ w, (u, w, refl, f.1, l), join s at u w f.2 (rw f.3 at h), omega (arith, e, f.3, length-append u w))

  pub looks : (ps : List Piece) (at k : ℕ) → k ≤ length s → Spans loose s at ps k → (w : List ℕ) × (Looks ps w) × (is_at s at w ≡ true) × (k ≡ at + length w)
  looks [] at k l h = ([], refl, nothing s at (rw h l), sym h ∙ sym (add-zero at))
  looks (lit w ∷ ps) at k l h = let r = looks ps h.0 k l h.2 in joined (lit w) ps at h.0 k (w, refl, h.1.0, h.1.1) r.0 r.1 r.2 r.3
  looks (num x ∷ ps) at k l h = let r = looks ps h.0 k l h.2 in joined (num x) ps at h.0 k (num_forth at h.0 x h.1) r.0 r.1 r.2 r.3
  looks (non ∷ ps) at k l h = let r = looks ps h.0 k l h.2 in joined non ps at h.0 k (subst (λ (j : ℕ). Found non at j) (sym h.1.1) (none_found at h.1.0)) r.0 r.1 r.2 r.3

  -- ---- what looks so is read

  past_back : (n k at : ℕ) → is_at s at (replicate n 32) ≡ true → (get_or s (at + n) 0 ≡ 32 → ⊥) → n ≤ k → past s k at ≡ at + n
  unfolding past
  past_back zero k at h b l = past_none s k at (λ e. b (rw add-zero e)) ∙ sym (add-zero at)
  past_back (suc n) zero at h b l = absurd (omega arith)
  past_back (suc n) (suc k) at h b l =
      let c = is_at_cons s at 32 (replicate n 32) h in
      let z : at + 1 + n ≡ at + suc n = omega arith in
      rw (eq-eqb _ _ c.0) (past_back n k (at + 1) c.1 (rw z b) (omega arith) ∙ z)

  more_back : (ds : List ℕ) (k at m : ℕ) → Digits ds → length ds ≤ k → is_at s at ds ≡ true → 16 ≤ digit (get_or s (at + length ds) 0) → more s k at m ≡ Some (m + value k ds, at + length ds)
  unfolding more value
  more_back [] zero at m d l h e = rw (add-zero m, add-zero at)
  more_back [] (suc k) at m d l h e = let e' : 16 ≤ digit (get_or s at 0) = rw add-zero at e in rw (le-ltb _ _ e', add-zero m, add-zero at)
  more_back (c ∷ ds) zero at m d l h e = absurd (omega arith)
  more_back (c ∷ ds) (suc k) at m d l h e =
      let g = is_at_cons s at c ds h in
      let z : at + 1 + length ds ≡ at + suc (length ds) = omega arith in
      let y : m + digit c * 16 ^ k + value k ds ≡ m + (digit c * 16 ^ k + value k ds) = add_assoc m (digit c * 16 ^ k) (value k ds) in
      rw (g.0, lt-ltb _ _ d.0) (more_back ds k (at + 1) (m + digit c * 16 ^ k) d.1 (omega arith) g.1 (rw z e) ∙ rw (z, y))

  hex_back : (ds : List ℕ) (at : ℕ) → Digits ds → 0 < length ds → length ds ≤ 16 → is_at s at ds ≡ true → 16 ≤ digit (get_or s (at + length ds) 0) → hex_at s at ≡ Some (value 16 ds, at + length ds)
  unfolding hex_at value
  hex_back [] at d p l h e = absurd (omega arith)
  hex_back (c ∷ ds) at d p l h e =
      let g = is_at_cons s at c ds h in
      let z : at + 1 + length ds ≡ at + suc (length ds) = omega arith in
      rw (g.0, lt-ltb _ _ d.0) (more_back ds 15 (at + 1) (digit c * 16 ^ 15) d.1 (omega arith) g.1 (rw z e) ∙ rw z)

  not_blank : (b : ℕ) → digit b < 16 → b ≡ 32 → ⊥
  unfolding digit
  not_blank b h e = let z : digit 32 < 16 = rw e at h in omega arith

  -- the position of a word after its blanks
  skipped : (at n : ℕ) (w : List ℕ) → is_at s at (blanks n ++ w) ≡ true → (get_or s (at + 1 + n) 0 ≡ 32 → ⊥) → (get_or s at 0 ≡ 32) × (past_blanks s (at + 1) ≡ at + 1 + n) × (is_at s (at + 1 + n) w ≡ true)
  unfolding past_blanks
  skipped at n w h b =
      let bs : List ℕ = replicate n 32 in
      let g = is_at_cons s at 32 (bs ++ w) h in
      let r = split s (at + 1) bs w g.1 in
      let l = length-replicate {A = ℕ} n 32 in
      let m : n ≤ length s = omega (arith, within s (at + 1) bs r.0) in
      (g.0, past_back n (length s) (at + 1) r.0 b m, rw l at r.1)

  word_at_law : (at n : ℕ) (w : List ℕ) → is_at s at (blanks n ++ w) ≡ true → is_at s (at + 1 + n) w ≡ true
  word_at_law at n w h =
      let bs : List ℕ = replicate n 32 in
      let l = length-replicate {A = ℕ} n 32 in
      rw l at (split s (at + 1) bs w (is_at_cons s at 32 (bs ++ w) h).1).1

  first_digit : (ds : List ℕ) (at : ℕ) → Digits ds → 0 < length ds → is_at s at ds ≡ true → digit (get_or s at 0) < 16
  first_digit [] at d p h = absurd (omega arith)
  first_digit (c ∷ ds) at d p h = rw (is_at_cons s at c ds h).0 d.0

  num_read : (at n : ℕ) (ds : List ℕ) → Digits ds → 0 < length ds → length ds ≤ 16 → is_at s at (blanks n ++ ds) ≡ true → 16 ≤ digit (get_or s (at + 1 + n + length ds) 0) → word_at loose s at ≡ Some (float (value 16 ds), at + 1 + n + length ds)
  unfolding word_at real_at
  num_read at n ds d p l h e =
      let i = word_at_law at n ds h in
      let f = first_digit ds (at + 1 + n) d p i in
      let k = skipped at n ds h (not_blank _ f) in
      rw (eq-eqb _ _ k.0, k.1, hex_back ds (at + 1 + n) d p l k.2 e)

  none_read : (at n : ℕ) → is_at s at (blanks n ++ bytes "none") ≡ true → (none_at loose s at ≡ true) × (none_end loose s at ≡ at + 1 + n + 4)
  unfolding none_at
  none_read at n h =
      let i = word_at_law at n (bytes "none") h in
      let b : get_or s (at + 1 + n) 0 ≡ 110 = (is_at_cons s (at + 1 + n) 110 (bytes "one") i).0 in
      let k = skipped at n (bytes "none") h (λ e. omega (arith, b, e)) in
      (rw (eq-eqb _ _ k.0, k.1) k.2, rw k.1)

  -- the byte after a float
  after : (ps : List Piece) (w : List ℕ) (at : ℕ) → 16 ≤ digit (first ps) → Looks ps w → is_at s at w ≡ true → get_or s at 0 ≡ first ps
  unfolding digit
  after [] w at h l i = absurd (omega arith)
  after (lit [] ∷ ps) w at h l i = absurd (omega arith)
  after (lit (c ∷ u) ∷ ps) w at h l i = let j : is_at s at (c ∷ (u ++ l.1)) ≡ true = rw (l.2, l.3) at i in (is_at_cons s at c (u ++ l.1) j).0
  after (num x ∷ ps) w at h l i = let j : is_at s at (32 ∷ (replicate l.3.0 32 ++ l.3.1 ++ l.1)) ≡ true = rw (l.2, l.3.2) at i in (is_at_cons s at 32 _ j).0
  after (non ∷ ps) w at h l i = let j : is_at s at (32 ∷ (replicate l.3.0 32 ++ bytes "none" ++ l.1)) ≡ true = rw (l.2, l.3.1) at i in (is_at_cons s at 32 _ j).0

  read : (ps : List Piece) (w : List ℕ) (at : ℕ) → apart ps ≡ true → Looks ps w → is_at s at w ≡ true → Spans loose s at ps (at + length w)
  unfolding apart
  read [] w at a l i = rw l (sym (add-zero at))
  read (lit u ∷ ps) w at a l i =
      let v = l.1 in
      let e : w ≡ u ++ v = l.2 ∙ ap (λ (r : List ℕ). r ++ v) l.3 in
      let h = split s at u v (rw e at i) in
      let z : at + length w ≡ at + length u + length v = omega (arith, ap length e, length-append u v) in
      (at + length u, (h.0, refl), rw z (read ps v (at + length u) a l.4 h.1))
  read (num x ∷ ps) w at a l i =
      let v = l.1 in
      let n = l.3.0 in
      let ds = l.3.1 in
      let u : List ℕ = blanks n ++ ds in
      let e : w ≡ u ++ v = l.2 ∙ ap (λ (r : List ℕ). r ++ v) l.3.2 in
      let h = split s at u v (rw e at i) in
      let b = both _ _ a in
      let g : length u ≡ suc n + length ds = long n ds in
      let j = at + 1 + n + length ds in
      let y : at + length u ≡ j = omega arith in
      let o : 16 ≤ digit (first ps) = leb-true 16 (digit (first ps)) b.0 in
      let k : is_at s j v ≡ true = rw y at h.1 in
      let c : get_or s j 0 ≡ first ps = after ps v j o l.4 k in
      let z : at + length w ≡ j + length v = omega (arith, ap length e, length-append u v) in
      (j, num_read at n ds l.3.3 l.3.4 l.3.5 h.0 (rw c o) ∙ ap (λ (r : Ieee.Float). Some (r, j)) (sym l.3.6), rw z (read ps v j b.1 l.4 k))
  read (non ∷ ps) w at a l i =
      let v = l.1 in
      let n = l.3.0 in
      let u : List ℕ = blanks n ++ bytes "none" in
      let e : w ≡ u ++ v = l.2 ∙ ap (λ (r : List ℕ). r ++ v) l.3.1 in
      let h = split s at u v (rw e at i) in
      let g : length u ≡ suc n + 4 = long n (bytes "none") in
      let j = at + 1 + n + 4 in
      let y : at + length u ≡ j = omega arith in
      let r = none_read at n h.0 in
      let z : at + length w ≡ j + length v = omega (arith, ap length e, length-append u v) in
      (j, (r.0, sym r.1), rw z (read ps v j a l.4 (rw y at h.1)))

-- ---- 5: the accepted texts are exactly those

few_tidied : (p : Problem) → Writable p → Few (tidied p)
unfolding tidied
few_tidied p n = (omega (arith, firsts_length no_wheel p.actuators.wheel_count 0 p.actuators.wheels, n.0.0), omega (arith, firsts_length no_thruster p.actuators.thruster_count 0 p.actuators.thrusters, n.0.1))

pub accepted_exactly : (t : List ℕ) → Accepted loose t ↔ ((length t ≤ 4096) × (p : Problem) × (Writable p) × (Looks (pieces p) t))
accepted_exactly t = (to, from)
  where
    to : Accepted loose t → (length t ≤ 4096) × (p : Problem) × (Writable p) × (Looks (pieces p) t)
    to h =
        let r = stands loose t h.0 h.1.0 h.1.1 in
        let w = looks t (pieces (problem loose t)) 0 (length t) (omega arith) r.1 in
        let e : t ≡ w.0 = whole t w.0 w.2 (sym (w.3 ∙ zero-add (length w.0))) in
        (r.0, problem loose t, (h.1, r.3), subst (λ (u : List ℕ). Looks (pieces (problem loose t)) u) (sym e) w.1)

    from : (length t ≤ 4096) × (p : Problem) × (Writable p) × (Looks (pieces p) t) → Accepted loose t
    from h =
        let p = h.1 in
        let n = h.2 in
        let q = read t (pieces p) t 0 (print_apart p) h.3 (here t) in
        let e = reads loose loose_lawful t p h.0 (omega (arith, n.0.0, n.1)) n.1 (subst (λ (k : ℕ). Spans loose t 0 (pieces p) k) (zero-add (length t)) q) in
        subst (λ (r : Read). (r.fate ≡ going) × Few r.problem) (sym e) (refl, few_tidied p n)
