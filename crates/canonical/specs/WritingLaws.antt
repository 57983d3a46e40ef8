-- The parts that the writer puts make up the canonical text. Assumes nothing.
use Prim.Native.Nat.{ℕ, zero, suc, ◌+◌, ◌≤◌, ◌<◌}
use Rattle.std.proofs.Common.{arith, add-zero, zero-add, ◌∙◌, le-leb, eq-eqb, ne_eqb, Option, Some, None}
use Rattle.std.specs.Prelude.{◌≡◌, get_or, Float}
use Rattle.std.proofs.Math.Path.{refl, sym, ap}
use mathlib.Core.List.{List, [], ◌∷◌, ◌++◌, map, append-nil, append_assoc}
use Rattle.std.proofs.lemmas.Bool.{lt-leb}
use Rattle.std.specs.Float.{nan}
use Rattle.actuators.specs.declared.Actuators.{Actuators}
use Rattle.problem.specs.declared.Problem.{Problem}
use Rattle.text.specs.Bytes.{bytes}
use Rattle.text_writer.specs.Puts.{Puts}
use Rattle.text_writer.specs.PutLaws.{puts_join}
use Rattle.text_writer.specs.Texts.{times, word, words}
use Rattle.canonical_laws.specs.Pieces.{Piece, lit, num, Entry, wheel, thruster, pyramid, text, flat, firsts, floats, nums, line, entry, entries, gyros, no_wheel, no_thruster, thrusters_of, momenta_of, actuators, pieces, print}
use Rattle.canonical_laws.specs.Texts.{Writable}
use Rattle.canonical.specs.Writing.{written, close, entry_text, gyros_text, wheels_text, thrusters_text, momenta_line, fields}
use Rattle.actuators.specs.declared.CmgPyramid.{CmgPyramid}

pub flat_join : (ps qs : List Piece) → flat (ps ++ qs) ≡ flat ps ++ flat qs
flat_join [] qs = refl
flat_join (p ∷ ps) qs = ap (λ (r : List ℕ). text p ++ r) (flat_join ps qs) ∙ sym (append_assoc (text p) (flat ps) (flat qs))

pub puts_pieces : {b b' b'' : List ℕ} {at i j m n : ℕ} (ps qs : List Piece) → Puts b at (flat ps) m b' i → Puts b' i (flat qs) n b'' j → Puts b at (flat (ps ++ qs)) (m + n) b'' j
puts_pieces ps qs p q = rw (flat_join ps qs) (puts_join p q)

pub puts_piece : {b b' : List ℕ} {at i m : ℕ} (p : Piece) → Puts b at (text p) m b' i → Puts b at (flat (p ∷ [])) m b' i
puts_piece p h = rw (append-nil (text p)) h

-- floats, by index
nums_words : (n : ℕ) (v : List Float) (rest : List Piece) → flat (nums (floats n v) rest) ≡ words v 0 n ++ flat rest
unfolding words times
nums_words zero v rest = refl
nums_words (suc n) v rest =
    ap flat (nums_last n 0 v rest)
    ∙ nums_words n v (num (get_or v (0 + n) nan) ∷ rest)
    ∙ sym (append_assoc (words v 0 n) (word (get_or v (0 + n) nan)) (flat rest))
  where
    nums_last : (n k : ℕ) (v : List Float) (rest : List Piece) → nums (firsts nan k (suc n) v) rest ≡ nums (firsts nan k n v) (num (get_or v (k + n) nan) ∷ rest)
    nums_last zero k v rest = rw add-zero
    nums_last (suc n) k v rest = ap (λ (r : List Piece). num (get_or v k nan) ∷ r) (nums_last n (suc k) v rest ∙ let e : suc k + n ≡ k + suc n = omega arith in rw e)

pub puts_nums : {b b' : List ℕ} {at i m : ℕ} (n : ℕ) (v : List Float) → Puts b at (words v 0 n) m b' i → Puts b at (flat (nums (floats n v) [])) m b' i
puts_nums n v h = rw (nums_words n v [], append-nil (words v 0 n)) h

pub line_text : (head tail : List ℕ) (n : ℕ) (v : List Float) → flat (line head (floats n v) tail) ≡ head ++ words v 0 n ++ tail
line_text head tail n v =
    ap (λ (r : List ℕ). head ++ r) (nums_words n v (lit tail ∷ []) ∙ ap (λ (r : List ℕ). words v 0 n ++ r) (append-nil tail))
    ∙ sym (append_assoc head (words v 0 n) tail)

entry_text_law : (e : Entry) (es : List Entry) (rest : List Piece) → flat (entries (e ∷ es) rest) ≡ entry_text e ++ flat (entries es rest)
entry_text_law e es rest = ap (λ (r : List ℕ). 10 ∷ r) (flat_join (entry e) (entries es rest))

-- actuators, by index
module _ {A : Type 0} (d : A) (c : A → Entry) where
  listed_last : (n k : ℕ) (v : List A) (es : List Entry) → map c (firsts d k (suc n) v) ++ es ≡ map c (firsts d k n v) ++ (c (get_or v (k + n) d) ∷ es)
  listed_last zero k v es = rw add-zero
  listed_last (suc n) k v es = ap (λ (r : List Entry). c (get_or v k d) ∷ r) (listed_last n (suc k) v es ∙ let e : suc k + n ≡ k + suc n = omega arith in rw e)

  pub listed_text : (n : ℕ) (v : List A) (es : List Entry) (rest : List Piece) → flat (entries (map c (firsts d 0 n v) ++ es) rest) ≡ times (λ k. entry_text (c (get_or v k d))) n ++ flat (entries es rest)
  unfolding times
  listed_text zero v es rest = refl
  listed_text (suc n) v es rest =
      ap (λ (l : List Entry). flat (entries l rest)) (listed_last n 0 v es)
      ∙ listed_text n v (c (get_or v (0 + n) d) ∷ es) rest
      ∙ ap (λ (r : List ℕ). times (λ k. entry_text (c (get_or v k d))) n ++ r) (entry_text_law (c (get_or v (0 + n) d)) es rest)
      ∙ sym (append_assoc (times (λ k. entry_text (c (get_or v k d))) n) (entry_text (c (get_or v (0 + n) d))) (flat (entries es rest)))
      ∙ ap (λ (k : ℕ). times (λ k. entry_text (c (get_or v k d))) n ++ entry_text (c (get_or v k d)) ++ flat (entries es rest)) (zero-add n)

gyros_text_law : (c : Option CmgPyramid) (rest : List Piece) → flat (entries (gyros c) rest) ≡ gyros_text c ++ flat rest
gyros_text_law None rest = refl
gyros_text_law (Some p) rest = entry_text_law (pyramid p) [] rest

pub actuators_text : (a : Actuators) → flat (actuators a) ≡ bytes " (actuators" ++ wheels_text a.wheels a.wheel_count ++ thrusters_text a.thrusters a.thruster_count ++ gyros_text a.cmgs ++ bytes "))\n"
unfolding actuators wheels_text thrusters_text
actuators_text a =
    let h = bytes " (actuators" in
    let w = times (λ k. entry_text (wheel (get_or a.wheels k no_wheel))) a.wheel_count in
    let t = times (λ k. entry_text (thruster (get_or a.thrusters k no_thruster))) a.thruster_count in
    let g = gyros_text a.cmgs in
    let e = bytes "))\n" in
    ap (λ (r : List ℕ). h ++ r)
    (listed_text no_wheel wheel a.wheel_count a.wheels (map thruster (thrusters_of a) ++ gyros a.cmgs) (lit e ∷ [])
    ∙ ap (λ (r : List ℕ). w ++ r) (listed_text no_thruster thruster a.thruster_count a.thrusters (gyros a.cmgs) (lit e ∷ []) ∙ ap (λ (r : List ℕ). t ++ r) (gyros_text_law a.cmgs (lit e ∷ []))))
    ∙ simp append_assoc

nums_join : (xs : List Float) (ps qs : List Piece) → nums xs (ps ++ qs) ≡ nums xs ps ++ qs
nums_join [] ps qs = refl
nums_join (x ∷ xs) ps qs = ap (λ (r : List Piece). num x ∷ r) (nums_join xs ps qs)

-- from the momenta on
abbrev ending : Problem → List Piece
ending p = lit (bytes " (momenta") ∷ nums (momenta_of p.momenta) (lit close ∷ actuators p.actuators)

ending_text : (p : Problem) → flat (ending p) ≡ flat (momenta_line p.momenta.at p.momenta.count) ++ flat (actuators p.actuators)
ending_text p =
    ap (λ (ps : List Piece). flat (lit (bytes " (momenta") ∷ ps)) (nums_join (momenta_of p.momenta) (lit close ∷ []) (actuators p.actuators))
    ∙ flat_join (momenta_line p.momenta.at p.momenta.count) (actuators p.actuators)

pub print_parts : (p : Problem) → print p ≡ flat (fields p) ++ flat (momenta_line p.momenta.at p.momenta.count) ++ flat (actuators p.actuators)
unfolding print pieces fields
print_parts p =
    flat_join (fields p) (ending p)
    ∙ ap (λ (r : List ℕ). flat (fields p) ++ r) (ending_text p)
    ∙ sym (append_assoc (flat (fields p)) (flat (momenta_line p.momenta.at p.momenta.count)) (flat (actuators p.actuators)))

pub written_is : (p : Problem) → Writable p → written p ≡ print p
unfolding written
written_is p w = rw (le-leb _ _ w.0.0, le-leb _ _ w.0.1, eq-eqb _ _ w.1)

pub written_wheels : (p : Problem) → 8 < p.actuators.wheel_count → written p ≡ []
unfolding written
written_wheels p h = rw (lt-leb _ _ h)

pub written_thrusters : (p : Problem) → p.actuators.wheel_count ≤ 8 → 12 < p.actuators.thruster_count → written p ≡ []
unfolding written
written_thrusters p h k = rw (le-leb _ _ h, lt-leb _ _ k)

pub written_momenta : (p : Problem) → p.actuators.wheel_count ≤ 8 → p.actuators.thruster_count ≤ 12 → (p.momenta.count ≡ p.actuators.wheel_count → ⊥) → written p ≡ []
unfolding written
written_momenta p h k n = rw (le-leb _ _ h, le-leb _ _ k, ne_eqb _ _ n)
