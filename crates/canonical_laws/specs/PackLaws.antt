-- A sorted list of actuators and the record that holds them: each is the other's. Assumes nothing.
use Rattle.std.specs.Prelude.{ℕ, suc, ◌+◌, ◌≤◌, ◌≡◌, refl, List, [], ◌∷◌, ◌++◌, map, length, set, replicate, Option, Some, None}
use Rattle.std.proofs.Common.{arith, add-one, add-zero, zero-add, ◌∙◌, ap}
use Rattle.std.proofs.lemmas.List.{length-map}
use Rattle.std.proofs.lemmas.List.Edits.{sets}
use Rattle.actuators.specs.declared.Wheel.{Wheel}
use Rattle.actuators.specs.declared.Thruster.{Thruster}
use Rattle.actuators.specs.declared.Actuators.{Actuators}
use Rattle.actuators.specs.Maps.{no_actuators, blank_wheel, blank_thruster}
use Rattle.canonical_laws.specs.Pieces.{Piece, Entry, wheel, thruster, pyramid, entry, entries, gyros, listed, no_wheel, no_thruster, wheels_of, thrusters_of, tidy_wheel, tidy_thruster, packed}
use Rattle.canonical_laws.specs.LineLaws.{firsts_sets}
use Rattle.canonical_laws.specs.ListLaws.{adds, Sorted}
use Rattle.actuators.specs.declared.CmgPyramid.{CmgPyramid}

-- ---- the record of a list

abbrev with_wheels_law : Actuators → List Wheel → ℕ → Actuators
with_wheels_law a v n = record { wheels = v; wheel_count = n; thrusters = a.thrusters; thruster_count = a.thruster_count; cmgs = a.cmgs }

abbrev with_thrusters : Actuators → List Thruster → ℕ → Actuators
with_thrusters a v n = record { wheels = a.wheels; wheel_count = a.wheel_count; thrusters = v; thruster_count = n; cmgs = a.cmgs }

adds_wheels : (ws : List Wheel) (a : Actuators) (v : List Wheel) (n : ℕ) (es : List Entry) → adds (with_wheels_law a v n) (map wheel ws ++ es) ≡ adds (with_wheels_law a (sets v n (map tidy_wheel ws)) (n + length ws)) es
adds_wheels [] a v n es = rw add-zero
adds_wheels (w ∷ ws) a v n es =
    adds_wheels ws a (set v n (tidy_wheel w)) (n + 1) es
    ∙ let e : n + 1 + length ws ≡ n + suc (length ws) = omega arith in ap (λ (k : ℕ). adds (with_wheels_law a (sets (set v n (tidy_wheel w)) k (map tidy_wheel ws)) (n + 1 + length ws)) es) (add-one n) ∙ ap (λ (k : ℕ). adds (with_wheels_law a (sets v n (map tidy_wheel (w ∷ ws))) k) es) e

adds_thrusters : (ts : List Thruster) (a : Actuators) (v : List Thruster) (n : ℕ) (es : List Entry) → adds (with_thrusters a v n) (map thruster ts ++ es) ≡ adds (with_thrusters a (sets v n (map tidy_thruster ts)) (n + length ts)) es
adds_thrusters [] a v n es = rw add-zero
adds_thrusters (t ∷ ts) a v n es =
    adds_thrusters ts a (set v n (tidy_thruster t)) (n + 1) es
    ∙ let e : n + 1 + length ts ≡ n + suc (length ts) = omega arith in ap (λ (k : ℕ). adds (with_thrusters a (sets (set v n (tidy_thruster t)) k (map tidy_thruster ts)) (n + 1 + length ts)) es) (add-one n) ∙ ap (λ (k : ℕ). adds (with_thrusters a (sets v n (map tidy_thruster (t ∷ ts))) k) es) e

adds_gyros : (ws : List Wheel) (ts : List Thruster) (c : Option CmgPyramid) → adds (packed ws ts None) (gyros c) ≡ packed ws ts c
adds_gyros ws ts None = refl
adds_gyros ws ts (Some p) = refl

pub adds_listed : (ws : List Wheel) (ts : List Thruster) (c : Option CmgPyramid) → adds no_actuators (listed ws ts c) ≡ packed ws ts c
unfolding no_actuators
adds_listed ws ts c =
    adds_wheels ws no_actuators (replicate 8 blank_wheel) 0 (map thruster ts ++ gyros c)
    ∙ rw (zero-add (length ws))
    (adds_thrusters ts (packed ws [] None) (replicate 12 blank_thruster) 0 (gyros c) ∙ rw (zero-add (length ts)) (adds_gyros ws ts c))

-- ---- sorted lists

sorted_gyros : (c : Option CmgPyramid) (least : ℕ) → least ≤ 3 → Sorted least (gyros c)
sorted_gyros None least l = tt
sorted_gyros (Some p) least l = (l, tt)

sorted_thrusters : (ts : List Thruster) (c : Option CmgPyramid) (least : ℕ) → least ≤ 2 → Sorted least (map thruster ts ++ gyros c)
sorted_thrusters [] c least l = sorted_gyros c least (omega arith)
sorted_thrusters (t ∷ ts) c least l = (l, sorted_thrusters ts c 2 (omega arith))

pub sorted_listed : (ws : List Wheel) (ts : List Thruster) (c : Option CmgPyramid) → Sorted 1 (listed ws ts c)
sorted_listed [] ts c = sorted_thrusters ts c 1 (omega arith)
sorted_listed (w ∷ ws) ts c = (omega arith, sorted_listed ws ts c)

after_pyramid : (es : List Entry) → Sorted 4 es → es ≡ []
after_pyramid [] h = refl
after_pyramid (wheel w ∷ es) h = absurd (omega (arith, h.0))
after_pyramid (thruster t ∷ es) h = absurd (omega (arith, h.0))
after_pyramid (pyramid p ∷ es) h = absurd (omega (arith, h.0))

after_thruster : (es : List Entry) (least : ℕ) → 2 ≤ least → Sorted least es → (ts : List Thruster) × (c : Option CmgPyramid) × (es ≡ map thruster ts ++ gyros c)
after_thruster [] least l h = ([], None, refl)
after_thruster (wheel w ∷ es) least l h = absurd (omega (arith, h.0))
after_thruster (thruster t ∷ es) least l h =
    let r = after_thruster es 2 (omega arith) h.1 in
    (t ∷ r.0, r.1, ap (λ (x : List Entry). thruster t ∷ x) r.2)
after_thruster (pyramid p ∷ es) least l h = ([], Some p, ap (λ (x : List Entry). pyramid p ∷ x) (after_pyramid es h.1))

pub unlisted : (es : List Entry) → Sorted 1 es → (ws : List Wheel) × (ts : List Thruster) × (c : Option CmgPyramid) × (es ≡ listed ws ts c)
unlisted [] h = ([], [], None, refl)
unlisted (wheel w ∷ es) h =
    let r = unlisted es h.1 in
    (w ∷ r.0, r.1, r.2, ap (λ (x : List Entry). wheel w ∷ x) r.3)
unlisted (thruster t ∷ es) h =
    let r = after_thruster es 2 (omega arith) h.1 in
    ([], t ∷ r.0, r.1, ap (λ (x : List Entry). thruster t ∷ x) r.2)
unlisted (pyramid p ∷ es) h = ([], [], Some p, ap (λ (x : List Entry). pyramid p ∷ x) (after_pyramid es h.1))

-- ---- what counts of a packed record

map_twice : {A : Type 0} (g : A → A) → ((x : A) → g (g x) ≡ g x) → (xs : List A) → map g (map g xs) ≡ map g xs
map_twice g e [] = refl
map_twice {A} g e (x ∷ xs) = rw (e x) (ap (λ (r : List A). g x ∷ r) (map_twice g e xs))

module _ (ws : List Wheel) (ts : List Thruster) (c : Option CmgPyramid) (few : length ws ≤ 8) (less : length ts ≤ 12) where
  wheels_are : wheels_of (packed ws ts c) ≡ map tidy_wheel ws
  wheels_are = firsts_sets no_wheel (map tidy_wheel ws) (replicate 8 blank_wheel) (length ws) (length-map ws tidy_wheel) few

  thrusters_are : thrusters_of (packed ws ts c) ≡ map tidy_thruster ts
  thrusters_are = firsts_sets no_thruster (map tidy_thruster ts) (replicate 12 blank_thruster) (length ts) (length-map ts tidy_thruster) less

  -- nothing stands past its counts
  pub packed_twice : packed (wheels_of (packed ws ts c)) (thrusters_of (packed ws ts c)) c ≡ packed ws ts c
  packed_twice =
      ap (λ (v : List Wheel). packed v (thrusters_of (packed ws ts c)) c) wheels_are
      ∙ ap (λ (v : List Thruster). packed (map tidy_wheel ws) v c) thrusters_are
      ∙ rw (map_twice tidy_wheel (λ w. refl) ws, map_twice tidy_thruster (λ t. refl) ts, length-map ws tidy_wheel, length-map ts tidy_thruster)

  thrusters_same : (vs : List Thruster) (es : List Entry) (rest : List Piece) → entries (map thruster (map tidy_thruster vs) ++ es) rest ≡ entries (map thruster vs ++ es) rest
  thrusters_same [] es rest = refl
  thrusters_same (v ∷ vs) es rest = ap (λ (r : List Piece). Piece.lit (10 ∷ []) ∷ (entry (thruster v) ++ r)) (thrusters_same vs es rest)

  wheels_same : (vs : List Wheel) (es : List Entry) (rest : List Piece) → entries (map wheel (map tidy_wheel vs) ++ es) rest ≡ entries (map wheel vs ++ es) rest
  wheels_same [] es rest = refl
  wheels_same (v ∷ vs) es rest = ap (λ (r : List Piece). Piece.lit (10 ∷ []) ∷ (entry (wheel v) ++ r)) (wheels_same vs es rest)

  wheels_alike : (vs : List Wheel) (es fs : List Entry) (rest : List Piece) → entries es rest ≡ entries fs rest → entries (map wheel vs ++ es) rest ≡ entries (map wheel vs ++ fs) rest
  wheels_alike [] es fs rest h = h
  wheels_alike (v ∷ vs) es fs rest h = ap (λ (r : List Piece). Piece.lit (10 ∷ []) ∷ (entry (wheel v) ++ r)) (wheels_alike vs es fs rest h)

  -- its pieces are the list's
  pub packed_pieces : (rest : List Piece) → entries (listed (wheels_of (packed ws ts c)) (thrusters_of (packed ws ts c)) c) rest ≡ entries (listed ws ts c) rest
  packed_pieces rest =
      ap (λ (v : List Wheel). entries (listed v (thrusters_of (packed ws ts c)) c) rest) wheels_are
      ∙ ap (λ (v : List Thruster). entries (listed (map tidy_wheel ws) v c) rest) thrusters_are
      ∙ wheels_same ws (map thruster (map tidy_thruster ts) ++ gyros c) rest
      ∙ wheels_alike ws (map thruster (map tidy_thruster ts) ++ gyros c) (map thruster ts ++ gyros c) rest (thrusters_same ts (gyros c) rest)
