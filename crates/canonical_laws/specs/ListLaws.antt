-- The list of actuators is read exactly where its pieces stand. Assumes nothing.
use Prim.Native.Nat.{ℕ, zero, suc, ◌+◌, ◌≤◌, ◌<◌}
use Rattle.std.proofs.Common.{arith, sym, ◌∙◌, subst, Err}
use Rattle.std.specs.Prelude.{◌≡◌, Bool, length, set, Float, Option, Some, None}
use Rattle.std.proofs.Math.Path.{refl, ap}
use Rattle.std.proofs.Math.Bool.{true, false}
use mathlib.Core.List.{List, [], ◌∷◌, ◌++◌}
use Rattle.std.proofs.Math.Dec.{ltb}
use Rattle.std.proofs.Math.ListN.{get_or}
use Rattle.std.specs.Float.Ieee.{nan}
use borrow.Author.Tests.{lt-ltb, le-ltb, ltb-true, ltb-false}
use Rattle.common.specs.Iter.{iter}
use Rattle.common.specs.Lists as Lists
use Rattle.actuators.specs.declared.Wheel.{Wheel}
use Rattle.actuators.specs.declared.Thruster.{Thruster}
use Rattle.actuators.specs.declared.CmgPyramid.{CmgPyramid}
use Rattle.actuators.specs.declared.Actuators.{Actuators}
use Rattle.text.specs.declared.lines.Row.{Row}
use Rattle.problem_text.specs.declared.listing.Kind.TheVariants as Kind
use Rattle.problem_text.specs.declared.listing.Item.{Item}
use Rattle.problem_text.specs.declared.listing.Listing.{Listing}
use Rattle.text.specs.Bytes.{bytes}
use Rattle.text.specs.Lines.{is_at, LineForm, line_at}
use Rattle.problem_text.specs.Listing.{wheel_form, thruster_form, pyramid_form, place_of, least_after, item_at, with_wheel, with_thruster, with_pyramid, with_item, end_at, close_at, wrong_line, next_line, turn}
use Rattle.text.specs.Forms.{Form}
use Rattle.canonical_laws.specs.Pieces.{Piece, lit, num, non, nums, floats, Entry, wheel, thruster, pyramid, entry, entries, tidy_wheel, tidy_thruster}
use Rattle.canonical_laws.specs.Positions.{none_some, some_is, within, byte}
use Rattle.canonical_laws.specs.FormLaws.{Lawful}
use Rattle.canonical_laws.specs.Spans.{Spans, onward, parts}
use Rattle.canonical_laws.specs.LineLaws.{line_back, line_forth, limit_none, limit_at_law, limit_forth}
use Rattle.common.specs.Refusals.{refusal, going}

-- ---- what an entry does to the actuators so far

abbrev pub kind : Entry → ℕ
kind (wheel w) = 1
kind (thruster t) = 2
kind (pyramid p) = 3

abbrev pub next : Entry → ℕ
next (wheel w) = 1
next (thruster t) = 2
next (pyramid p) = 4

abbrev pub add : Actuators → Entry → Actuators
add a (wheel w) = record { wheels = set a.wheels a.wheel_count (tidy_wheel w); wheel_count = a.wheel_count + 1; thrusters = a.thrusters; thruster_count = a.thruster_count; cmgs = a.cmgs }
add a (thruster t) = record { wheels = a.wheels; wheel_count = a.wheel_count; thrusters = set a.thrusters a.thruster_count (tidy_thruster t); thruster_count = a.thruster_count + 1; cmgs = a.cmgs }
add a (pyramid p) = record { wheels = a.wheels; wheel_count = a.wheel_count; thrusters = a.thrusters; thruster_count = a.thruster_count; cmgs = Some p }

abbrev pub adds : Actuators → List Entry → Actuators
adds a [] = a
adds a (e ∷ es) = adds (add a e) es

-- wheels, then thrusters, then at most one pyramid
abbrev pub Sorted : ℕ → List Entry → Type 0
Sorted least [] = Unit {0}
Sorted least (e ∷ es) = (least ≤ kind e) × Sorted (next e) es

next_pos : (e : Entry) → 0 < next e
next_pos (wheel w) = omega arith
next_pos (thruster t) = omega arith
next_pos (pyramid p) = omega arith

-- ---- two different words do not stand at one position
module _ (s : List ℕ) (at : ℕ) where
  pub clash : (u w : List ℕ) (k : ℕ) → k < length u → k < length w → (get_or u k 0 ≡ get_or w k 0 → ⊥) → is_at s at u ≡ true → is_at s at w ≡ false
  clash u w k lu lw n h = go (is_at s at w) refl
    where
      go : (b : Bool) → is_at s at w ≡ b → is_at s at w ≡ false
      go true q = absurd (n (sym (byte s at u h k lu) ∙ byte s at w q k lw))
      go false q = q

module _ (f : Form) (s : List ℕ) where
  -- another head
  line_no : (at : ℕ) (l : LineForm) → is_at s at l.head ≡ false → line_at f s at l ≡ None
  unfolding line_at
  line_no at l h = rw h

  -- ---- one actuator

  abbrev ItemRead : ℕ → ℕ → Entry → List Piece → Type 0
  ItemRead at k e rest =
      (i : Item)
      × (item_at f s at ≡ Some i)
      × (place_of i.kind ≡ kind e)
      × (least_after i.kind ≡ next e)
      × ((a : Actuators) → with_item a i ≡ add a e)
      × (Spans f s i.row.at rest k)

  module _ (L : Lawful f) where
    wheel_is : (at k : ℕ) (w : Wheel) (r : Row) (rest : List Piece) → line_at f s at wheel_form ≡ Some r
        → ((a : Actuators) → with_wheel a r ≡ add a (wheel w)) → Spans f s r.at rest k → ItemRead at k (wheel w) rest
    unfolding item_at with_item with_wheel
    wheel_is at k w r rest e q h = (record { kind = Kind.Wheel; row = r }, rw e refl, refl, refl, q, h)

    thruster_is : (at k : ℕ) (t : Thruster) (r : Row) (rest : List Piece) → line_at f s at wheel_form ≡ None → line_at f s at thruster_form ≡ Some r
        → ((a : Actuators) → with_thruster a r ≡ add a (thruster t)) → Spans f s r.at rest k → ItemRead at k (thruster t) rest
    unfolding item_at with_item with_thruster
    thruster_is at k t r rest o e q h = (record { kind = Kind.Thruster; row = r }, rw (o, e) refl, refl, refl, q, h)

    pyramid_is : (at k : ℕ) (p : CmgPyramid) (r : Row) (rest : List Piece) → line_at f s at wheel_form ≡ None → line_at f s at thruster_form ≡ None → line_at f s at pyramid_form ≡ Some r
        → ((a : Actuators) → with_pyramid a r ≡ add a (pyramid p)) → Spans f s r.at rest k → ItemRead at k (pyramid p) rest
    unfolding item_at with_item with_pyramid
    pyramid_is at k p r rest o n e q h = (record { kind = Kind.Pyramid; row = r }, rw (o, n, e) refl, refl, refl, q, h)

    item_back : (e : Entry) (at k : ℕ) (rest : List Piece) → Spans f s at (entry e ++ rest) k → ItemRead at k e rest
    unfolding item_at with_item with_wheel with_thruster with_pyramid
    item_back (wheel w) at k rest h = go w.max_power_w refl
      where
        go : (l : Option Float) → w.max_power_w ≡ l → ItemRead at k (wheel w) rest
        go None q =
            let h' : Spans f s at (lit (bytes "  (wheel") ∷ nums (floats 3 w.axis) (num w.max_torque_nm ∷ num w.max_momentum_nms ∷ non ∷ lit (bytes ")") ∷ rest)) k = rw q at h in
            let r = limit_none f s L (get_or w.axis 0 nan ∷ get_or w.axis 1 nan ∷ get_or w.axis 2 nan ∷ w.max_torque_nm ∷ w.max_momentum_nms ∷ []) at k (bytes "  (wheel") (bytes ")") rest h' in
            wheel_is at k w _ rest r.1 (λ a. rw q) r.2
        go (Some x) q =
            let h' : Spans f s at (lit (bytes "  (wheel") ∷ nums (floats 3 w.axis) (num w.max_torque_nm ∷ num w.max_momentum_nms ∷ num x ∷ lit (bytes ")") ∷ rest)) k = rw q at h in
            let r = limit_at_law f s L (get_or w.axis 0 nan ∷ get_or w.axis 1 nan ∷ get_or w.axis 2 nan ∷ w.max_torque_nm ∷ w.max_momentum_nms ∷ []) x at k (bytes "  (wheel") 41 [] rest (λ e. omega (arith, e)) h' in
            wheel_is at k w _ rest r.1 (λ a. rw q) r.2
    item_back (thruster t) at k rest h =
        let r = line_back f s L (get_or t.torque_axis 0 nan ∷ get_or t.torque_axis 1 nan ∷ get_or t.torque_axis 2 nan ∷ t.max_torque_nm ∷ []) at k (bytes "  (thruster") 41 [] rest (λ e. omega (arith, e)) h in
        let o = line_no at wheel_form (clash s at (bytes "  (thruster") (bytes "  (wheel") 3 (omega arith) (omega arith) (λ e. omega (arith, e)) h.1.0) in
        thruster_is at k t _ rest o r.1 (λ a. refl) r.2
    item_back (pyramid p) at k rest h =
        let r = line_back f s L (p.skew_rad ∷ p.wheel_momentum_nms ∷ p.max_gimbal_rate_rad_s ∷ p.singularity_eps ∷ []) at k (bytes "  (cmg") 41 [] rest (λ e. omega (arith, e)) h in
        let o = line_no at wheel_form (clash s at (bytes "  (cmg") (bytes "  (wheel") 3 (omega arith) (omega arith) (λ e. omega (arith, e)) h.1.0) in
        let o₂ = line_no at thruster_form (clash s at (bytes "  (cmg") (bytes "  (thruster") 3 (omega arith) (omega arith) (λ e. omega (arith, e)) h.1.0) in
        pyramid_is at k p _ rest o o₂ r.1 (λ a. refl) r.2

  abbrev ItemFound : ℕ → Item → Type 0
  ItemFound at i =
      (e : Entry)
      × (place_of i.kind ≡ kind e)
      × (least_after i.kind ≡ next e)
      × ((a : Actuators) → with_item a i ≡ add a e)
      × ((rest : List Piece) (k : ℕ) → Spans f s i.row.at rest k → Spans f s at (entry e ++ rest) k)

  axis_of : List Float → List Float
  axis_of v = Lists.at v 0 ∷ Lists.at v 1 ∷ Lists.at v 2 ∷ []

  item_forth : (at : ℕ) (i : Item) → item_at f s at ≡ Some i → ItemFound at i
  unfolding item_at with_item with_wheel with_thruster with_pyramid axis_of
  item_forth at i h =
      go (line_at f s at wheel_form) (line_at f s at thruster_form) (line_at f s at pyramid_form) refl refl refl
    where
      go : (a b c : Option Row) → line_at f s at wheel_form ≡ a → line_at f s at thruster_form ≡ b → line_at f s at pyramid_form ≡ c → ItemFound at i
      go (Some w) b c p q r =
          rw (← some_is (rw p at h)) (
            wheel (record { axis = axis_of w.v; max_torque_nm = Lists.at w.v 3; max_momentum_nms = Lists.at w.v 4; max_power_w = w.limit }),
            refl,
            refl,
            (λ a. refl),
            λ rest k t. limit_forth f s 5 at (bytes "  (wheel") (bytes ")") w (omega arith) p rest k t,
          )
      go None (Some w) c p q r =
          rw (← some_is (rw (p, q) at h))
          (thruster (record { torque_axis = axis_of w.v; max_torque_nm = Lists.at w.v 3 }), refl, refl, (λ a. refl), λ rest k t. line_forth f s 4 at (bytes "  (thruster") (bytes ")") w (omega arith) q rest k t)
      go None None (Some w) p q r =
          rw (← some_is (rw (p, q, r) at h)) (
            pyramid (record { skew_rad = Lists.at w.v 0; wheel_momentum_nms = Lists.at w.v 1; max_gimbal_rate_rad_s = Lists.at w.v 2; singularity_eps = Lists.at w.v 3 }),
            refl,
            refl,
            (λ a. refl),
            λ rest k t. line_forth f s 4 at (bytes "  (cmg") (bytes ")") w (omega arith) r rest k t,
          )
      go None None None p q r = none_some (rw (p, q, r) at h)

  -- ---- the lines of the list

  abbrev pub run : ℕ → Listing → Listing
  run zero c = c
  run (suc n) c = run n (turn f s 0 c)

  run_turn : (n : ℕ) (c : Listing) → turn f s n (run n c) ≡ run n (turn f s 0 c)
  run_turn zero c = refl
  run_turn (suc n) c = run_turn n (turn f s 0 c)

  pub run_is : (n : ℕ) (c : Listing) → iter (turn f s) c n ≡ run n c
  unfolding iter
  run_is zero c = refl
  run_is (suc n) c = ap (turn f s n) (run_is n c) ∙ run_turn n c

  pub run_stays : (n : ℕ) (c : Listing) → c.unclosed ≡ false → run n c ≡ c
  run_stays zero c h = refl
  run_stays (suc n) c h = let e : turn f s 0 c ≡ c = rw h in ap (run n) e ∙ run_stays n c h

  abbrev open_at : ℕ → ℕ → ℕ → Actuators → Listing
  open_at line at least a = record { fate = going; unclosed = true; line = line; at = at; least = least; actuators = a }

  abbrev ends : ℕ → ℕ → ℕ → Actuators → Listing
  ends line at least a = record { fate = going; unclosed = false; line = line; at = at; least = least; actuators = a }

  close_more : (line at least : ℕ) (a : Actuators) → is_at s at (bytes "\n") ≡ true → close_at s line at least a ≡ open_at (line + 1) (at + 1) least a
  unfolding close_at
  close_more line at least a h = rw h

  close_end : (line at least : ℕ) (a : Actuators) → is_at s at (bytes "))\n") ≡ true → at + 3 ≡ length s → close_at s line at least a ≡ ends (line + 1) (at + 3) least a
  unfolding close_at end_at
  close_end line at least a h e = rw (clash s at (bytes "))\n") (bytes "\n") 0 (omega arith) (omega arith) (λ e. omega (arith, e)) h, h, le-ltb (at + 3) (length s) (omega arith))

  next_is : (line at least k n : ℕ) (a b : Actuators) (i : Item) → item_at f s at ≡ Some i → place_of i.kind ≡ k → least ≤ k → least_after i.kind ≡ n → with_item a i ≡ b → next_line f s (open_at line at least a) ≡ close_at s line i.row.at n b
  unfolding next_line
  next_is line at least k n a b i e p l q w = rw (e, w, p, le-ltb k least l, q)

  module _ (L : Lawful f) where
    abbrev tail : List Piece
    tail = lit (bytes "))\n") ∷ []

    abbrev Closed : Listing → Actuators → Type 0
    Closed c a = (c.fate ≡ going) × (c.unclosed ≡ false) × (c.actuators ≡ a)

    -- no more lines than bytes
    pub counted : (es : List Entry) (at k : ℕ) → Spans f s at (entries es tail) k → at + length es ≤ k
    counted [] at k h = let z = onward f L s tail at k h in omega arith
    counted (e ∷ es) at k h =
        let r = parts f s (entry e) (entries es tail) h.0 k h.2 in
        omega (arith, h.1.1, onward f L s (entry e) h.0 r.0 r.1, counted es r.0 k r.2)

    pub close_back : (es : List Entry) (n line at least : ℕ) (a : Actuators) → Sorted least es → length es ≤ n → Spans f s at (entries es tail) (length s) → Closed (run n (close_at s line at least a)) (adds a es)
    close_back [] n line at least a o l h =
        let e : at + 3 ≡ length s = sym h.1.1 ∙ h.2 in
        rw (close_end line at least a h.1.0 e, run_stays n (ends (line + 1) (at + 3) least a) refl) (refl, refl, refl)
    close_back (e ∷ es) zero line at least a o l h = absurd (omega arith)
    close_back (e ∷ es) (suc n) line at least a o l h =
        let i : Spans f s (at + 1) (entry e ++ entries es tail) (length s) = subst (λ (i : ℕ). Spans f s i (entry e ++ entries es tail) (length s)) h.1.1 h.2 in
        let r = item_back L e (at + 1) (length s) (entries es tail) i in
        let c : close_at s line at least a ≡ open_at (line + 1) (at + 1) least a = close_more line at least a h.1.0 in
        let m : next_line f s (open_at (line + 1) (at + 1) least a) ≡ close_at s (line + 1) r.0.row.at (next e) (add a e) =
        next_is (line + 1) (at + 1) least (kind e) (next e) a (add a e) r.0 r.1 r.2 o.0 r.3 (r.4 a) in
        subst (λ (x : Listing). Closed (run n x) (adds (add a e) es)) (sym (ap (turn f s 0) c ∙ m)) (close_back es n (line + 1) r.0.row.at (next e) (add a e) o.1 (omega arith) r.5)

  -- ---- the other way

  never : {n place : ℕ} {A : Type 0} → Err (refusal n place) ≡ going → A
  never e = let z : ◌≡◌ {A = ℕ} 0 1 = cc in absurd (omega arith)

  unclosed_not : {A : Type 0} → true ≡ false → A
  unclosed_not e = let z : ◌≡◌ {A = ℕ} 0 1 = cc in absurd (omega arith)

  abbrev Read : ℕ → ℕ → Actuators → Actuators → Type 0
  Read at least a b = (es : List Entry) × (Sorted least es) × (b ≡ adds a es) × (Spans f s at (entries es (lit (bytes "))\n") ∷ [])) (length s))

  refused_stays : (n line at least : ℕ) (a : Actuators) → (run n (wrong_line line at least a)).fate ≡ going → ⊥
  refused_stays n line at least a h = never (ap (λ (c : Listing). c.fate) (sym (run_stays n (wrong_line line at least a) refl)) ∙ h)

  -- a line that is wrong, or the end
  end_forth : (n line at least : ℕ) (a : Actuators) → is_at s at (bytes "\n") ≡ false → (run n (close_at s line at least a)).fate ≡ going → Read at least a (run n (close_at s line at least a)).actuators
  unfolding close_at end_at
  end_forth n line at least a q h = go (is_at s at (bytes "))\n")) (ltb (at + 3) (length s)) refl refl
    where
      go : (b c : Bool) → is_at s at (bytes "))\n") ≡ b → ltb (at + 3) (length s) ≡ c → Read at least a (run n (close_at s line at least a)).actuators
      go false c i l = absurd (refused_stays n line at least a (rw (q, i) at h))
      go true true i l = absurd (refused_stays n (line + 1) (at + 3) least a (rw (q, i, l) at h))
      go true false i l =
          let z = within s at (bytes "))\n") i in
          let y = ltb-false (at + 3) (length s) l in
          rw (q, i, l, run_stays n (ends (line + 1) (at + 3) least a) refl) ([], tt, refl, (at + 3, (i, refl), omega arith))

  next_none : (line at least : ℕ) (a : Actuators) → item_at f s at ≡ None → next_line f s (open_at line at least a) ≡ wrong_line line at least a
  unfolding next_line
  next_none line at least a e = rw e refl

  next_wrong : (line at least : ℕ) (a : Actuators) (i : Item) → item_at f s at ≡ Some i → place_of i.kind < least → next_line f s (open_at line at least a) ≡ wrong_line line at least a
  unfolding next_line
  next_wrong line at least a i e h = rw (e, lt-ltb _ _ h) refl

  abbrev Closes : ℕ → Type 0
  Closes n = (line at least : ℕ) (a : Actuators) → 0 < least → (run n (close_at s line at least a)).fate ≡ going → (run n (close_at s line at least a)).unclosed ≡ false → Read at least a (run n (close_at s line at least a)).actuators

  -- a line feed, an actuator, and what is read after it
  line_forth_more : (n line at least : ℕ) (a : Actuators) (x : Listing) (o : Item) → Closes n → is_at s at (bytes "\n") ≡ true → item_at f s (at + 1) ≡ Some o → ItemFound (at + 1) o → least ≤ place_of o.kind → next_line f s (open_at (line + 1) (at + 1) least a) ≡ x → (run n x).fate ≡ going → (run n x).unclosed ≡ false → Read at least a (run n x).actuators
  line_forth_more n line at least a x o ih q m i l d h u =
      let e = i.0 in
      let j = o.row.at in
      let k : least ≤ kind e = rw i.1 at l in
      let c : x ≡ close_at s (line + 1) j (next e) (add a e) = sym d ∙ next_is (line + 1) (at + 1) least (kind e) (next e) a (add a e) o m i.1 k i.2 (i.3 a) in
      let r = ih (line + 1) j (next e) (add a e) (next_pos e) (ap (λ (x : Listing). (run n x).fate) (sym c) ∙ h) (ap (λ (x : Listing). (run n x).unclosed) (sym c) ∙ u) in
      (e ∷ r.0, (k, r.1), ap (λ (x : Listing). (run n x).actuators) c ∙ r.2, (at + 1, (q, refl), i.4 (entries r.0 (lit (bytes "))\n") ∷ [])) (length s) r.3))

  -- a line that is wrong goes on to no more
  line_wrong : (n line at least : ℕ) (a : Actuators) (x : Listing) {A : Type 0} → next_line f s (open_at (line + 1) (at + 1) least a) ≡ wrong_line (line + 1) (at + 1) least a → next_line f s (open_at (line + 1) (at + 1) least a) ≡ x → (run n x).fate ≡ going → A
  line_wrong n line at least a x e d h =
      let c : x ≡ wrong_line (line + 1) (at + 1) least a = sym d ∙ e in
      absurd (refused_stays n (line + 1) (at + 1) least a (ap (λ (x : Listing). (run n x).fate) (sym c) ∙ h))

  line_forth_by : (n line at least : ℕ) (a : Actuators) (x : Listing) (o : Option Item) → item_at f s (at + 1) ≡ o → Closes n → 0 < least → is_at s at (bytes "\n") ≡ true → next_line f s (open_at (line + 1) (at + 1) least a) ≡ x → (run n x).fate ≡ going → (run n x).unclosed ≡ false → Read at least a (run n x).actuators
  line_forth_by n line at least a x None e ih p q d h u = line_wrong n line at least a x (next_none (line + 1) (at + 1) least a e) d h
  line_forth_by n line at least a x (Some i) e ih p q d h u = go (ltb (place_of i.kind) least) refl
    where
      go : (b : Bool) → ltb (place_of i.kind) least ≡ b → Read at least a (run n x).actuators
      go true l = line_wrong n line at least a x (next_wrong (line + 1) (at + 1) least a i e (ltb-true _ _ l)) d h
      go false l = line_forth_more n line at least a x i ih q e (item_forth (at + 1) i e) (ltb-false _ _ l) d h u

  pub close_forth : (n : ℕ) → Closes n
  close_forth zero line at least a p h u = go (is_at s at (bytes "\n")) refl
    where
      go : (b : Bool) → is_at s at (bytes "\n") ≡ b → Read at least a (run 0 (close_at s line at least a)).actuators
      go true q = unclosed_not (rw (close_more line at least a q) at u)
      go false q = end_forth 0 line at least a q h
  close_forth (suc n) line at least a p h u = go (close_forth n) (is_at s at (bytes "\n")) refl
    where
      go : Closes n → (b : Bool) → is_at s at (bytes "\n") ≡ b → Read at least a (run (suc n) (close_at s line at least a)).actuators
      go ih true q =
          let c = close_more line at least a q in
          rw c (line_forth_by n line at least a (next_line f s (open_at (line + 1) (at + 1) least a)) (item_at f s (at + 1)) refl ih p q refl (rw c at h) (rw c at u))
      go ih false q = end_forth (suc n) line at least a q h
