-- Laws of the counts: what stands at each place, 0 past a row's controls, and at most 16. Assumes nothing.
use Prim.Native.Nat.{ℕ, zero, suc, ◌+◌, ◌<◌, ◌≤◌}
use Rattle.std.specs.Prelude.{◌≡◌, Bool, List, ltb, length, Float}
use Rattle.std.proofs.Math.Path.{refl}
use Rattle.std.proofs.Common.{subst, ◌∙◌, arith, ltb-true, ltb-false}
use Rattle.std.proofs.Math.Bool.{true, false, cond}
use Rattle.std.proofs.Math.ListN.{length-set, length-replicate, get_or-replicate}
use Rattle.std.proofs.Math.Seq.{get_or-set_same, get_or-set_other}
use Rattle.common.specs.Iter.{iter}
use Rattle.actuators.specs.Maps.{control_dim, is_sized, is_empty, gimbals}
use Rattle.actuators.specs.MapLaws.{sized_counts}
use Rattle.actuators.specs.declared.ActuatorMap.{ActuatorMap}
use Rattle.control_limits.specs.Limits.{changed}
use Rattle.control_rows.specs.Parts.{bare}
use Rattle.controls.specs.Controls.{rig_of}
use Rattle.held_counts.specs.Counts.{limit_in, control, count_turn, held_at, place_turn, held_counts, none_held, count_at_value}

-- ---- a map with a control at place i
module _ (m : ActuatorMap) (i : ℕ) where
  -- is sized
  pub held_sized : i < control_dim m → is_sized m ≡ true
  unfolding control_dim
  held_sized h = go (is_sized m) refl h
    where
      go : (b : Bool) → is_sized m ≡ b → i < cond b (cond (is_empty m) 3 (m.wheel_count + m.thruster_count + gimbals m.cmgs)) 0 → is_sized m ≡ true
      go true e h = e
      go false e h = absurd (omega arith)

  -- so its counts are within the tables
  pub held_tables : i < control_dim m → (m.wheel_count ≤ 8) × (m.thruster_count ≤ 12)
  held_tables h = sized_counts m (held_sized h)

  -- and with no actuators the place is one of three
  pub held_bare : i < control_dim m → bare (rig_of m) ≡ true → i < 3
  unfolding control_dim is_empty
  held_bare h e = rw (held_sized h, e) at h

-- ---- at most 16
pub count_most : (limit : Float) (c : ℕ) (z : List Float) (i n : ℕ) → iter (count_turn limit c z i) 0 n ≤ n
unfolding iter
count_most limit c z i zero = omega arith
count_most limit c z i (suc n) = go (changed limit (control c z n i)) (count_most limit c z i n)
  where
    go : (b : Bool) → iter (count_turn limit c z i) 0 n ≤ n → cond b (iter (count_turn limit c z i) 0 n + 1) (iter (count_turn limit c z i) 0 n) ≤ suc n
    go true h = omega arith
    go false h = omega arith

pub held_most : (limit : Float) (c : ℕ) (z : List Float) (i : ℕ) → held_at limit c z i ≤ 16
unfolding held_at
held_most limit c z i = count_most limit c z i 16

-- ---- what stands where
module _ (m : ActuatorMap) (box z : List Float) where
  turns_length : (n : ℕ) → length (iter (place_turn m box z) none_held n) ≡ 12
  unfolding iter
  turns_length zero = length-replicate {A = ℕ} 12 0
  turns_length (suc n) = length-set (iter (place_turn m box z) none_held n) n _ ∙ turns_length n

  turns_past : (n i : ℕ) → n ≤ i → count_at_value (iter (place_turn m box z) none_held n) i ≡ count_at_value none_held i
  unfolding iter
  turns_past zero i h = refl
  turns_past (suc n) i h = get_or-set_other (iter (place_turn m box z) none_held n) n i _ 0 (λ e. omega arith) ∙ turns_past n i (omega arith)

  turns_at : (n i : ℕ) → i < n → n ≤ 12 → count_at_value (iter (place_turn m box z) none_held n) i ≡ held_at (limit_in m box i) (control_dim m) z i
  unfolding iter
  turns_at zero i h r = absurd (omega arith)
  turns_at (suc n) i h r = go (ltb i n) (λ e. turns_at n i (ltb-true i n e) (omega arith)) (ltb-true i n) (ltb-false i n)
    where
      last : count_at_value (iter (place_turn m box z) none_held (suc n)) n ≡ held_at (limit_in m box n) (control_dim m) z n
      last = get_or-set_same (iter (place_turn m box z) none_held n) n _ 0 (rw (turns_length n) r)

      go : (b : Bool) → (b ≡ true → count_at_value (iter (place_turn m box z) none_held n) i ≡ held_at (limit_in m box i) (control_dim m) z i) → (b ≡ true → i < n) → (b ≡ false → n ≤ i) → count_at_value (iter (place_turn m box z) none_held (suc n)) i ≡ held_at (limit_in m box i) (control_dim m) z i
      go true o p q = let s : i < n = p refl in get_or-set_other (iter (place_turn m box z) none_held n) n i _ 0 (λ e. omega arith) ∙ o refl
      go false o p q = let s : n ≤ i = q refl in let e : n ≡ i = omega arith in subst (λ (j : ℕ). count_at_value (iter (place_turn m box z) none_held (suc n)) j ≡ held_at (limit_in m box j) (control_dim m) z j) e last

  -- AT A CONTROL'S PLACE stands the count of its 16 controls
  pub count_at : (i : ℕ) → i < control_dim m → control_dim m ≤ 12 → count_at_value (held_counts m box z) i ≡ held_at (limit_in m box i) (control_dim m) z i
  unfolding held_counts
  count_at i h r = turns_at (control_dim m) i h r

  -- PAST THE CONTROLS stands 0
  pub count_past : (i : ℕ) → control_dim m ≤ i → i < 12 → count_at_value (held_counts m box z) i ≡ 0
  unfolding held_counts
  count_past i h k = turns_past (control_dim m) i h ∙ get_or-replicate {A = ℕ} 12 i 0 0 k

  -- EACH IS AT MOST 16
  pub count_most_each : control_dim m ≤ 12 → (i : ℕ) → i < 12 → count_at_value (held_counts m box z) i ≤ 16
  count_most_each r i k = go (ltb i (control_dim m)) (ltb-true i (control_dim m)) (ltb-false i (control_dim m))
    where
      go : (b : Bool) → (b ≡ true → i < control_dim m) → (b ≡ false → control_dim m ≤ i) → count_at_value (held_counts m box z) i ≤ 16
      go true p q = rw (count_at i (p refl) r) (held_most (limit_in m box i) (control_dim m) z i)
      go false p q = rw (count_past i (q refl) k) (omega arith)
