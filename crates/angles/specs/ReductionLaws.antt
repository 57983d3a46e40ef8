-- A signed number's nearest whole number of quarters and its rest, from those of its size. Assumes nothing.
use Rattle.std.specs.Prelude.{◌≡◌, ℕ, zero, suc, ◌+◌, ◌-◌, ◌*◌, ◌/◌, ◌%◌, ◌^◌, ◌<◌, ◌≤◌, Bool, true, false, cond, not, ℤ, pos, negsuc, ◌+ℤ◌, ◌*ℤ◌, neg_ℤ, refl, Float}
use Rattle.std.proofs.Common.{sym, ap, ◌∙◌, div-add-mod', mod-lt, arith, lit<, le-ltb, lt-ltb}
use Rattle.std.proofs.Math.Nat.{div-eq_of_lt}
use Rattle.std.proofs.Math.Decide.{dec_le}
use Rattle.std.proofs.Math.IntN.{neg_ℤ-+ℤ, neg_ℤ-neg_ℤ, +ℤ_comm, +ℤ_one}
use Rattle.std.specs.Int.Signed.{shr_z}
use Rattle.std.proofs.Math.Arith.{digits_div}
use Rattle.std.specs.Float.Ieee.{unlike}
use Rattle.angles.specs.Angles.{signed, Q, scaled, quarters, rest, mod4}
use Rattle.angles.specs.SizesInner.{TurnOf, Reduced}
use Rattle.angles.specs.SeriesLaws.{mul_signed, sub_signed, negated}

-- n / m is q where n is q * m and a rest below m
divides : (n m q r : ℕ) → n ≡ q * m + r → r < m → n / m ≡ q
divides n m q r e h = ap (λ (x : ℕ). x / m) e ∙ digits_div q h

up_quarters : (y k u : ℕ) (b : Bool) → TurnOf y k u b → (y + y + Q) / (2 * Q) ≡ k
up_quarters y k u false t = divides (y + y + Q) (2 * Q) k (2 * u + Q) (omega arith) (omega arith)
up_quarters y k u true t = divides (y + y + Q) (2 * Q) k (Q - 2 * u) (omega arith) (omega arith)

-- no size at all is no quarter
none : (k u : ℕ) (b : Bool) → TurnOf 0 k u b → k ≡ 0
none k u false t = omega arith
none k u true t = omega arith

few : (n k u : ℕ) (b : Bool) → suc (suc (n + n)) ≤ Q → TurnOf (suc n) k u b → k ≡ 0
few n k u false h t = omega arith
few n k u true h t = omega arith

some : (n u : ℕ) (b : Bool) → Q < suc (suc (n + n)) → TurnOf (suc n) 0 u b → ⊥
some n u false h t = omega arith
some n u true h t = omega arith

down_by : (n k u : ℕ) (b : Bool) → Q < suc (suc (n + n)) → TurnOf (suc n) (suc k) u b → (suc (suc (n + n)) - suc Q) / (2 * Q) ≡ k
down_by n k u false h t = divides (suc (suc (n + n)) - suc Q) (2 * Q) k (Q + 2 * u - 1) (omega arith) (omega arith)
down_by n k u true h t = divides (suc (suc (n + n)) - suc Q) (2 * Q) k (Q - 2 * u - 1) (omega arith) (omega arith)

abbrev picked : Bool → ℕ → ℤ
picked t n = shr_z (cond t (negsuc (suc (suc (n + n)) - suc Q)) (pos (Q - suc (suc (n + n))))) (2 * Q)

down_quarters : (n k u : ℕ) (b : Bool) → TurnOf (suc n) k u b → quarters (negsuc n) ≡ neg_ℤ (pos k)
unfolding quarters
down_quarters n k u b t = go (dec_le (suc (suc (n + n))) Q)
  where
    over : (k : ℕ) → Q < suc (suc (n + n)) → TurnOf (suc n) k u b → negsuc ((suc (suc (n + n)) - suc Q) / (2 * Q)) ≡ neg_ℤ (pos k)
    over zero h t = absurd (some n u b h t)
    over (suc k) h t = ap negsuc (down_by n k u b h t)

    small : suc (suc (n + n)) ≤ Q → (Q - suc (suc (n + n))) / (2 * Q) ≡ 0
    small h = div-eq_of_lt (go2 h)
      where
        go2 : suc (suc (n + n)) ≤ Q → Q - suc (suc (n + n)) < 2 * Q
        go2 h = omega arith

    go : Dec (suc (suc (n + n)) ≤ Q) → quarters (negsuc n) ≡ neg_ℤ (pos k)
    go (yes h) = ap (λ (z : Bool). picked z n) (le-ltb Q (suc (suc (n + n))) h) ∙ ap pos (small h) ∙ ap (λ (x : ℕ). neg_ℤ (pos x)) (sym (few n k u b h t))
    go (no h) =
        let l : Q < suc (suc (n + n)) = omega arith in
        ap (λ (z : Bool). picked z n) (lt-ltb Q (suc (suc (n + n))) l) ∙ over k l t

quarters_is : (s : Bool) (y k u : ℕ) (b : Bool) → TurnOf y k u b → quarters (signed s y) ≡ signed s k
unfolding quarters
quarters_is false y k u b t = ap pos (up_quarters y k u b t)
quarters_is true zero k u b t = ap (λ (x : ℕ). neg_ℤ (pos x)) (sym (none k u b t))
quarters_is true (suc n) k u b t = down_quarters n k u b t

-- ---- the rest

pub sub_under : (s : Bool) (a b : ℕ) → a ≤ b → signed s a +ℤ neg_ℤ (signed s b) ≡ signed (not s) (b - a)
sub_under s a b h =
    +ℤ_comm (signed s a) (neg_ℤ (signed s b))
    ∙ ap (λ (z : ℤ). neg_ℤ (signed s b) +ℤ z) (sym (neg_ℤ-neg_ℤ (signed s a)))
    ∙ sym (neg_ℤ-+ℤ (signed s b) (neg_ℤ (signed s a)))
    ∙ ap neg_ℤ (sub_signed s b a h)
    ∙ sym (negated s (b - a))

pub unlike_false : (s : Bool) → unlike s false ≡ s
unlike_false false = refl
unlike_false true = refl

unlike_true : (s : Bool) → unlike s true ≡ not s
unlike_true false = refl
unlike_true true = refl

rest_is : (s : Bool) (y k u : ℕ) (b : Bool) → TurnOf y k u b → rest (signed s y) ≡ signed (unlike s b) u
unfolding rest
rest_is s y k u b t =
    ap (λ (z : ℤ). signed s y +ℤ neg_ℤ (z *ℤ pos Q)) (quarters_is s y k u b t)
    ∙ ap (λ (z : ℤ). signed s y +ℤ neg_ℤ z) (mul_signed s false k Q ∙ ap (λ (x : Bool). signed x (k * Q)) (unlike_false s))
    ∙ go b t
  where
    over : TurnOf y k u false → y - k * Q ≡ u
    over t = omega arith

    over' : TurnOf y k u false → k * Q ≤ y
    over' t = omega arith

    under : TurnOf y k u true → k * Q - y ≡ u
    under t = omega arith

    under' : TurnOf y k u true → y ≤ k * Q
    under' t = omega arith

    go : (b : Bool) → TurnOf y k u b → signed s y +ℤ neg_ℤ (signed s (k * Q)) ≡ signed (unlike s b) u
    go false t = sub_signed s y (k * Q) (over' t) ∙ ap (signed s) (over t) ∙ ap (λ (x : Bool). signed x u) (sym (unlike_false s))
    go true t = sub_under s y (k * Q) (under' t) ∙ ap (signed (not s)) (under t) ∙ ap (λ (x : Bool). signed x u) (sym (unlike_true s))

-- ---- modulo 4

mod4_neg : (k : ℕ) → mod4 (neg_ℤ (pos k)) ≡ (4 - k % 4) % 4
unfolding mod4
mod4_neg zero = refl
mod4_neg (suc n) = omega arith

-- the next of the ring
pub mod4_next : (z : ℤ) → mod4 (z +ℤ pos 1) ≡ (mod4 z + 1) % 4
unfolding mod4
mod4_next (pos n) = omega arith
mod4_next (negsuc zero) = refl
mod4_next (negsuc (suc n)) = ap mod4 (+ℤ_one (negsuc (suc n))) ∙ go n
  where
    go : (n : ℕ) → 3 - n % 4 ≡ (3 - suc n % 4 + 1) % 4
    go n = omega arith

pub mod4_small : (z : ℤ) → mod4 z < 4
unfolding mod4
mod4_small (pos n) = omega arith
mod4_small (negsuc n) = omega arith

-- ---- every rest is below an eighth turn in size

turn_small : (y k u : ℕ) (b : Bool) → TurnOf y k u b → u < 2 ^ 60
turn_small y k u false t = omega arith
turn_small y k u true t = omega arith

abbrev Turned : ℕ → Type 0
Turned y = (k : ℕ) × (u : ℕ) × (b : Bool) × TurnOf y k u b

turn_of_law : (y : ℕ) → Turned y
turn_of_law y = go (y / Q) (y % Q) (div-add-mod' y Q) (mod-lt y (lit< tt)) (dec_le (2 * (y % Q)) Q)
  where
    go : (k r : ℕ) → k * Q + r ≡ y → r < Q → Dec (2 * r ≤ Q) → Turned y
    go k r e h (yes l) = (k, r, false, (omega arith, sym e))
    go k r e h (no l) = (k + 1, Q - r, true, (omega arith, omega arith))

pub record Small (z : ℤ) : Type 0 where
  pub negative : Bool
  pub size : ℕ
  pub is : z ≡ signed negative size
  pub small : size < 2 ^ 60

pub rest_small : (z : ℤ) → Small (rest z)
rest_small (pos n) = let t = turn_of_law n in record { negative = unlike false t.2; size = t.1; is = rest_is false n t.0 t.1 t.2 t.3; small = turn_small n t.0 t.1 t.2 t.3 }
rest_small (negsuc n) = let t = turn_of_law (suc n) in record { negative = unlike true t.2; size = t.1; is = rest_is true (suc n) t.0 t.1 t.2 t.3; small = turn_small (suc n) t.0 t.1 t.2 t.3 }

-- ---- the whole reduction, from the argument's sign and size

pub reduced_pos : (x : Float) (y k u : ℕ) (b : Bool) → scaled x ≡ signed false y → TurnOf y k u b → Reduced x (k % 4) b u
unfolding mod4
reduced_pos x y k u b e t =
    record {
      quarter = ap mod4 (sym (ap quarters e ∙ quarters_is false y k u b t));
      rests = sym (ap rest e ∙ rest_is false y k u b t ∙ like b);
      four = omega arith;
      small = turn_small y k u b t;
    }
  where
    like : (b : Bool) → signed (unlike false b) u ≡ signed b u
    like false = refl
    like true = refl

pub reduced_neg : (x : Float) (y k u : ℕ) (b : Bool) → scaled x ≡ signed true y → TurnOf y k u b → Reduced x ((4 - k % 4) % 4) (not b) u
reduced_neg x y k u b e t =
    record {
      quarter = sym (ap mod4 (ap quarters e ∙ quarters_is true y k u b t) ∙ mod4_neg k);
      rests = sym (ap rest e ∙ rest_is true y k u b t ∙ turned b);
      four = omega arith;
      small = turn_small y k u b t;
    }
  where
    turned : (b : Bool) → signed (unlike true b) u ≡ signed (not b) u
    turned false = refl
    turned true = refl
