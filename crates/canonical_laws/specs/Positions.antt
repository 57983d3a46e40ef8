-- What stands at a position, in parts. Assumes nothing.
use Rattle.std.specs.Prelude.{ℕ, zero, suc, ◌+◌, ◌≤◌, ◌<◌, ◌≡◌, refl, Bool, true, false, ◌&&◌, List, [], ◌∷◌, ◌++◌, ltb, eqb, length, get_or, Option, Some, None}
use Rattle.std.proofs.Common.{ap, arith, add-zero, zero-add, lt_of_not-le, sym, length-append, ext_get_or, eq-eqb, eqb-true, lt-ltb, le-leb, leb-true}
use Rattle.std.proofs.Math.ListN.{get_or-eq_default}
use Rattle.std.proofs.Math.Seq.{append_snoc, get_or-append_seam}
use Rattle.text.specs.Lines.{is_at}

-- ---- answers

pub none_some : {A B : Type 0} {x : A} → None ≡ Some x → B
none_some e = let z : ◌≡◌ {A = ℕ} 0 1 = cc in absurd (omega arith)

pub some_is : {A : Type 0} {x y : A} → Some x ≡ Some y → x ≡ y
some_is e = cc

pub some_pair : {A B : Type 0} {a c : A} {b d : B} → ◌≡◌ {A = Option (A × B)} (Some (a, b)) (Some (c, d)) → (a ≡ c) × (b ≡ d)
some_pair {A} {B} e = let p = some_is e in (ap (λ (q : A × B). q.0) p, ap (λ (q : A × B). q.1) p)

-- ---- bytes

pub both : (a b : Bool) → (a && b) ≡ true → (a ≡ true) × (b ≡ true)
both true b e = (refl, e)
both false b e = let z : ◌≡◌ {A = ℕ} 0 1 = cc in absurd (omega arith)

-- what stands first, and what stands after it
pub is_at_cons : (s : List ℕ) (at c : ℕ) (t : List ℕ) → is_at s at (c ∷ t) ≡ true → (get_or s at 0 ≡ c) × (is_at s (at + 1) t ≡ true)
unfolding is_at
is_at_cons s at c t h =
    let p = both (ltb at (length s)) (eqb (get_or s at 0) c && is_at s (at + 1) t) h in
    let q = both (eqb (get_or s at 0) c) (is_at s (at + 1) t) p.1 in
    (eqb-true _ _ q.0, q.1)

-- where a blank stands, the text has not ended
pub blank_within : (s : List ℕ) (i : ℕ) → get_or s i 0 ≡ 32 → i < length s
blank_within s i h = lt_of_not-le (λ (g : length s ≤ i). let z : get_or s i 0 ≡ 0 = get_or-eq_default s 0 g in omega arith)

shift : (at n : ℕ) → at + 1 + n ≡ at + suc n
shift at n = omega arith

pub within : (s : List ℕ) (at : ℕ) (w : List ℕ) → is_at s at w ≡ true → at + length w ≤ length s
unfolding is_at
within s at [] h = let z = leb-true at (length s) h in omega arith
within s at (c ∷ w) h = let z = within s (at + 1) w (is_at_cons s at c w h).1 in omega arith

pub start : (s : List ℕ) (at c : ℕ) (w : List ℕ) → at < length s → get_or s at 0 ≡ c → is_at s (at + 1) w ≡ true → is_at s at (c ∷ w) ≡ true
unfolding is_at
start s at c w l e h = simp (lt-ltb _ _ l, eq-eqb _ _ e, h)

pub nothing : (s : List ℕ) (at : ℕ) → at ≤ length s → is_at s at [] ≡ true
unfolding is_at
nothing s at l = le-leb at (length s) l

pub split : (s : List ℕ) (at : ℕ) (u w : List ℕ) → is_at s at (u ++ w) ≡ true → (is_at s at u ≡ true) × (is_at s (at + length u) w ≡ true)
split s at [] w h = (nothing s at (let z = within s at w h in omega arith), rw add-zero h)
split s at (c ∷ u) w h =
    let g = is_at_cons s at c (u ++ w) h in
    let r = split s (at + 1) u w g.1 in
    let l = within s at (c ∷ (u ++ w)) h in
    (start s at c u (omega arith) g.0 r.0, rw (← shift at (length u)) r.1)

pub join : (s : List ℕ) (at : ℕ) (u w : List ℕ) → is_at s at u ≡ true → is_at s (at + length u) w ≡ true → is_at s at (u ++ w) ≡ true
join s at [] w h k = rw add-zero at k
join s at (c ∷ u) w h k =
    let g = is_at_cons s at c u h in
    let l = within s at (c ∷ u) h in
    start s at c (u ++ w) (omega arith) g.0 (join s (at + 1) u w g.1 (rw (shift at (length u)) k))

pub byte : (s : List ℕ) (at : ℕ) (w : List ℕ) → is_at s at w ≡ true → (k : ℕ) → k < length w → get_or s (at + k) 0 ≡ get_or w k 0
byte s at [] h k l = absurd (omega arith)
byte s at (c ∷ w) h zero l = rw add-zero (is_at_cons s at c w h).0
byte s at (c ∷ w) h (suc k) l = rw (← shift at k) (byte s (at + 1) w (is_at_cons s at c w h).1 k (omega arith))

-- a text that stands whole in another of its length is that text
pub whole : (s t : List ℕ) → is_at s 0 t ≡ true → length t ≡ length s → s ≡ t
whole s t h e = ext_get_or 0 s t (sym e) (λ i l. rw zero-add at (byte s 0 t h i (omega arith)))

-- a text stands whole in itself
here_from : (t u : List ℕ) → is_at (u ++ t) (length u) t ≡ true
here_from [] u = nothing (u ++ []) (length u) (omega (arith, length-append u []))
here_from (c ∷ t) u =
    let e : u ++ (c ∷ []) ++ t ≡ u ++ c ∷ t = append_snoc u c t in
    let l : length (u ++ (c ∷ [])) ≡ length u + 1 = length-append u (c ∷ []) in
    start (u ++ c ∷ t) (length u) c t (omega (arith, length-append u (c ∷ t))) (get_or-append_seam u c t 0) (rw (e, l) at (here_from t (u ++ (c ∷ []))))

pub here : (t : List ℕ) → is_at t 0 t ≡ true
here t = here_from t []
