-- What the table's test says: what is not refused is exactly a `Table`. Assumes nothing.
use Rattle.std.specs.Prelude.{ℕ, ◌*◌, ◌≤◌, ◌≡◌, refl, Bool, true, false, cond, List, ltb, eqb, length}
use Rattle.std.proofs.Common.{sym, arith, eqb-true, ltb-false, eq-eqb, ne_eqb, le-ltb}
use Rattle.std.proofs.lemmas.Bool.{eqb-false}
use Rattle.tile_order.specs.AnyLaws.{any_fails, any_not}
use Rattle.tile_order.specs.Tables.{time, longest, outside, any_outside, refused, Inside, Table}

-- a test that is false does not take the way that is true
first_false : (b x : Bool) → cond b true x ≡ false → b ≡ false
first_false true x e = e
first_false false x e = refl

then_false : (b x : Bool) → cond b true x ≡ false → x ≡ false
then_false b x e = rw (first_false b x e) at e

else_false : (b x : Bool) → cond b x true ≡ false → b ≡ true
else_false true x e = refl
else_false false x e = sym e

not_outside : (n : ℕ) (t : List ℕ) (i j : ℕ) → (i ≡ j → ⊥) → outside n t i j ≡ false → Inside n t i j
not_outside n t i j ne e =
    let f : cond (eqb (time n t i j) 0) true (ltb longest (time n t i j)) ≡ false = rw (ne_eqb i j ne) at e in
    let a : time n t i j ≡ 0 → ⊥ = eqb-false _ _ (first_false (eqb (time n t i j) 0) _ f) in
    let b : time n t i j ≤ longest = ltb-false _ _ (then_false (eqb (time n t i j) 0) _ f) in
    record { low = omega arith; high = b }

-- what is not refused is such a table
pub table : (n : ℕ) (t : List ℕ) → refused n t ≡ false → Table n t
table n t e =
    let f = then_false (eqb n 0) _ e in
    let g = then_false (ltb 10 n) _ f in
    let z : n ≡ 0 → ⊥ = eqb-false n 0 (first_false (eqb n 0) _ e) in
    let s : length t ≡ n * n = eqb-true _ _ (else_false (eqb (length t) (n * n)) _ g) in
    let h : any_outside n t ≡ false = rw (eq-eqb _ _ s) at g in
    record {
      some = omega arith;
      few = ltb-false 10 n (first_false (ltb 10 n) _ f);
      size = s;
      inside = λ i j a b ne. not_outside n t i j ne (any_fails _ j n b (any_fails _ i n a h));
    }

is_inside : (n : ℕ) (t : List ℕ) (i j : ℕ) → ((i ≡ j → ⊥) → Inside n t i j) → outside n t i j ≡ false
is_inside n t i j h = by (eqb i j) refl
  where
    by : (b : Bool) → eqb i j ≡ b → cond (eqb i j) false (cond (eqb (time n t i j) 0) true (ltb longest (time n t i j))) ≡ false
    by true e = rw e
    by false e =
        let r : Inside n t i j = h (eqb-false i j e) in
        rw (e, ne_eqb (time n t i j) 0 (omega arith), le-ltb longest (time n t i j) r.high)

-- such a table is not refused
pub table_taken : (n : ℕ) (t : List ℕ) → Table n t → refused n t ≡ false
table_taken n t r =
    rw (ne_eqb n 0 (omega arith), le-ltb 10 n r.few, eq-eqb (length t) (n * n) r.size)
    (any_not _ n (λ i a. any_not _ n (λ j b. is_inside n t i j (r.inside i j a b))))
