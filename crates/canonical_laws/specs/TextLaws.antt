-- A whole text is read as a problem exactly where the problem's pieces stand in it, from its first byte to its last. Assumes nothing.
use Rattle.std.specs.Prelude.{ℕ, zero, suc, ◌+◌, ◌-◌, ◌≤◌, ◌≡◌, Bool, ltb, eqb, get_or, set, replicate, Float, Option, Some, None, Ok, Err}
use Rattle.std.proofs.Common.{arith, sym, ◌∙◌, le-ltb, ltb-false, eqb-true, eq-eqb}
use Rattle.std.proofs.Math.Path.{refl, ap, subst}
use Rattle.std.proofs.Math.Bool.{true, false}
use mathlib.Core.List.{List, [], ◌∷◌, ◌++◌}
use Rattle.std.proofs.Math.ListN.{length}
use Rattle.std.proofs.lemmas.List.Edits.{sets}
use Rattle.std.specs.Float.Ieee.{nan, of_bits}
use Rattle.std.specs.Float.{binary64}
use Rattle.actuators.specs.declared.Wheel.{Wheel}
use Rattle.actuators.specs.declared.Thruster.{Thruster}
use Rattle.actuators.specs.declared.Actuators.{Actuators}
use Rattle.actuators.specs.Maps.{no_actuators}
use Rattle.problem.specs.declared.Problem.{Problem}
use Rattle.text.specs.declared.lines.Row.{Row}
use Rattle.text.specs.declared.lines.Words.TheVariants.{Any}
use Rattle.text.specs.Bytes.{bytes}
use Rattle.text.specs.Forms.{Form}
use Rattle.text.specs.Lines.{is_at, zeros, no_floats, LineForm, form, line_at}
use Rattle.problem_text.specs.declared.listing.Listing.{Listing}
use Rattle.problem_text.specs.declared.Found.{Found}
use Rattle.problem_text.specs.declared.Read.{Read}
use Rattle.problem_text.specs.Listing.{close_at, first_line, wrong_line, list_at_value}
use Rattle.problem_text.specs.Reader.{head_forms, wrong, pick_found, with_row, goes_on_value, next_line, lines_from, head_at_value, listed_by, with_list, next_list, judge_count, row, problem_of, found, read_of, read_in}
use Rattle.canonical_laws.specs.Pieces.{Piece, lit, Entry, nums, floats, limit, line, quat, weights, entries, momenta_of, listed, no_wheel, wheels_of, thrusters_of, actuators, pieces, packed, tidied}
use Rattle.canonical_laws.specs.FormLaws.{Lawful}
use Rattle.canonical_laws.specs.Spans.{Spans}
use Rattle.canonical_laws.specs.LineLaws.{good, line_back, any_back, line_forth, any_forth, any_row, line_nine, limit_none, limit_at_law, limit_forth, firsts_all, firsts_sets, firsts_length}
use Rattle.canonical_laws.specs.ListLaws.{adds, counted, run, run_is, run_stays, close_back, close_forth}
use Rattle.canonical_laws.specs.PackLaws.{adds_listed, sorted_listed, unlisted, packed_twice, packed_pieces}
use Rattle.actuators.specs.declared.CmgPyramid.{CmgPyramid}
use Rattle.common.specs.Refusals.{Fate, refusal, going}

-- ---- the pieces from each line on

abbrev from10 : Problem → List Piece
from10 p = actuators p.actuators

abbrev from9 : Problem → List Piece
from9 p = lit (bytes " (momenta") ∷ nums (momenta_of p.momenta) (lit (bytes ")\n") ∷ from10 p)

abbrev from8 : Problem → List Piece
from8 p = line (bytes " (tolerance") (p.norm_tolerance ∷ p.tie_tolerance ∷ []) (bytes ")\n") ++ from9 p

abbrev from7 : Problem → List Piece
from7 p = line (bytes " (weights") (weights p.weights) (bytes ")\n") ++ from8 p

abbrev from6 : Problem → Option Float → List Piece
from6 p l = lit (bytes " (slew") ∷ limit l ∷ lit (bytes ")\n") ∷ from7 p

abbrev from5 : Problem → List Piece
from5 p = line (bytes " (limit") (floats 3 p.torque_limit) (bytes ")\n") ++ from6 p p.slew

abbrev from4 : Problem → List Piece
from4 p = line (bytes " (inertia") (floats 9 p.inertia) (bytes ")\n") ++ from5 p

abbrev from3 : Problem → List Piece
from3 p = line (bytes " (qf") (quat p.qf) (bytes ")\n") ++ from4 p

abbrev from2 : Problem → List Piece
from2 p = line (bytes " (q0") (quat p.q0) (bytes ")\n") ++ from3 p

from1 : (f : Form) (s : List ℕ) (p : Problem) (k : ℕ) → Spans f s 0 (pieces p) k → Spans f s 0 (line (bytes "(problem") [] (bytes "\n") ++ from2 p) k
unfolding pieces
from1 f s p k h = h

to1 : (f : Form) (s : List ℕ) (p : Problem) (k : ℕ) → Spans f s 0 (line (bytes "(problem") [] (bytes "\n") ++ from2 p) k → Spans f s 0 (pieces p) k
unfolding pieces
to1 f s p k h = h

-- ---- the lines before the list, one after another

-- the rows so far, and the position after them
abbrev upto : ℕ → List Row → Found
upto at rows = record { fate = going; at = at; rows = rows; actuators = no_actuators }

never : {n place : ℕ} {A : Type 0} → Err (refusal n place) ≡ going → A
never e = let z : ◌≡◌ {A = ℕ} 0 1 = cc in absurd (omega arith)

module _ (f : Form) (s : List ℕ) where
  line_goes : (k at : ℕ) (rows : List Row) (l : LineForm) (ls : List LineForm) (r : Row) → line_at f s at l ≡ Some r
      → lines_from f s k (upto at rows) (l ∷ ls) ≡ lines_from f s (k + 1) (upto r.at (set rows (k - 1) r)) ls
  unfolding lines_from next_line with_row
  line_goes k at rows l ls r e = rw e

  lines_end : (k : ℕ) (c : Found) → lines_from f s k c [] ≡ c
  unfolding lines_from
  lines_end k c = refl

  -- a line that is not right ends the reading
  next_stays : (k number place : ℕ) (c : Found) (l : LineForm) → c.fate ≡ Err (refusal number place) → next_line f s k c l ≡ c
  unfolding next_line
  next_stays k number place c l h = ap (λ (x : Fate). goes_on_value x c (with_row c k (line_at f s c.at l))) h

  lines_stay : (k number place : ℕ) (c : Found) (ls : List LineForm) → c.fate ≡ Err (refusal number place) → (lines_from f s k c ls).fate ≡ Err (refusal number place)
  unfolding lines_from
  lines_stay k number place c [] h = h
  lines_stay k number place c (l ∷ ls) h = ap (λ (d : Found). (lines_from f s (k + 1) d ls).fate) (next_stays k number place c l h) ∙ lines_stay (k + 1) number place c ls h

  next_wrong : (k at : ℕ) (rows : List Row) (l : LineForm) → line_at f s at l ≡ None → next_line f s k (upto at rows) l ≡ wrong k
  unfolding next_line with_row
  next_wrong k at rows l h = rw h

  line_stops : (k at : ℕ) (rows : List Row) (l : LineForm) (ls : List LineForm) → line_at f s at l ≡ None → (lines_from f s k (upto at rows) (l ∷ ls)).fate ≡ Err (refusal 21 k)
  unfolding lines_from
  line_stops k at rows l ls h = ap (λ (d : Found). (lines_from f s (k + 1) d ls).fate) (next_wrong k at rows l h) ∙ lines_stay (k + 1) 21 k (wrong k) ls refl

  abbrev Went : ℕ → ℕ → List Row → LineForm → List LineForm → Type 0
  Went k at rows l ls =
      (r : Row) × (line_at f s at l ≡ Some r) × (lines_from f s k (upto at rows) (l ∷ ls) ≡ lines_from f s (k + 1) (upto r.at (set rows (k - 1) r)) ls)

  line_went : (k at : ℕ) (rows : List Row) (l : LineForm) (ls : List LineForm) → (lines_from f s k (upto at rows) (l ∷ ls)).fate ≡ going → Went k at rows l ls
  line_went k at rows l ls h = go (line_at f s at l) refl
    where
      go : (o : Option Row) → line_at f s at l ≡ o → Went k at rows l ls
      go (Some r) q = (r, q, line_goes k at rows l ls r q)
      go None q = never (sym (line_stops k at rows l ls q) ∙ h)

-- the nine rows
abbrev rows_of : Row → Row → Row → Row → Row → Row → Row → Row → Row → List Row
rows_of r1 r2 r3 r4 r5 r6 r7 r8 r9 = r1 ∷ r2 ∷ r3 ∷ r4 ∷ r5 ∷ r6 ∷ r7 ∷ r8 ∷ r9 ∷ []

-- the rows before any line is read
abbrev none : List Row
none = replicate 9 (no_floats 0)

-- the form of line k + 1
abbrev head_form : ℕ → LineForm
head_form k = get_or head_forms k (form [] Any [])

heads_are : (f : Form) (s : List ℕ) (r1 r2 r3 r4 r5 r6 r7 r8 r9 : Row)
    → line_at f s 0 (head_form 0) ≡ Some r1
    → line_at f s r1.at (head_form 1) ≡ Some r2
    → line_at f s r2.at (head_form 2) ≡ Some r3
    → line_at f s r3.at (head_form 3) ≡ Some r4
    → line_at f s r4.at (head_form 4) ≡ Some r5
    → line_at f s r5.at (head_form 5) ≡ Some r6
    → line_at f s r6.at (head_form 6) ≡ Some r7
    → line_at f s r7.at (head_form 7) ≡ Some r8
    → line_at f s r8.at (head_form 8) ≡ Some r9
    → lines_from f s 1 (upto 0 none) head_forms ≡ upto r9.at (rows_of r1 r2 r3 r4 r5 r6 r7 r8 r9)
heads_are f s r1 r2 r3 r4 r5 r6 r7 r8 r9 e1 e2 e3 e4 e5 e6 e7 e8 e9 =
    line_goes f s 1 0 _ _ _ r1 e1
    ∙ line_goes f s 2 r1.at _ _ _ r2 e2
    ∙ line_goes f s 3 r2.at _ _ _ r3 e3
    ∙ line_goes f s 4 r3.at _ _ _ r4 e4
    ∙ line_goes f s 5 r4.at _ _ _ r5 e5
    ∙ line_goes f s 6 r5.at _ _ _ r6 e6
    ∙ line_goes f s 7 r6.at _ _ _ r7 e7
    ∙ line_goes f s 8 r7.at _ _ _ r8 e8
    ∙ line_goes f s 9 r8.at _ _ _ r9 e9
    ∙ lines_end f s 10 _

-- eight of nine places
kept : (xs : List Float) → length xs ≤ 8 → floats 8 (sets zeros 0 xs) ≡ sets (replicate 8 (of_bits binary64 0)) 0 xs
kept [] l = refl
kept (a ∷ []) l = refl
kept (a ∷ b ∷ []) l = refl
kept (a ∷ b ∷ c ∷ []) l = refl
kept (a ∷ b ∷ c ∷ d ∷ []) l = refl
kept (a ∷ b ∷ c ∷ d ∷ e ∷ []) l = refl
kept (a ∷ b ∷ c ∷ d ∷ e ∷ f ∷ []) l = refl
kept (a ∷ b ∷ c ∷ d ∷ e ∷ f ∷ g ∷ []) l = refl
kept (a ∷ b ∷ c ∷ d ∷ e ∷ f ∷ g ∷ h ∷ []) l = refl
kept (a ∷ b ∷ c ∷ d ∷ e ∷ f ∷ g ∷ h ∷ i ∷ xs) l = absurd (omega arith)

-- the problem of rows that hold a problem's numbers
problem_is : (p : Problem) (a : Actuators) (r1 r2 r3 r4 r5 r6 r7 r8 r9 : Row)
    → r2.v ≡ sets zeros 0 (quat p.q0)
    → r3.v ≡ sets zeros 0 (quat p.qf)
    → r4.v ≡ sets zeros 0 (floats 9 p.inertia)
    → r5.v ≡ sets zeros 0 (floats 3 p.torque_limit)
    → r6.limit ≡ p.slew
    → r7.v ≡ sets zeros 0 (weights p.weights)
    → r8.v ≡ sets zeros 0 (p.norm_tolerance ∷ p.tie_tolerance ∷ [])
    → r9.v ≡ sets zeros 0 (momenta_of p.momenta)
    → r9.count ≡ p.momenta.count
    → p.momenta.count ≤ 8
    → packed (wheels_of p.actuators) (thrusters_of p.actuators) p.actuators.cmgs ≡ a
    → problem_of (rows_of r1 r2 r3 r4 r5 r6 r7 r8 r9) a ≡ tidied p
unfolding problem_of tidied
problem_is p a r1 r2 r3 r4 r5 r6 r7 r8 r9 e2 e3 e4 e5 e6 e7 e8 e9 n few w =
    let k = kept (momenta_of p.momenta) (omega (arith, firsts_length nan p.momenta.count 0 p.momenta.at)) in
    rw (e2, e3, e4, e5, e6, e7, e8, e9, n, k, w)

-- ---- what stands there is read
module _ (f : Form) (L : Lawful f) (s : List ℕ) where
  list_back : (a : Actuators) (at : ℕ) → length s ≤ 4096 → Spans f s at (actuators a) (length s)
      → ((list_at_value f s at).fate ≡ going) × ((list_at_value f s at).unclosed ≡ false) × ((list_at_value f s at).actuators ≡ packed (wheels_of a) (thrusters_of a) a.cmgs)
  unfolding actuators list_at_value first_line
  list_back a at m h =
      let es = listed (wheels_of a) (thrusters_of a) a.cmgs in
      let t : Spans f s (at + 11) (entries es (lit (bytes "))\n") ∷ [])) (length s) = subst (λ (i : ℕ). Spans f s i (entries es (lit (bytes "))\n") ∷ [])) (length s)) h.1.1 h.2 in
      let n = counted f s L es (at + 11) (length s) t in
      let c = close_back f s L es (length s) 10 (at + 11) 1 no_actuators (sorted_listed (wheels_of a) (thrusters_of a) a.cmgs) (omega arith) t in
      rw (le-ltb 4096 (length s) m, h.1.0, run_is f s (length s) (close_at s 10 (at + 11) 1 no_actuators)) (c.0, c.1, c.2 ∙ adds_listed (wheels_of a) (thrusters_of a) a.cmgs)

  -- a line with its limit
  slew_back : (l : Option Float) (at : ℕ) (p : Problem) → Spans f s at (from6 p l) (length s)
      → (r : Row) × (line_at f s at (head_form 5) ≡ Some r) × (r.limit ≡ l) × (Spans f s r.at (from7 p) (length s))
  slew_back None at p h = let r = limit_none f s L [] at (length s) (bytes " (slew") (bytes ")\n") (from7 p) h in (good r.0 0 zeros None, r.1, refl, r.2)
  slew_back (Some x) at p h = let r = limit_at_law f s L [] x at (length s) (bytes " (slew") 41 (10 ∷ []) (from7 p) (λ e. omega (arith, e)) h in (good r.0 1 (sets zeros 0 (x ∷ [])) (Some x), r.1, refl, r.2)

  read_is : (at : ℕ) (rows : List Row) (a : Actuators) → length s ≤ 4096 → lines_from f s 1 (upto 0 none) head_forms ≡ upto at rows → (list_at_value f s at).fate ≡ going → (list_at_value f s at).unclosed ≡ false → (list_at_value f s at).actuators ≡ a
      → judge_count (record { fate = going; at = (list_at_value f s at).at; rows = rows; actuators = a }) ≡ record { fate = going; at = (list_at_value f s at).at; rows = rows; actuators = a }
      → read_in f s ≡ record { fate = going; problem = problem_of rows a }
  unfolding read_in head_at_value read_of next_list with_list
  read_is at rows a m e p q w k = rw (le-ltb 4096 (length s) m, e, q, p, w, k)

  counted_right : (at : ℕ) (a : Actuators) (r1 r2 r3 r4 r5 r6 r7 r8 r9 : Row) → r9.count ≡ a.wheel_count
      → judge_count (record { fate = going; at = at; rows = rows_of r1 r2 r3 r4 r5 r6 r7 r8 r9; actuators = a }) ≡ record { fate = going; at = at; rows = rows_of r1 r2 r3 r4 r5 r6 r7 r8 r9; actuators = a }
  unfolding judge_count
  counted_right at a r1 r2 r3 r4 r5 r6 r7 r8 r9 h = rw (eq-eqb _ _ h)

  whole_is : (p : Problem) (r1 r2 r3 r4 r5 r6 r7 r8 r9 : Row) → length s ≤ 4096 → p.momenta.count ≤ 8 → p.momenta.count ≡ p.actuators.wheel_count
      → lines_from f s 1 (upto 0 none) head_forms ≡ upto r9.at (rows_of r1 r2 r3 r4 r5 r6 r7 r8 r9)
      → Spans f s r9.at (actuators p.actuators) (length s)
      → r9.count ≡ p.momenta.count
      → problem_of (rows_of r1 r2 r3 r4 r5 r6 r7 r8 r9) (packed (wheels_of p.actuators) (thrusters_of p.actuators) p.actuators.cmgs) ≡ tidied p
      → read_in f s ≡ record { fate = going; problem = tidied p }
  whole_is p r1 r2 r3 r4 r5 r6 r7 r8 r9 l few same e h n w =
      let a = p.actuators in
      let c = list_back a r9.at l h in
      let m : r9.count ≡ length (wheels_of a) = n ∙ same ∙ sym (firsts_length no_wheel a.wheel_count 0 a.wheels) in
      read_is r9.at (rows_of r1 r2 r3 r4 r5 r6 r7 r8 r9) (packed (wheels_of a) (thrusters_of a) a.cmgs) l e c.0 c.1 c.2 (counted_right _ _ r1 r2 r3 r4 r5 r6 r7 r8 r9 m)
      ∙ ap (λ (q : Problem). record { fate = going; problem = q }) w

  pub reads : (p : Problem) → length s ≤ 4096 → p.momenta.count ≤ 8 → p.momenta.count ≡ p.actuators.wheel_count → Spans f s 0 (pieces p) (length s) → read_in f s ≡ record { fate = going; problem = tidied p }
  reads p l few same h =
      let k = length s in
      let no : ◌≡◌ {A = ℕ} 41 32 → ⊥ = λ e. omega (arith, e) in
      let r1 = line_back f s L [] 0 k (bytes "(problem") 10 [] (from2 p) (λ e. omega (arith, e)) (from1 f s p k h) in
      let r2 = line_back f s L (quat p.q0) r1.0 k (bytes " (q0") 41 (10 ∷ []) (from3 p) no r1.2 in
      let r3 = line_back f s L (quat p.qf) r2.0 k (bytes " (qf") 41 (10 ∷ []) (from4 p) no r2.2 in
      let r4 = line_back f s L (floats 9 p.inertia) r3.0 k (bytes " (inertia") 41 (10 ∷ []) (from5 p) no r3.2 in
      let r5 = line_back f s L (floats 3 p.torque_limit) r4.0 k (bytes " (limit") 41 (10 ∷ []) (from6 p p.slew) no r4.2 in
      let r6 = slew_back p.slew r5.0 p r5.2 in
      let r7 = line_back f s L (weights p.weights) r6.0.at k (bytes " (weights") 41 (10 ∷ []) (from8 p) no r6.3 in
      let r8 = line_back f s L (p.norm_tolerance ∷ p.tie_tolerance ∷ []) r7.0 k (bytes " (tolerance") 41 (10 ∷ []) (from9 p) no r7.2 in
      let r9 = any_back f s L (momenta_of p.momenta) r8.0 k (bytes " (momenta") 41 (10 ∷ []) (from10 p) no r8.2 in
      let n = firsts_length nan p.momenta.count 0 p.momenta.at in
      whole_is p _ _ _ _ _ r6.0 _ _ _ l few same
      (heads_are f s _ _ _ _ _ r6.0 _ _ _ r1.1 r2.1 r3.1 r4.1 r5.1 r6.1 r7.1 r8.1 r9.1)
      r9.2
      n
      (problem_is p _ _ _ _ _ _ r6.0 _ _ _ refl refl refl refl r6.2 refl refl refl n few refl)

-- ---- what is read stands there

-- of eight kept places the first n
less : (n : ℕ) (v : List Float) → n ≤ 8 → floats n (floats 8 v) ≡ floats n v
less zero v l = refl
less (suc zero) v l = refl
less (suc (suc zero)) v l = refl
less (suc (suc (suc zero))) v l = refl
less (suc (suc (suc (suc zero)))) v l = refl
less (suc (suc (suc (suc (suc zero))))) v l = refl
less (suc (suc (suc (suc (suc (suc zero)))))) v l = refl
less (suc (suc (suc (suc (suc (suc (suc zero))))))) v l = refl
less (suc (suc (suc (suc (suc (suc (suc (suc zero)))))))) v l = refl
less (suc (suc (suc (suc (suc (suc (suc (suc (suc n))))))))) v l = absurd (omega arith)

-- what goes on past a fate
went_on : (x : Fate) (c d : Found) → c.fate ≡ x → (goes_on_value x c d).fate ≡ going → (x ≡ going) × (goes_on_value x c d ≡ d)
went_on (Ok _) c d e h = (refl, refl)
went_on (Err why) c d e h = never (sym e ∙ h)

picked : (b : Bool) (n : ℕ) (c : Found) → (pick_found b c (wrong n)).fate ≡ going → b ≡ true
picked true n c h = refl
picked false n c h = never h

passed : (b : Bool) (n : ℕ) (c : Found) → (pick_found b (wrong n) c).fate ≡ going → b ≡ false
passed true n c h = never h
passed false n c h = refl

listed_going : (x : Fate) (c : Found) (l : Listing) → (listed_by x c l).fate ≡ going → x ≡ going
listed_going (Ok _) c l h = refl
listed_going (Err why) c l h = never h

abbrev with_actuators : Found → Listing → Found
with_actuators c l = record { fate = going; at = l.at; rows = c.rows; actuators = l.actuators }

list_went : (c : Found) (l : Listing) → (with_list c l).fate ≡ going → (l.unclosed ≡ false) × (l.fate ≡ going) × (with_list c l ≡ with_actuators c l)
unfolding with_list
list_went c l h =
    let q = passed l.unclosed l.line (listed_by l.fate c l) h in
    let g = listed_going l.fate c l (subst (λ (b : Bool). (pick_found b (wrong l.line) (listed_by l.fate c l)).fate ≡ going) q h) in
    (q, g, ap (λ (b : Bool). pick_found b (wrong l.line) (listed_by l.fate c l)) q ∙ ap (λ (x : Fate). listed_by x c l) g)

count_went : (c : Found) → (judge_count c).fate ≡ going → (c.fate ≡ going) × ((row c.rows 9).count ≡ c.actuators.wheel_count) × (judge_count c ≡ c)
unfolding judge_count
count_went c h =
    let d = pick_found (eqb (row c.rows 9).count c.actuators.wheel_count) c (wrong 9) in
    let g = went_on c.fate c d refl h in
    let q : eqb (row c.rows 9).count c.actuators.wheel_count ≡ true = picked _ 9 c (ap (λ (x : Found). x.fate) (sym g.1) ∙ h) in
    (g.0, eqb-true _ _ q, g.1 ∙ rw q)

-- the parts of a text that is read
record Parts (c : Found) (l : Listing) : Type 0 where
  heads_right : c.fate ≡ going
  listed_right : l.fate ≡ going
  closed : l.unclosed ≡ false
  count : (row c.rows 9).count ≡ l.actuators.wheel_count
  is : read_of c l ≡ record { fate = going; problem = problem_of c.rows l.actuators }

parts_of_law : (c : Found) (l : Listing) → (read_of c l).fate ≡ going → Parts c l
unfolding read_of next_list
parts_of_law c l h =
    let j = count_went (next_list c l) h in
    let g = went_on c.fate c (with_list c l) refl j.0 in
    let w = list_went c l (ap (λ (x : Found). x.fate) (sym g.1) ∙ j.0) in
    let e : next_list c l ≡ with_actuators c l = g.1 ∙ w.2 in
    record {
      heads_right = g.0;
      listed_right = w.1;
      closed = w.0;
      count = subst (λ (d : Found). (row d.rows 9).count ≡ d.actuators.wheel_count) e j.1;
      is = ap found (j.2 ∙ e);
    }

module _ (f : Form) (s : List ℕ) where
  head_went : (head_at_value f s 0).fate ≡ going → (length s ≤ 4096) × (head_at_value f s 0 ≡ lines_from f s 1 (upto 0 none) head_forms)
  unfolding head_at_value
  head_went h = let b = passed (ltb 4096 (length s)) 0 (lines_from f s 1 (upto 0 none) head_forms) h in (ltb-false 4096 (length s) b, rw b)

  -- the nine lines, each where the one before ends
  record Heads : Type 0 where
    r1 : Row
    r2 : Row
    r3 : Row
    r4 : Row
    r5 : Row
    r6 : Row
    r7 : Row
    r8 : Row
    r9 : Row
    e1 : line_at f s 0 (head_form 0) ≡ Some r1
    e2 : line_at f s r1.at (head_form 1) ≡ Some r2
    e3 : line_at f s r2.at (head_form 2) ≡ Some r3
    e4 : line_at f s r3.at (head_form 3) ≡ Some r4
    e5 : line_at f s r4.at (head_form 4) ≡ Some r5
    e6 : line_at f s r5.at (head_form 5) ≡ Some r6
    e7 : line_at f s r6.at (head_form 6) ≡ Some r7
    e8 : line_at f s r7.at (head_form 7) ≡ Some r8
    e9 : line_at f s r8.at (head_form 8) ≡ Some r9
    all : lines_from f s 1 (upto 0 none) head_forms ≡ upto r9.at (rows_of r1 r2 r3 r4 r5 r6 r7 r8 r9)

  abbrev Next : ℕ → ℕ → List Row → LineForm → List LineForm → Type 0
  Next k at rows l ls = (r : Row) × (line_at f s at l ≡ Some r) × ((lines_from f s (k + 1) (upto r.at (set rows (k - 1) r)) ls).fate ≡ going)

  next_line_law : (k at : ℕ) (rows : List Row) (l : LineForm) (ls : List LineForm) → (lines_from f s k (upto at rows) (l ∷ ls)).fate ≡ going → Next k at rows l ls
  next_line_law k at rows l ls h = let w = line_went f s k at rows l ls h in (w.0, w.1, ap (λ (c : Found). c.fate) (sym w.2) ∙ h)

  heads_of : (lines_from f s 1 (upto 0 none) head_forms).fate ≡ going → Heads
  heads_of h =
      let w1 = next_line_law 1 0 _ _ _ h in
      let w2 = next_line_law 2 w1.0.at _ _ _ w1.2 in
      let w3 = next_line_law 3 w2.0.at _ _ _ w2.2 in
      let w4 = next_line_law 4 w3.0.at _ _ _ w3.2 in
      let w5 = next_line_law 5 w4.0.at _ _ _ w4.2 in
      let w6 = next_line_law 6 w5.0.at _ _ _ w5.2 in
      let w7 = next_line_law 7 w6.0.at _ _ _ w6.2 in
      let w8 = next_line_law 8 w7.0.at _ _ _ w7.2 in
      let w9 = next_line_law 9 w8.0.at _ _ _ w8.2 in
      record {
        r1 = w1.0;
        e1 = w1.1;
        r2 = w2.0;
        e2 = w2.1;
        r3 = w3.0;
        e3 = w3.1;
        r4 = w4.0;
        e4 = w4.1;
        r5 = w5.0;
        e5 = w5.1;
        r6 = w6.0;
        e6 = w6.1;
        r7 = w7.0;
        e7 = w7.1;
        r8 = w8.0;
        e8 = w8.1;
        r9 = w9.0;
        e9 = w9.1;
        all = heads_are f s w1.0 w2.0 w3.0 w4.0 w5.0 w6.0 w7.0 w8.0 w9.0 w1.1 w2.1 w3.1 w4.1 w5.1 w6.1 w7.1 w8.1 w9.1;
      }

  abbrev problem_of_law : Heads → Actuators → Problem
  problem_of_law H a = problem_of (rows_of H.r1 H.r2 H.r3 H.r4 H.r5 H.r6 H.r7 H.r8 H.r9) a

  lines_forth : (H : Heads) (a : Actuators) → H.r9.count ≤ 8 → Spans f s H.r9.at (actuators a) (length s) → Spans f s 0 (pieces (problem_of_law H a)) (length s)
  unfolding problem_of
  lines_forth H a few t =
      let k = length s in
      let p = problem_of_law H a in
      let u9 = any_forth f s H.r8.at (bytes " (momenta") (bytes ")\n") H.r9 H.e9 (omega (arith, few)) (from10 p) k t in
      let t9 : Spans f s H.r8.at (from9 p) k = subst (λ (xs : List Float). Spans f s H.r8.at (lit (bytes " (momenta") ∷ nums xs (lit (bytes ")\n") ∷ from10 p)) k) (sym (less H.r9.count H.r9.v few)) u9 in
      let t8 = line_forth f s 2 H.r7.at (bytes " (tolerance") (bytes ")\n") H.r8 (omega arith) H.e8 (from9 p) k t9 in
      let t7 = line_forth f s 6 H.r6.at (bytes " (weights") (bytes ")\n") H.r7 (omega arith) H.e7 (from8 p) k t8 in
      let t6 = limit_forth f s 0 H.r5.at (bytes " (slew") (bytes ")\n") H.r6 (omega arith) H.e6 (from7 p) k t7 in
      let t5 = line_forth f s 3 H.r4.at (bytes " (limit") (bytes ")\n") H.r5 (omega arith) H.e5 (from6 p p.slew) k t6 in
      let t4 = line_forth f s 9 H.r3.at (bytes " (inertia") (bytes ")\n") H.r4 (omega arith) H.e4 (from5 p) k t5 in
      let t3 = line_forth f s 4 H.r2.at (bytes " (qf") (bytes ")\n") H.r3 (omega arith) H.e3 (from4 p) k t4 in
      let t2 = line_forth f s 4 H.r1.at (bytes " (q0") (bytes ")\n") H.r2 (omega arith) H.e2 (from3 p) k t3 in
      to1 f s p k (line_forth f s 0 0 (bytes "(problem") (bytes "\n") H.r1 (omega arith) H.e1 (from2 p) k t2)

  inertia_nine : (H : Heads) → length H.r4.v ≡ 9
  inertia_nine H =
      line_nine f s 9 H.r3.at (bytes " (inertia") (bytes ")\n") H.r4 H.e4

  momenta_tidy : (H : Heads) → H.r9.count ≤ 8 → sets (replicate 8 (of_bits binary64 0)) 0 (floats H.r9.count (floats 8 H.r9.v)) ≡ floats 8 H.r9.v
  momenta_tidy H few =
      let x = any_row f s H.r8.at (bytes " (momenta") (bytes ")\n") H.r9 H.e9 in
      let xs = x.0 in
      let n : H.r9.count ≡ length xs = x.1 in
      let v : H.r9.v ≡ sets zeros 0 xs = x.2 in
      let m : length xs ≤ 8 = omega (arith, few, n) in
      let w : floats H.r9.count (floats 8 H.r9.v) ≡ xs = less H.r9.count H.r9.v few ∙ ap (λ (u : List Float). floats H.r9.count u) v ∙ firsts_sets nan xs zeros H.r9.count (sym n) (omega (arith, few)) in
      ap (λ (u : List Float). sets (replicate 8 (of_bits binary64 0)) 0 u) w ∙ sym (kept xs m) ∙ ap (λ (u : List Float). floats 8 u) (sym v)

  tidy : (H : Heads) (ws : List Wheel) (ts : List Thruster) (c : Option CmgPyramid) → H.r9.count ≤ 8 → length ws ≤ 8 → length ts ≤ 12 → tidied (problem_of_law H (packed ws ts c)) ≡ problem_of_law H (packed ws ts c)
  unfolding tidied problem_of
  tidy H ws ts c n few fewer =
      let e : floats 9 H.r4.v ≡ H.r4.v = ap (λ (n : ℕ). floats n H.r4.v) (sym (inertia_nine H)) ∙ firsts_all nan H.r4.v in
      rw (e, packed_twice ws ts c few fewer, momenta_tidy H n)

  list_forth : (at : ℕ) → length s ≤ 4096 → (list_at_value f s at).fate ≡ going → (list_at_value f s at).unclosed ≡ false
      → (ws : List Wheel) × (ts : List Thruster) × (c : Option CmgPyramid) × ((list_at_value f s at).actuators ≡ packed ws ts c) × (Spans f s at (lit (bytes " (actuators") ∷ entries (listed ws ts c) (lit (bytes "))\n") ∷ [])) (length s))
  unfolding list_at_value first_line
  list_forth at m h u = go (is_at s at (bytes " (actuators")) refl
    where
      go : (b : Bool) → is_at s at (bytes " (actuators") ≡ b
          → (ws : List Wheel) × (ts : List Thruster) × (c : Option CmgPyramid) × ((list_at_value f s at).actuators ≡ packed ws ts c) × (Spans f s at (lit (bytes " (actuators") ∷ entries (listed ws ts c) (lit (bytes "))\n") ∷ [])) (length s))
      go true q =
          let e : list_at_value f s at ≡ run f s (length s) (close_at s 10 (at + 11) 1 no_actuators) = rw (le-ltb 4096 (length s) m, q, run_is f s (length s) (close_at s 10 (at + 11) 1 no_actuators)) in
          let r = close_forth f s (length s) 10 (at + 11) 1 no_actuators (omega arith) (ap (λ (c : Listing). c.fate) (sym e) ∙ h) (ap (λ (c : Listing). c.unclosed) (sym e) ∙ u) in
          let x = unlisted r.0 r.1 in (
            x.0,
            x.1,
            x.2,
            ap (λ (c : Listing). c.actuators) e ∙ r.2 ∙ ap (λ (es : List Entry). adds no_actuators es) x.3 ∙ adds_listed x.0 x.1 x.2,
            (at + 11, (q, refl), subst (λ (es : List Entry). Spans f s (at + 11) (entries es (lit (bytes "))\n") ∷ [])) (length s)) x.3 r.3),
          )
      go false q =
          let e : list_at_value f s at ≡ wrong_line 10 at 1 no_actuators = rw (le-ltb 4096 (length s) m, q, run_is f s (length s) (wrong_line 10 at 1 no_actuators), run_stays f s (length s) (wrong_line 10 at 1 no_actuators) refl) in
          never (ap (λ (c : Listing). c.fate) (sym e) ∙ h)

  packed_actuators : (ws : List Wheel) (ts : List Thruster) (c : Option CmgPyramid) (at : ℕ) → length ws ≤ 8 → length ts ≤ 12 → Spans f s at (lit (bytes " (actuators") ∷ entries (listed ws ts c) (lit (bytes "))\n") ∷ [])) (length s) → Spans f s at (actuators (packed ws ts c)) (length s)
  unfolding actuators
  packed_actuators ws ts c at few fewer h = subst (λ (ps : List Piece). Spans f s at (lit (bytes " (actuators") ∷ ps) (length s)) (sym (packed_pieces ws ts c few fewer (lit (bytes "))\n") ∷ []))) h

  -- the problem's pieces stand in the text, one momentum a wheel, and nothing stands past its counts
  abbrev pub Stands : Problem → Type 0
  Stands p = (length s ≤ 4096) × (Spans f s 0 (pieces p) (length s)) × (tidied p ≡ p) × (p.momenta.count ≡ p.actuators.wheel_count)

  stands_by : (H : Heads) (ws : List Wheel) (ts : List Thruster) (c : Option CmgPyramid) → length s ≤ 4096 → length ws ≤ 8 → length ts ≤ 12 → H.r9.count ≡ length ws
      → Spans f s H.r9.at (lit (bytes " (actuators") ∷ entries (listed ws ts c) (lit (bytes "))\n") ∷ [])) (length s) → Stands (problem_of_law H (packed ws ts c))
  unfolding problem_of
  stands_by H ws ts c m few fewer n t =
      let l : H.r9.count ≤ 8 = omega (arith, n, few) in
      (m, lines_forth H (packed ws ts c) l (packed_actuators ws ts c H.r9.at few fewer t), tidy H ws ts c l few fewer, n)

  abbrev answer : Heads → List Wheel → List Thruster → Option CmgPyramid → Read
  answer H ws ts c = record { fate = going; problem = problem_of_law H (packed ws ts c) }

  counts : (H : Heads) (ws : List Wheel) (ts : List Thruster) (c : Option CmgPyramid) (r : Read) → r ≡ answer H ws ts c → r.problem.actuators.wheel_count ≤ 8 → r.problem.actuators.thruster_count ≤ 12 → (length ws ≤ 8) × (length ts ≤ 12)
  unfolding problem_of
  counts H ws ts c r e few fewer = (rw e at few, rw e at fewer)

  pub stands : (read_in f s).fate ≡ going → (read_in f s).problem.actuators.wheel_count ≤ 8 → (read_in f s).problem.actuators.thruster_count ≤ 12 → Stands (read_in f s).problem
  unfolding read_in
  stands h few fewer =
      let c = head_at_value f s 0 in
      let p = parts_of_law c (list_at_value f s c.at) h in
      let w = head_went p.heads_right in
      let H = heads_of (ap (λ (x : Found). x.fate) (sym w.1) ∙ p.heads_right) in
      let e : c ≡ upto H.r9.at (rows_of H.r1 H.r2 H.r3 H.r4 H.r5 H.r6 H.r7 H.r8 H.r9) = w.1 ∙ H.all in
      let x = list_forth c.at w.0 p.listed_right p.closed in
      let a : read_in f s ≡ answer H x.0 x.1 x.2 = p.is ∙ ap (λ (d : Found). record { fate = going; problem = problem_of d.rows (list_at_value f s c.at).actuators }) e ∙ ap (λ (b : Actuators). record { fate = going; problem = problem_of_law H b }) x.3 in
      let n : H.r9.count ≡ length x.0 = ap (λ (d : Found). (row d.rows 9).count) (sym e) ∙ p.count ∙ ap (λ (b : Actuators). b.wheel_count) x.3 in
      let k = counts H x.0 x.1 x.2 (read_in f s) a few fewer in
      let t = subst (λ (d : Found). Spans f s d.at (lit (bytes " (actuators") ∷ entries (listed x.0 x.1 x.2) (lit (bytes "))\n") ∷ [])) (length s)) e x.4 in
      subst (λ (r : Read). Stands r.problem) (sym a) (stands_by H x.0 x.1 x.2 w.0 k.0 k.1 n t)
