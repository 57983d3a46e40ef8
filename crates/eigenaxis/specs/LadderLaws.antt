-- Laws of what tries keep, in the code's steps. Assumes nothing.
use Rattle.std.specs.Prelude.{ℕ, ◌≡◌, Bool, true, false, List, Float, Err}
use Rattle.std.proofs.Math.Path.{refl, sym, ap}
use Rattle.std.proofs.Common.{◌∙◌}
use Rattle.std.proofs.Math.Bool.{cond}
use Rattle.common.specs.Iter.{iter}
use Rattle.problem.specs.Problems.{check}
use Rattle.problem.specs.declared.Problem.{Problem}
use Rattle.planner.specs.Plans as Plans
use Rattle.planner.specs.PlanLaws.{leaves_none}
use Rattle.planner.proofs.PlanLaws.{leaves_twice}
use Rattle.planner.specs.Promises as Promises
use Rattle.planner.specs.declared.Planned.{Planned}
use Rattle.eigenaxis_seed.specs.declared.Shape.{Shape}
use Rattle.eigenaxis_seed.specs.declared.Seeding.{Seeding}
use Rattle.eigenaxis.specs.Ladders as Ladders
use Rattle.eigenaxis.specs.Keeps.{Keeps, Begins}
use Rattle.eigenaxis.specs.declared.Ladder.{Ladder}
use Rattle.common.specs.Refusals.{Fate, refusal, going}

-- nothing was done
pub keeps_same : (q : Problem) (shape : Shape) {s r : Ladder} {ws : List Float} → r ≡ s → Keeps q shape s r ws ws
keeps_same q shape e = record { left = λ o h. rw e h; stands = λ h. rw e h }

-- one thing after another
pub keeps_then : {q : Problem} {shape : Shape} {s r u : Ladder} {a b c : List Float} → Keeps q shape s r a b → Keeps q shape r u b c → Keeps q shape s u a c
keeps_then f g = record { left = λ o h. g.left o (f.left o h); stands = λ h. g.stands (f.stands h) }

pub keeps_begin : {q : Problem} {shape : Shape} {r u : Ladder} {a b c : List Float} → Begins q shape r a b → Keeps q shape r u b c → Begins q shape u a c
keeps_begin {a = a} f g = record { left = g.left a f.left; stands = g.stands f.stands }

-- a duration that was refused after so many runs
pub keeps_refused : (q : Problem) (shape : Shape) (s : Ladder) (t : Float) (runs : ℕ) {r : Ladder} {a b : List Float} → r ≡ Ladders.passed s t runs → b ≡ Plans.leaves runs a → Keeps q shape s r a b
keeps_refused q shape s t runs e f = record { left = λ o h. rw e (f ∙ rw h (leaves_twice s.runs runs o)); stands = λ h. rw e h }

-- a duration that was passed over
pub keeps_over : (q : Problem) (shape : Shape) (s : Ladder) (t : Float) {r : Ladder} {ws : List Float} → r ≡ Ladders.passed s t 0 → Keeps q shape s r ws ws
keeps_over q shape s t {ws = ws} e = keeps_refused q shape s t 0 e (leaves_none ws)

-- a duration that was answered
pub keeps_reached : (q : Problem) (shape : Shape) (s : Ladder) (t : Float) (x : Planned) {z : Seeding} {r : Ladder} {a b : List Float} → r ≡ Ladders.reached s t x → b ≡ Plans.leaves x.runs a
    → z ≡ Ladders.seed_at q shape t → Promises.Answers q (Plans.seed_of (check q).problem t z.torques) x → Keeps q shape s r a b
keeps_reached q shape s t x e f g h = record { left = λ o k. rw e (f ∙ rw k (leaves_twice s.runs x.runs o)); stands = λ k. rw e (rw g at h) }

-- ---- a try, and the turns, in the code's steps
module _ (q : Problem) (shape : Shape) (size : ℕ) (s : Ladder) where
  module _ (t : Float) {z : Seeding} (made : z ≡ Ladders.seed_at q shape t) where
    opened : Ladders.rung_of z.fits q size s t z ≡ Ladders.rung q shape size s t
    unfolding Ladders.rung
    opened = ap (λ (y : Seeding). Ladders.rung_of y.fits q size s t y) made

    pub rung_over : z.fits ≡ false → Ladders.passed s t 0 ≡ Ladders.rung q shape size s t
    rung_over h = sym (ap (λ (b : Bool). Ladders.rung_of b q size s t z) h) ∙ opened

    module _ (fits : z.fits ≡ true) {x : Planned} (answer : x ≡ Ladders.tried q size t z) where
      judged : Ladders.rung_by x.fate s t x ≡ Ladders.rung q shape size s t
      judged = ap (λ (y : Planned). Ladders.rung_by y.fate s t y) answer ∙ sym (ap (λ (b : Bool). Ladders.rung_of b q size s t z) fits) ∙ opened

      pub rung_refused : {n k : ℕ} → x.fate ≡ Err (refusal n k) → Ladders.passed s t x.runs ≡ Ladders.rung q shape size s t
      rung_refused h = sym (ap (λ (e : Fate). Ladders.rung_by e s t x) h) ∙ judged

      pub rung_reached : x.fate ≡ going → Ladders.reached s t x ≡ Ladders.rung q shape size s t
      rung_reached h = sym (ap (λ (e : Fate). Ladders.rung_by e s t x) h) ∙ judged

  pub climb_goes : (k : ℕ) → s.climbing ≡ true → Ladders.rung q shape size s s.next ≡ Ladders.climb_turn q shape size k s
  unfolding Ladders.climb_turn
  climb_goes k h = sym (ap (λ (b : Bool). cond b (Ladders.rung q shape size s s.next) s) h)

  pub climb_stays : (k : ℕ) → s.climbing ≡ false → s ≡ Ladders.climb_turn q shape size k s
  unfolding Ladders.climb_turn
  climb_stays k h = sym (ap (λ (b : Bool). cond b (Ladders.rung q shape size s s.next) s) h)

  pub narrow_goes : (k : ℕ) {m : Float} → m ≡ Ladders.middle s → s.planned.fate ≡ going → Ladders.rung q shape size s m ≡ Ladders.narrow_turn q shape size k s
  unfolding Ladders.narrow_turn
  narrow_goes k e h = ap (λ (t : Float). Ladders.rung q shape size s t) e ∙ sym (ap (λ (f : Fate). Ladders.narrow_by f q shape size s) h)

  pub narrow_stays : (k : ℕ) {n j : ℕ} → s.planned.fate ≡ Err (refusal n j) → s ≡ Ladders.narrow_turn q shape size k s
  unfolding Ladders.narrow_turn
  narrow_stays k h = sym (ap (λ (f : Fate). Ladders.narrow_by f q shape size s) h)

  -- no turn reads its number
  pub climb_any : (k : ℕ) → Ladders.climb_turn q shape size 0 s ≡ Ladders.climb_turn q shape size k s
  unfolding Ladders.climb_turn
  climb_any k = refl

  pub narrow_any : (k : ℕ) → Ladders.narrow_turn q shape size 0 s ≡ Ladders.narrow_turn q shape size k s
  unfolding Ladders.narrow_turn
  narrow_any k = refl

-- the whole, in the code's steps: the lent workspace stays as long as it is
pub ladder_as : (p : Problem) (shape : Shape) {q : Problem} {f c n : Ladder} {size a b : ℕ} → q ≡ Ladders.unweighted p → f ≡ Ladders.start q shape size → a ≡ size → c ≡ iter (Ladders.climb_turn q shape a) f 20
    → b ≡ size → n ≡ iter (Ladders.narrow_turn q shape b) c 8 → Ladders.answer_of n ≡ Ladders.plan_eigenaxis p shape size
unfolding Ladders.plan_eigenaxis Ladders.ladder
ladder_as p shape eq ef ea ec eb en = rw (en, eb, ec, ea, ef, eq)
