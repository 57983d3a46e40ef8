-- Facts of the definitions of specs/Listing.antt and specs/Reader.antt that the reader's proofs cite. Assumes nothing.
use Prim.Native.Nat.{ℕ, ◌+◌, ◌≤◌}
use native.Mathlib.Omega.{arith}
use mathlib.Core.Path.{◌≡◌, refl}
use mathlib.Core.List.{List, [], ◌∷◌}
use mathlib.Core.Bool.{Bool, true, false}
use borrow.Author.Tests.{le-ltb}
use lib.Dec.{ltb}
use lib.ListN.{length}
use Rattle.common.specs.Iter.{iter}
use Rattle.common.specs.IterLaws.{iter_stays}
use Rattle.actuators.specs.declared.Actuators.{Actuators}
use Rattle.actuators.specs.Maps.{no_actuators}
use Rattle.problem_text.specs.declared.listing.Item.{Item}
use Rattle.problem_text.specs.declared.listing.Kind.{Kind}
use Rattle.problem_text.specs.declared.listing.Kind.TheVariants.{Wheel, Thruster, Pyramid}
use Rattle.std.specs.Prelude.{Option, Some, None}
use Rattle.problem_text.specs.declared.listing.Listing.{Listing}
use Rattle.problem_text.specs.declared.Found.{Found}
use Rattle.text.specs.Bytes.{bytes}
use Rattle.text.specs.Forms.{loose}
use Rattle.text.specs.Lines.{is_at, LineForm}
use Rattle.problem_text.specs.Listing.{pick_listing, place_of, least_after, with_kind, line_with, with_wheel, with_thruster, with_pyramid, with_item, wrong_line, end_at, close_at, next_line, first_line, turn, list_at_value, item_at}
use Rattle.problem_text.specs.Reader.{head_forms, nothing, next_line as lineNext, lines_from, lines_at}
use Rattle.common.specs.Refusals.{going}

-- ---- counts: a line adds at most one to each

-- an actuator more
record Added (a b : Actuators) : Type 0 where
  wheels : b.wheel_count ≤ a.wheel_count + 1
  thrusters : b.thruster_count ≤ a.thruster_count + 1

item_adds : (a : Actuators) (i : Item) → Added a (with_item a i)
unfolding with_item with_wheel with_thruster with_pyramid
item_adds a i = go i.kind
  where
    go : (k : Kind) → Added a (with_kind k a i.row)
    go Wheel = record { wheels = omega arith; thrusters = omega arith }
    go Thruster = record { wheels = omega arith; thrusters = omega arith }
    go Pyramid = record { wheels = omega arith; thrusters = omega arith }

-- the end of a line: the next line's number at most
record Closed (line : ℕ) (a : Actuators) (c : Listing) : Type 0 where
  next : c.line ≤ line + 1
  same : c.actuators ≡ a

ends : (s : List ℕ) (line at least : ℕ) (a : Actuators) → Closed line a (end_at s line at least a)
unfolding end_at
ends s line at least a = go (ltb at (length s))
  where
    go : (p : Bool) → Closed line a (pick_listing p (wrong_line (line + 1) at least a) (record { fate = going; unclosed = false; line = line + 1; at = at; least = least; actuators = a }))
    go true = record { next = omega arith; same = refl }
    go false = record { next = omega arith; same = refl }

closes : (s : List ℕ) (line at least : ℕ) (a : Actuators) → Closed line a (close_at s line at least a)
unfolding close_at
closes s line at least a = go (is_at s at (bytes "\n")) (is_at s at (bytes "))\n"))
  where
    go : (p q : Bool) → Closed line a (pick_listing p (record { fate = going; unclosed = true; line = line + 1; at = at + 1; least = least; actuators = a }) (pick_listing q (end_at s line (at + 3) least a) (wrong_line line at least a)))
    go true q = record { next = omega arith; same = refl }
    go false true = ends s line (at + 3) least a
    go false false = record { next = omega arith; same = refl }

-- after k lines of the list
pub record Counts (c : Listing) (k : ℕ) : Type 0 where
  pub line : c.line ≤ 11 + k
  pub wheels : c.actuators.wheel_count ≤ k
  pub thrusters : c.actuators.thruster_count ≤ k

pub counts_next : (s : List ℕ) (c : Listing) (k : ℕ) → Counts c k → Counts (next_line loose s c) (k + 1)
unfolding next_line
counts_next s c k h = go (item_at loose s c.at)
  where
    by : (i : Item) (p : Bool) → Counts (pick_listing p (wrong_line c.line c.at c.least c.actuators) (close_at s c.line i.row.at (least_after i.kind) (with_item c.actuators i))) (k + 1)
    by i true = record { line = omega arith; wheels = omega arith; thrusters = omega arith }
    by i false =
        let b = item_adds c.actuators i in
        let d = closes s c.line i.row.at (least_after i.kind) (with_item c.actuators i) in
        record { line = omega arith; wheels = rw d.same (omega arith); thrusters = rw d.same (omega arith) }

    go : (i : Option Item) → Counts (line_with s c i) (k + 1)
    go None = record { line = omega arith; wheels = omega arith; thrusters = omega arith }
    go (Some i) = by i (ltb (place_of i.kind) c.least)

pub counts_first : (s : List ℕ) (at : ℕ) → Counts (first_line s at) 0
unfolding first_line no_actuators
counts_first s at = go (is_at s at (bytes " (actuators"))
  where
    go : (p : Bool) → Counts (pick_listing p (close_at s 10 (at + 11) 1 no_actuators) (wrong_line 10 at 1 no_actuators)) 0
    go true =
        let d = closes s 10 (at + 11) 1 no_actuators in
        record { line = omega arith; wheels = rw d.same (omega arith); thrusters = rw d.same (omega arith) }
    go false = record { line = omega arith; wheels = omega arith; thrusters = omega arith }

-- ---- the loop over the lines

pub turn_goes : (s : List ℕ) (k : ℕ) (c d : Listing) → c.unclosed ≡ true → d ≡ next_line loose s c → d ≡ turn loose s k c
turn_goes s k c d h e = simp h e

module _ (s : List ℕ) (at : ℕ) (c₀ c : Listing) (k : ℕ) (f : c₀ ≡ first_line s at) (e : c ≡ iter (turn loose s) c₀ k) where
  -- a list that is closed, or wrong, is the answer
  pub list_early : length s ≤ 4096 → k ≤ length s → c.unclosed ≡ false → c ≡ list_at_value loose s at
  unfolding list_at_value
  list_early m l h = simp (le-ltb 4096 (length s) m) (rw (← f) (iter_stays (turn loose s) c₀ k (length s) l e (λ j. simp h)))

  pub list_whole : length s ≤ 4096 → k ≡ length s → c ≡ list_at_value loose s at
  unfolding list_at_value
  list_whole m l = simp (le-ltb 4096 (length s) m) (rw (← f, ← l) e)

-- ---- the lines before the list, one after another

module _ (s : List ℕ) (line : ℕ) (c : Found) where
  pub lines_more : (f : LineForm) (fs : List LineForm) (next r : Found) → next ≡ lineNext loose s line c f → r ≡ lines_from loose s (line + 1) next fs → r ≡ lines_from loose s line c (f ∷ fs)
  unfolding lines_from
  lines_more f fs next r e h = rw (← e) h

  pub lines_end : c ≡ lines_from loose s line c []
  unfolding lines_from
  lines_end = refl

pub lines_begin : (s : List ℕ) (at : ℕ) (c r : Found) → c ≡ nothing going at → r ≡ lines_from loose s 1 c head_forms → r ≡ lines_at loose s at
lines_begin s at c r e h = rw (← e) h
