-- The list of actuators in the program's text: wheels, then thrusters, then at most one pyramid, a line each, over any form of words. Definitions only.
use Rattle.std.specs.Prelude.{ℕ, ◌+◌, Bool, true, false, List, [], ◌∷◌, ltb, length, set, Float, Option, Some, None, Err}
use Rattle.common.specs.Iter.{iter}
use Rattle.common.specs.Lists as Lists
use Rattle.actuators.specs.declared.Actuators.{Actuators}
use Rattle.actuators.specs.Maps.{no_actuators}
use Rattle.text.specs.declared.lines.Row.{Row}
use Rattle.text.specs.declared.lines.Words.TheVariants.{Floats, Limited}
use Rattle.problem_text.specs.declared.listing.Item.{Item}
use Rattle.problem_text.specs.declared.listing.Kind.{Kind}
use Rattle.problem_text.specs.declared.listing.Kind.TheVariants.{Wheel, Thruster, Pyramid}
use Rattle.problem_text.specs.declared.listing.Listing.{Listing}
use Rattle.text.specs.Bytes.{bytes}
use Rattle.text.specs.Forms.{Form}
use Rattle.text.specs.Lines.{is_at, LineForm, form, line_at}
use Rattle.common.specs.Refusals.{refusal, going}

-- number k of a row
abbrev num : Row → ℕ → Float
num r k = Lists.at r.v k

abbrev axis : Row → List Float
axis r = num r 0 ∷ num r 1 ∷ num r 2 ∷ []

-- ---- what a line declares

-- a kind's place in the list's order
abbrev pub place_of : Kind → ℕ
place_of Wheel = 1
place_of Thruster = 2
place_of Pyramid = 3

-- the least place of a kind that may follow: there is at most one pyramid
abbrev pub least_after : Kind → ℕ
least_after Wheel = 1
least_after Thruster = 2
least_after Pyramid = 4

-- an actuator of this kind where its line stands, else the other
abbrev pub item_by : Kind → Option Row → Option Item → Option Item
item_by k (Some r) other = Some (record { kind = k; row = r })
item_by k None other = other

abbrev pub wheel_form : LineForm
wheel_form = form (bytes "  (wheel") (Limited 5) (bytes ")")

abbrev pub thruster_form : LineForm
thruster_form = form (bytes "  (thruster") (Floats 4) (bytes ")")

abbrev pub pyramid_form : LineForm
pyramid_form = form (bytes "  (cmg") (Floats 4) (bytes ")")

-- one actuator up to its bracket
unfoldable pub item_at : Form → List ℕ → ℕ → Option Item
item_at f s at =
    item_by Wheel (line_at f s at wheel_form)
    (item_by Thruster (line_at f s at thruster_form)
    (item_by Pyramid (line_at f s at pyramid_form) None))

-- axis, torque, momentum, power; past the eighth a wheel is counted only
unfoldable pub with_wheel : Actuators → Row → Actuators
with_wheel a r = record {
  wheels = set a.wheels a.wheel_count (record { axis = axis r; max_torque_nm = num r 3; max_momentum_nms = num r 4; max_power_w = r.limit });
  wheel_count = a.wheel_count + 1;
  thrusters = a.thrusters;
  thruster_count = a.thruster_count;
  cmgs = a.cmgs;
}

-- axis, torque; past the twelfth a thruster is counted only
unfoldable pub with_thruster : Actuators → Row → Actuators
with_thruster a r = record {
  wheels = a.wheels;
  wheel_count = a.wheel_count;
  thrusters = set a.thrusters a.thruster_count (record { torque_axis = axis r; max_torque_nm = num r 3 });
  thruster_count = a.thruster_count + 1;
  cmgs = a.cmgs;
}

-- skew, momentum, rate, eps
unfoldable pub with_pyramid : Actuators → Row → Actuators
with_pyramid a r = record {
  wheels = a.wheels;
  wheel_count = a.wheel_count;
  thrusters = a.thrusters;
  thruster_count = a.thruster_count;
  cmgs = Some (record { skew_rad = num r 0; wheel_momentum_nms = num r 1; max_gimbal_rate_rad_s = num r 2; singularity_eps = num r 3 });
}

abbrev pub with_kind : Kind → Actuators → Row → Actuators
with_kind Wheel a r = with_wheel a r
with_kind Thruster a r = with_thruster a r
with_kind Pyramid a r = with_pyramid a r

unfoldable pub with_item : Actuators → Item → Actuators
with_item a i = with_kind i.kind a i.row

-- ---- the lines of the list

abbrev pub pick_listing : Bool → Listing → Listing → Listing
pick_listing true a b = a
pick_listing false a b = b

abbrev pub wrong_line : ℕ → ℕ → ℕ → Actuators → Listing
wrong_line line at least a = record { fate = Err (refusal 21 line); unclosed = false; line = line; at = at; least = least; actuators = a }

-- with the last brackets the text ends; what stands after them is wrong at the next line
unfoldable pub end_at : List ℕ → ℕ → ℕ → ℕ → Actuators → Listing
end_at s line at least a =
    pick_listing (ltb at (length s)) (wrong_line (line + 1) at least a)
    (record { fate = going; unclosed = false; line = line + 1; at = at; least = least; actuators = a })

-- after an actuator's bracket, on its own line: a line feed, or the brackets that close the list and the problem
unfoldable pub close_at : List ℕ → ℕ → ℕ → ℕ → Actuators → Listing
close_at s line at least a =
    pick_listing (is_at s at (bytes "\n"))
    (record { fate = going; unclosed = true; line = line + 1; at = at + 1; least = least; actuators = a })
    (pick_listing (is_at s at (bytes "))\n")) (end_at s line (at + 3) least a) (wrong_line line at least a))

-- the next line holds an actuator of a kind that may follow, or it is wrong
abbrev pub line_with : List ℕ → Listing → Option Item → Listing
line_with s c None = wrong_line c.line c.at c.least c.actuators
line_with s c (Some i) =
    pick_listing (ltb (place_of i.kind) c.least) (wrong_line c.line c.at c.least c.actuators)
    (close_at s c.line i.row.at (least_after i.kind) (with_item c.actuators i))

unfoldable pub next_line : Form → List ℕ → Listing → Listing
next_line f s c = line_with s c (item_at f s c.at)

-- line 10 begins the list
unfoldable pub first_line : List ℕ → ℕ → Listing
first_line s at = pick_listing (is_at s at (bytes " (actuators")) (close_at s 10 (at + 11) 1 no_actuators) (wrong_line 10 at 1 no_actuators)

-- a list that is closed, or wrong, stays as it is
abbrev pub turn : Form → List ℕ → ℕ → Listing → Listing
turn f s k c = pick_listing c.unclosed (next_line f s c) c

-- no text has more lines than bytes; one over 4,096 bytes has no list
unfoldable pub list_at_value : Form → List ℕ → ℕ → Listing
list_at_value f s at = pick_listing (ltb 4096 (length s)) (wrong_line 0 at 1 no_actuators) (iter (turn f s) (first_line s at) (length s))
