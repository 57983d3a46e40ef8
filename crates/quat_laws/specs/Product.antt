-- Hamilton's product as one rule over any operations, and the squared length. Definitions only.
use Rattle.std.specs.Prelude.{Float}
use Rattle.std.specs.Float.Ieee.{add, sub, mul}
use Rattle.geom.specs.declared.Quat.{Quat}

-- four parts, the scalar one first
pub record Quaternion (A : Type 0) : Type 0 where
  pub w : A
  pub x : A
  pub y : A
  pub z : A

abbrev pub quaternion : {A : Type 0} → A → A → A → A → Quaternion A
quaternion w x y z = record { w = w; x = x; y = y; z = z }

-- the product rule; sums and differences go from the left, as in geom
abbrev pub hamilton : {A : Type 0} → (A → A → A) → (A → A → A) → (A → A → A) → Quaternion A → Quaternion A → Quaternion A
hamilton add sub mul a b = record {
  w = sub (sub (sub (mul a.w b.w) (mul a.x b.x)) (mul a.y b.y)) (mul a.z b.z);
  x = sub (add (add (mul a.w b.x) (mul a.x b.w)) (mul a.y b.z)) (mul a.z b.y);
  y = add (add (sub (mul a.w b.y) (mul a.x b.z)) (mul a.y b.w)) (mul a.z b.x);
  z = add (sub (add (mul a.w b.z) (mul a.x b.y)) (mul a.y b.x)) (mul a.z b.w);
}

-- the squared length; the sum goes from the left, as in geom
abbrev pub squared_length : {A : Type 0} → (A → A → A) → (A → A → A) → Quaternion A → A
squared_length add mul a = add (add (add (mul a.w a.w) (mul a.x a.x)) (mul a.y a.y)) (mul a.z a.z)

-- geom's quaternion as four parts, and back
abbrev pub parts : Quat → Quaternion Float
parts q = quaternion q.w q.x q.y q.z

abbrev pub from_parts : Quaternion Float → Quat
from_parts p = record { w = p.w; x = p.x; y = p.y; z = p.z }
