-- A unit by its flag. Definitions only.
use Rattle.std.specs.Prelude.{Bool, true, false}
use Rattle.drive_numbers.specs.declared.Unit.{Unit}
use Rattle.drive_numbers.specs.declared.Unit.TheVariants as Unit

-- 2 ^ -20 where it is coarse, else 2 ^ -30
abbrev pub unit : Bool → Unit
unit true = Unit.Coarse
unit false = Unit.Fine
