-- When two floats are the same bit for bit. A float of the format is written in one way, by its sign, digits and exponent, so these decide; there is one NaN. Definitions only.
use Rattle.std.specs.Prelude.{Bool, true, false, ◌&&◌, eqb, ℤ, pos, negsuc, Float}
use Rattle.std.specs.Bool.{beq}
use Rattle.std.specs.Float.{nan, inf, fin}

abbrev pub same_exponent : ℤ → ℤ → Bool
same_exponent (pos a) (pos b) = eqb a b
same_exponent (pos a) (negsuc b) = false
same_exponent (negsuc a) (pos b) = false
same_exponent (negsuc a) (negsuc b) = eqb a b

-- -0 and +0 differ by their sign
abbrev pub same_bits : Float → Float → Bool
same_bits nan nan = true
same_bits nan (inf t) = false
same_bits nan (fin t n d) = false
same_bits (inf s) nan = false
same_bits (inf s) (inf t) = beq s t
same_bits (inf s) (fin t n d) = false
same_bits (fin s m e) nan = false
same_bits (fin s m e) (inf t) = false
same_bits (fin s m e) (fin t n d) = beq s t && (eqb m n && same_exponent e d)
