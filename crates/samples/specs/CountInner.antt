-- What a part of the count rule asks for. Definitions only.
use Rattle.std.specs.Prelude.{◌≡◌, false, T, from_bits, Float}
use Rattle.std.specs.Float.{binary64}
use Rattle.std.specs.Float.Ieee.{lt}

-- a number above 0 and not above 99,999
abbrev pub Steps : Float → Type 0
Steps x = T (lt (from_bits binary64 0) x) × (lt (from_bits binary64 0x40f8_69f0_0000_0000) x ≡ false)
