-- `drive_numbers::part` meets its contract: by `is_counted` the sum's pattern less that of the power of two is the rounded number of units.
use mathlib.Core.Path.{sym, ap, ◌∙◌, subst}
use borrow.Author.Rules.{rules}
use lib.Dec.{T}
use lib.Ieee.{binary64, add, fits, of_bits}
use Rattle.drive_numbers.specs.Numbers.{part}
use Rattle.drive_numbers.specs.Rounding.{Counted}
use Rattle.drive_numbers.proofs.PartLaws.{is_counted, is_outside}
use Rattle.drive_numbers.specs.declared.Unit.TheVariants as Unit
use Rattle.drive_numbers.proofs.part.Statement.{statement}
use Rattle.drive_numbers.proofs.part.Tie as tie

in_format : (c : tie.After-size-a) → T (fits binary64 c.args.x)
in_format c = subst T (sym c.before.well_formed.0.1) tt

fine : (c : tie.Then-a) → Counted c.args.x (add binary64 c.size-a.result (of_bits binary64 4706261610602168320)) 4706261610602168320 Unit.Fine
fine c = is_counted _ c.size-a.result (in_format c.before.before) c.size-a.ensures Unit.Fine c.if-a.true

coarse : (c : tie.Then-a-2) → Counted c.args.x (add binary64 c.size-a.result (of_bits binary64 4751297606875873280)) 4751297606875873280 Unit.Coarse
coarse c = is_counted _ c.size-a.result (in_format c.before.before) c.size-a.ensures Unit.Coarse c.if-a-2.true

float-to-bits-placed : tie.Need-float_to_bits-a
float-to-bits-placed c = (fine c).number

sub-placed : tie.Need-overflow_sub-a
sub-placed c = (fine c).from

placed-requires : tie.Need-placed-requires
placed-requires c κs = (fine c).small

float-to-bits-placed-2 : tie.Need-float_to_bits-a-then-a-2
float-to-bits-placed-2 c = (coarse c).number

sub-placed-2 : tie.Need-overflow_sub-a-then-a-2
sub-placed-2 c = (coarse c).from

placed-requires-2 : tie.Need-placed-requires-then-a-2
placed-requires-2 c κs = (coarse c).small

returns : tie.Need-returns-then-a
returns c = c.placed.ensures ∙ (fine c.before).is ∙ ap (part _) (sym c.in-Fine.is)

returns_2 : tie.Need-returns-else-a
returns_2 c =
    is_outside c.args.x c.size-a.result (in_format c.before.before) c.size-a.ensures Unit.Fine c.if-a.false
    ∙ ap (part _) (sym c.in-Fine.is)

returns_3 : tie.Need-returns-then-a-2
returns_3 c = c.placed-then-a-2.ensures ∙ (coarse c.before).is ∙ ap (part _) (sym c.in-Coarse.is)

returns-4 : tie.Need-returns-else-a-2
returns-4 c =
    is_outside c.args.x c.size-a.result (in_format c.before.before) c.size-a.ensures Unit.Coarse c.if-a-2.false
    ∙ ap (part _) (sym c.in-Coarse.is)

pub part_spec : {M : Type 1} → statement M
part_spec =
    tie.close
    (tie.spec
    (λ c κs. search rules)
    (λ c. search rules)
    float-to-bits-placed
    sub-placed
    placed-requires
    (λ c. search rules)
    float-to-bits-placed-2
    sub-placed-2
    placed-requires-2
    returns
    returns_2
    returns_3
    returns-4)
