-- `shared_runs::base_start` meets its contract: a run before its first step is the start of every decision's run.
use Rattle.std.proofs.Common.{ℕ, ◌≡◌, arith}
use lib.Ieee as Ieee
use Rattle.common.specs.IterLaws.{iter_none}
use Rattle.controls.specs.SizeLaws.{dim_sized}
use Rattle.control_rows.specs.declared.WheelLaw.TheVariants.{Once}
use Rattle.forward.specs.Runs as Runs
use Rattle.forward.specs.GimbalStartInner.{start_goes}
use Rattle.forward.specs.PartLaws.{stands_first}
use Rattle.shared_runs.proofs.base_start.Goals as goal

pub start-from-requires : goal.start-from-requires
start-from-requires c =
    (dim_sized Once _ c.requires).wheels

pub returns-in-Err : goal.returns-in-Err
returns-in-Err c = λ z v errors long h. let no : ◌≡◌ {A = ℕ} 0 1 = cc in absurd (omega arith)

pub returns-in-Ok : goal.returns-in-Ok
unfolding Runs.start Ieee.of_bits
returns-in-Ok c = λ z v errors long h.
    let made = start_goes _ c.start_gimbals.ensures c.in-Ok.is in
    record {
      skew = made.0;
      sound = rw (c.unbegun-in-Ok.ensures, c.start-from.ensures) (record { matrix = made.1; plus = tt });
      after = rw (c.unbegun-in-Ok.ensures, c.start-from.ensures) (stands_first _ _ _ _ c.in-Ok.l.a v long);
      begins = record {
        sums = record { few = omega arith; long = long; energy = iter_none _ _; smooth = iter_none _ _ };
        kept = λ p j b. absurd (omega arith);
      };
    }
