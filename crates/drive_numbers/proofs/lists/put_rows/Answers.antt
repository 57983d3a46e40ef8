use Rattle.std.proofs.Common.{◌≡◌, arith}
use Rattle.drive_numbers.proofs.Listing.{goes_first, goes_next, goes_cut, goes_whole}
use Rattle.drive_numbers.proofs.lists.put_rows.Goals as goal

pub loop-k-init : goal.loop-k-init
loop-k-init c = goes_first _ _

pub returns-in-Err : goal.returns-in-Err
returns-in-Err c = goes_cut _ c.loop-k.invariant c.drive_sample.ensures (omega arith) c.in-Err.is

pub loop-k-preserved : goal.loop-k-preserved
loop-k-preserved c = goes_next _ c.loop-k.invariant c.drive_sample.ensures (omega (arith, c.requires)) c.in-Ok.is

pub returns : goal.returns
returns c = let e : c.loop-k.k ≡ c.args.count = omega arith in rw (← e) (goes_whole _ c.loop-k.invariant)
