use Rattle.std.proofs.Common.{◌∙◌, ap, add-one, arith, get_or}
use Rattle.std.specs.Int.Bits.{bit_xor}
use Rattle.byte_planes.specs.Planes.{deltas, byte_of, plane}
use Rattle.byte_planes.proofs.Turns.{length_plane, pasted, byte_at}
use Rattle.byte_planes.proofs.put_plane.Goals as goal

pub loop-i-preserved : goal.loop-i-preserved
loop-i-preserved c =
    let l = c.loop-i in
    let a = c.args in
    let w = a.column.now in
    record {
      before = rw (add-one l.i);
      put =
          pasted (plane a.j (deltas w)) a.out.now l.out a.at l.i _ (omega (arith, length_plane a.j w)) (omega arith) l.invariant.put
          (ap (λ x. byte_of a.j (bit_xor (get_or w l.i 0) x)) l.invariant.before ∙ byte_at a.j w l.i (omega arith));
    }
