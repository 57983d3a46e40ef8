use Rattle.std.proofs.Common.{zero-mul}
use Rattle.byte_planes.specs.Planes.{first_planes}
use Rattle.byte_planes.proofs.Turns.{plane_next}
use Rattle.byte_planes.proofs.encode.Goals as goal

pub loop-j-init : goal.loop-j-init
unfolding first_planes
loop-j-init c = rw zero-mul

pub loop-j-preserved : goal.loop-j-preserved
loop-j-preserved c =
    plane_next c.args.column.now c.args.out.now c.loop-j.out _ c.loop-j.j c.loop-j.invariant c.put_plane.ensures
