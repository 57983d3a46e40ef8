use Rattle.std.proofs.Common.{refl, arith, ◌+◌, ◌*◌, get_or}
use Rattle.byte_planes.specs.Planes.{word_at}
use Rattle.byte_planes.specs.ByteLaws.{word_grows}
use Rattle.byte_planes.proofs.Turns.{room, word_next}
use Rattle.byte_planes.proofs.read_word.Goals as goal

pub loop-j-init : goal.loop-j-init
unfolding word_at
loop-j-init c = record { read = refl; below = omega arith }

pub overflow_mul-w : goal.overflow_mul-w
overflow_mul-w c = omega (arith, room c.loop-j.w c.loop-j.j c.loop-j-test.true c.loop-j.invariant.below)

pub overflow_add-w-in-loop-j : goal.overflow_add-w-in-loop-j
overflow_add-w-in-loop-j c =
    omega (arith, room c.loop-j.w c.loop-j.j c.loop-j-test.true c.loop-j.invariant.below, c.type_inv.bytes (c.loop-j.j * c.args.n + c.args.i))

pub loop-j-preserved : goal.loop-j-preserved
loop-j-preserved c =
    let l = c.loop-j in
    let k = l.j * c.args.n + c.args.i in
    record {
      read = word_next c.args.bytes.now c.args.n c.args.i l.j l.invariant.read;
      below = word_grows l.w (get_or c.args.bytes.now k 0) l.j l.invariant.below (omega (arith, c.type_inv.bytes k));
    }
