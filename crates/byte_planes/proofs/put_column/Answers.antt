use Rattle.std.proofs.Common.{◌≡◌, ◌++◌, ◌∙◌, ap, add-one, arith, get_or, drop, take_all}
use Rattle.std.specs.Int.Bits.{bit_xor, xor_comm}
use Rattle.byte_planes.specs.Planes.{word_at, restored}
use Rattle.byte_planes.specs.Laws.{length_restored}
use Rattle.byte_planes.proofs.Turns.{column_at, front_next}
use Rattle.byte_planes.proofs.put_column.Goals as goal

pub loop-i-preserved : goal.loop-i-preserved
loop-i-preserved c =
    let l = c.loop-i in
    let a = c.args in
    let s = restored a.bytes.now a.n in
    let e : bit_xor l.previous c.read_word-previous.result ≡ get_or s l.i 0 =
    xor_comm l.previous c.read_word-previous.result ∙ ap (λ x. bit_xor x l.previous) c.read_word-previous.ensures
    ∙ ap (bit_xor (word_at a.bytes.now a.n l.i 8)) l.invariant.before ∙ column_at a.bytes.now a.n l.i (omega arith) in
    record {
      before = rw (add-one l.i) e;
      put = front_next s a.out.now l.out l.i _ (omega (arith, length_restored a.bytes.now a.n)) (omega arith) l.invariant.put e;
    }

pub returns : goal.returns
returns c =
    let a = c.args in
    let s = restored a.bytes.now a.n in
    let e : c.loop-i.i ≡ a.n = omega arith in
    (rw e at c.loop-i.invariant.put) ∙ ap (λ x. x ++ drop a.n a.out.now) (take_all a.n s (omega (arith, length_restored a.bytes.now a.n)))
