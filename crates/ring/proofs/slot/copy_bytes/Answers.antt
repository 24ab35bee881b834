-- `ring::slot::copy_bytes` meets its contract. The invariant: so far as many bytes are copied as the loop has counted (Copy).
use Rattle.std.proofs.Common.{arith, length-set}
use Rattle.ring.proofs.Copy.{copied_more}
use Rattle.ring.proofs.slot.copy_bytes.Goals as goal

pub loop-i-preserved : goal.loop-i-preserved
loop-i-preserved c =
    let a = c.args in
    let l = c.loop-i in
    (simp length-set (omega arith), copied_more l.i a.source.now a.from a.copy.now a.to l.copy l.invariant.1 (omega arith))
