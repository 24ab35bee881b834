-- `ring::slot::copy_slot` meets its contract: two pieces, and zeros where neither went (Copy).
use Rattle.std.proofs.Common.{arith}
use Rattle.ring.proofs.Copy.{slot-copied}
use Rattle.ring.proofs.slot.copy_slot.Goals as goal

pub returns : goal.returns
returns c =
    let a = c.args in
    slot-copied a.abi a.rings.now _ _ a.at c.requires (omega arith) c.copy_bytes.ensures
    (rw c.id_at.ensures.0 at c.copy_bytes-2.ensures)
