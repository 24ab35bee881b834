-- `ring::slot::copy_bytes`: so far as many bytes are copied as the loop has counted.
use Rattle.std.proofs.Common.{◌≡◌, length}
use Rattle.ring.specs.Copy.{Copied}
use Rattle.ring.proofs.slot.copy_bytes.Given as goal

abbrev pub invariant-loop-i : goal.invariant-loop-i
invariant-loop-i l = (length l.copy ≡ length l.fn.copy) × Copied l.i l.source l.from l.fn.copy l.to l.copy
