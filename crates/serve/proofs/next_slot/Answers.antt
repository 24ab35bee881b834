-- `serve::next_slot` meets its contract: the slot lies in its port's share (Taking), so the sum does not wrap.
use native.Mathlib.Omega.{arith}
use Rattle.serve.proofs.Taking.{slot-within}
use Rattle.serve.proofs.next_slot.Goals as goal

pub overflow_add-result : goal.overflow_add-result
overflow_add-result c =
    record { fits = omega (arith, c.slot_at.ensures, slot-within c.format-format.result.abi c.format-format.result.pages c.consumed.result) }
