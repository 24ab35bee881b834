-- `ring::slot::slot_at` meets its contract: the place as the rules compute it.
use Rattle.model.specs.Ring.{ring_for, slot_at}
use Rattle.ring.proofs.slot.slot_at.Goals as goal

pub returns : goal.returns
unfolding slot_at ring_for
returns c = rw (c.slot_size.ensures.0, c.ring_size.ensures.0 c.args.format.abi)
