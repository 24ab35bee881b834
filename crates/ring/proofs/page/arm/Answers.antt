-- `ring::page::arm` meets its contract: a store in the rings is a store in the page put back (the model's Page).
use Rattle.std.proofs.Common.{arith}
use Rattle.model.specs.Port.{after}
use Rattle.model.proofs.Page.{req-event-at}
use Rattle.ring.proofs.page.arm.Goals as goal

pub returns : goal.returns
returns c g room within =
    let a = c.args in
    rw (c.store.ensures, c.next_index.ensures, c.get.ensures)
    (req-event-at g room within a.rings.now a.k.index (omega arith) (omega arith) (after a.consumed))
