-- `ring::page::req_prod` meets its contract: the page's first bytes, read in the rings (the model's Page).
use Rattle.std.proofs.Common.{arith}
use Rattle.model.proofs.Page.{req-prod-at}
use Rattle.ring.proofs.page.req_prod.Goals as goal

pub returns : goal.returns
returns c g room within =
    let a = c.args in
    rw (c.load.ensures, c.get.ensures) (req-prod-at g room within a.rings.now a.k.index (omega arith) (omega arith))
