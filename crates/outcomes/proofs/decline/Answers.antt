-- `outcomes::decline` meets its contract, by the response given and three writes of the memory. What the ring is and R are read after the first write, which
-- left them as they were.
use mathlib.Core.Path.{◌≡◌, ◌∙◌, ap}
use Rattle.model.specs.Port.{after}
use Rattle.model.proofs.View.{view-responded, view-notifies}
use Rattle.memory.specs.Backend.{backend_of}
use Rattle.outcomes.proofs.Outcomes.{answered, consumed-raised}
use Rattle.outcomes.proofs.decline.Goals as goal

pub returns : goal.returns
returns c =
    let a = c.args in
    let o = c.requires in
    let port = consumed-raised a.k.index c.next_index.result a.p o c.set_consumed.ensures in
    let next : c.produced-produced.result ≡ a.p.produced = rw port at c.produced-produced.ensures in
    let layout : c.format-format.result.abi ≡ a.p.params.abi = rw port at c.format-format.ensures.0 in
    let pages : c.format-format.result.pages ≡ a.p.params.pages = rw port at c.format-format.ensures.1 in
    record {
      rings = rw (view-responded (backend_of a.memory.now) a.k.index a.rings.now a.pair a.fault.status, ← o.read) (rw (next, layout, pages) at c.respond-notify.ensures.rings);
      answer = rw (view-notifies (backend_of a.memory.now) a.k.index a.rings.now, ← o.read, rw (next, layout, pages) at c.respond-notify.ensures.notify, c.id.ensures);
      memory =
          answered a.k.index c.next_index.result c.next_index-2.result a.p o c.next_index.ensures (c.next_index-2.ensures ∙ ap after next)
          c.set_consumed.ensures c.set_produced.ensures c.advance.ensures;
    }
