-- `publishing::publish` meets its contract: the store leaves rsp_event as it was (Notify).
use mathlib.Core.Path.{sym}
use Rattle.model.specs.Ring.{rsp_event, set_rsp_prod}
use Rattle.model.specs.Port.{further}
use Rattle.publishing.proofs.Notify.{tells_few, event_kept}
use Rattle.publishing.proofs.publish.Goals as goal

pub returns : goal.returns
unfolding rsp_event set_rsp_prod
returns c =
    let a = c.args in
    record {
      page = rw (c.put_rsp_prod.ensures, c.index_after-next.ensures);
      notify =
          rw (c.distance.ensures, c.load.ensures, c.put_rsp_prod.ensures, c.index_after-next.ensures, event_kept a.page.now (further a.produced a.n))
          (sym (tells_few a.produced a.n _ c.ranges.produced.fits c.ranges.n.fits));
    }
