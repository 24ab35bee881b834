-- `frontend::putting::place` meets its contract: the page first, then the words. Assumes nothing.
use Rattle.asking.specs.Request.{request_in}
use Rattle.outstanding.specs.Words.{guest_of}
use Rattle.frontend.proofs.putting.place.Goals as goal

pub returns : goal.returns
unfolding request_in guest_of
returns c =
    record {
      answered = rw (← c.index_at.ensures) c.publish-notify.ensures.1;
      page_put = rw (← c.index_at.ensures) c.publish-notify.ensures.0;
      words = c.add.ensures;
      sized = c.told-guest;
    }
