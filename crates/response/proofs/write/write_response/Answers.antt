-- `response::write::write_response` meets its contract: rsp_event is as it was (Responses).
use Rattle.model.specs.Ring.{ring_for}
use Rattle.model.specs.Turn.{written, responded_all, responded}
use Rattle.response.proofs.Responses.{event_left}
use Rattle.response.proofs.write.write_response.Goals as goal

pub returns : goal.returns
unfolding ring_for responded responded_all written
returns c =
    let a = c.args in
    record {
      page = rw (c.publish.ensures.page, c.put_response.ensures);
      notify = rw (c.publish.ensures.notify, c.put_response.ensures, event_left a.format.abi a.format.pages a.page.now a.produced a.pair a.status);
    }
