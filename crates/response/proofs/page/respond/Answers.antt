-- `response::page::respond` meets its contract: the lent part comes back as the pages put.
use native.Mathlib.Nat.{add-sub_cancel_left}
use Rattle.wire.specs.Part.{part, set_part}
use Rattle.model.specs.Buffers.{pages_of, set_pages}
use Rattle.response.proofs.page.respond.Goals as goal

pub returns : goal.returns
unfolding pages_of set_pages part set_part
returns c =
    let n = c.ring_bytes.ensures.0 c.args.format.abi in
    let e = c.write_response.ensures in
    record { rings = rw (e.page, c.get-base.ensures, add-sub_cancel_left, n); notify = rw (e.notify, c.get-base.ensures, add-sub_cancel_left, n) }
