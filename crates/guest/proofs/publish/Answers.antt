-- `guest::publish` meets its contract. Assumes nothing.
use Rattle.std.proofs.Common.{◌+◌, ◌-◌, ℕ, eqb, ap, arith}
use Rattle.model.specs.Port.{after}
use Rattle.model.specs.Ring.{slot_bytes, req_event, set_req_prod}
use Rattle.guest.specs.Guest.{put_page}
use Rattle.guest.proofs.publish.Goals as goal
use Rattle.guest.proofs.Pages.{part_put, event-put}

pub returns : goal.returns
unfolding put_page set_req_prod req_event
returns c =
    let page = c.args.page.now in
    let put = part_put page c.slot_at-at.result (c.slot_at-at.result + slot_bytes - c.slot_at-at.result) c.args.slot.now (omega arith) in
    let stored = c.store.ensures in
    let next = c.next_index-next.ensures in (
      rw (stored, c.copy_from_slice.ensures.after, put, c.slot_at-at.ensures, next),
      rw (c.load.ensures, stored, c.copy_from_slice.ensures.after, put, c.slot_at-at.ensures, next)
          (ap (λ (v : ℕ). eqb v (after c.args.i)) (event-put page (omega arith) c.args.i c.args.slot.now (omega arith))),
    )
