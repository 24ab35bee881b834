-- `response_bytes::put_in_slot` meets its contract: a response of any layout ends within its slot, and the slot within the page (the model's Ring).
use native.Mathlib.Omega.{arith}
use Rattle.model.specs.Ring.{ring_for}
use Rattle.model.proofs.Ring.{fits-for, slot_at-room}
use Rattle.response_bytes.proofs.put_in_slot.Goals as goal

pub put_fields-requires : goal.put_fields-requires
unfolding ring_for
put_fields-requires c =
    let a = c.args in
    let f = fits-for a.format.abi a.format.pages in
    omega (arith, slot_at-room (ring_for a.format.abi a.format.pages) f a.produced, f.response_room)
