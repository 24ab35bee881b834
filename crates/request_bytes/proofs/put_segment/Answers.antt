-- `request_bytes::put_segment` meets its contract. Assumes nothing.
use Rattle.asking.specs.Slot.{set_segment}
use Rattle.request_bytes.proofs.Segments.{store_one}
use Rattle.request_bytes.proofs.put_segment.Goals as goal
use Rattle.wire.proofs.LittleEndian.{store-mod}

pub returns : goal.returns
unfolding set_segment
returns c =
    rw (c.store.ensures, store-mod 4 c.args.slot.now c.segment_at-at.result c.args.frame, c.segment_at-at.ensures.0) (simp store_one)
