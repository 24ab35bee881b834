-- `request_bytes::put_segments` meets its contract. The invariant: with the segments left the slot is what it is with all. Assumes nothing.
use Rattle.std.proofs.Common.{◌≡◌}
use Rattle.asking.specs.Request.{segments_in}
use Rattle.asking.specs.Slot.{set_segments}
use Rattle.request_bytes.proofs.put_segments.Given as goal
use Rattle.request_bytes.proofs.Segments.{put_on}

abbrev pub invariant-loop-i : goal.invariant-loop-i
invariant-loop-i l = put_on l.request l.n l.i l.slot ≡ set_segments l.initial.slot 0 (segments_in l.n l.request 0)
