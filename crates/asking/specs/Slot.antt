-- A request in its slot, with the 64-bit layout: what `request_of` reads. Where its fields stand is said in model's Ring, and only there.
use Rattle.std.specs.Prelude.{ℕ, suc, ◌+◌, ◌*◌, ◌%◌, cond, List, [], ◌∷◌, replicate}
use Rattle.wire.specs.LittleEndian.{store}
use Rattle.model.specs.Ring.{Layout, Request, layout_of, slot_bytes, segment_size, segment_first_at, segment_last_at, request_operation_at, request_count_at, discard}
use Rattle.model.specs.Checks.{is_a, moves_nothing}
use Rattle.model.specs.declared.Abi.{Abi}
use Rattle.model.specs.declared.Pair.{Pair}
use Rattle.model.specs.declared.Segment.{Segment}

-- the layout of a guest's page (rule 16.1)
abbrev pub guest_layout : Layout
guest_layout = layout_of Abi.Bits64

-- segment i
unfoldable pub set_segment : List ℕ → ℕ → Segment → List ℕ
set_segment slot i s =
    let at = guest_layout.segments_at + segment_size * i in
    store 1 (store 1 (store 4 slot at s.frame) (at + segment_first_at) s.first) (at + segment_last_at) s.last

-- segments from number i on
unfoldable pub set_segments : List ℕ → ℕ → List Segment → List ℕ
set_segments slot i [] = slot
set_segments slot i (s ∷ ss) = set_segments (set_segment slot i s) (suc i) ss

-- Zeros with an operation, a segment count or flag, an id and a start: all else of the slot is zero, the handle too (rule 16.8).
unfoldable pub head_of : Pair → ℕ → ℕ → List ℕ
head_of q second start =
    store 8
    (store 8 (store 1 (store 1 (replicate slot_bytes 0) request_operation_at q.operation) request_count_at second) guest_layout.id_at q.id)
    guest_layout.start_at start

-- of a discard: bit 0 of its flag, and its sectors (rule 16.8)
unfoldable pub discard_slot : Request → List ℕ
discard_slot r = store 8 (head_of r.pair (r.flag % 2) r.start) guest_layout.segments_at r.sectors

-- of the others: their segments, and no start where nothing moves (rule 16.8)
unfoldable pub segments_slot : Request → List ℕ
segments_slot r = set_segments (head_of r.pair r.n (cond (moves_nothing r) 0 r.start)) 0 r.segments

-- all 112 bytes
unfoldable pub slot_for : Request → List ℕ
slot_for r = cond (is_a discard r) (discard_slot r) (segments_slot r)
