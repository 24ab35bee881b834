-- Section 2 of docs/RULES.md: the header of a ring, its slots, a request read from a slot, a response written to one. Numbers are little-endian
-- (rule 2.1), by `load` and `store`.
use Rattle.std.specs.Prelude.{ℕ, zero, suc, ◌+◌, ◌-◌, ◌*◌, ◌%◌, List, [], ◌∷◌, get_or, ℤ, pos, negsuc}
use Rattle.std.specs.Int.{w16}
use Rattle.std.proofs.Common.{of_z}
use Rattle.wire.specs.LittleEndian.{load, store}
use Rattle.wire.specs.Part.{part}
use Rattle.model.specs.declared.Abi.{Abi}
use Rattle.model.specs.declared.Pages.{Pages}
use Rattle.model.specs.declared.Params.{Params}
use Rattle.model.specs.declared.Pair.{Pair}
use Rattle.model.specs.declared.Segment.{Segment}
use Rattle.model.specs.declared.Status.{Status}

-- the bytes of the header, and where its four fields stand, as in ring.h (rules 1.18 and 2.2)
abbrev pub header_size : ℕ
header_size = 64

abbrev pub req_prod_at : ℕ
req_prod_at = 0

abbrev pub req_event_at : ℕ
req_event_at = 4

abbrev pub rsp_prod_at : ℕ
rsp_prod_at = 8

abbrev pub rsp_event_at : ℕ
rsp_event_at = 12

-- what the backend reads of them and writes,
unfoldable pub req_prod : List ℕ → ℕ
req_prod page = load 4 page req_prod_at

unfoldable pub set_req_event : List ℕ → ℕ → List ℕ
set_req_event page v = store 4 page req_event_at v

unfoldable pub set_rsp_prod : List ℕ → ℕ → List ℕ
set_rsp_prod page v = store 4 page rsp_prod_at v

unfoldable pub rsp_event : List ℕ → ℕ
rsp_event page = load 4 page rsp_event_at

-- and the guest
unfoldable pub set_req_prod : List ℕ → ℕ → List ℕ
set_req_prod page v = store 4 page req_prod_at v

unfoldable pub req_event : List ℕ → ℕ
req_event page = load 4 page req_event_at

unfoldable pub rsp_prod : List ℕ → ℕ
rsp_prod page = load 4 page rsp_prod_at

unfoldable pub set_rsp_event : List ℕ → ℕ → List ℕ
set_rsp_event page v = store 4 page rsp_event_at v

-- the bytes of the largest slot (rule 2.3)
abbrev pub slot_bytes : ℕ
slot_bytes = 112

-- The numbers of a record layout: the bytes of a slot, where a request keeps its id, its start sector and its segments (a discard its sector count), and
-- the bytes of a response (rules 2.3, 2.5, 2.8 and 2.10).
pub record Layout : Type 0 where
  pub slot_size : ℕ
  pub id_at : ℕ
  pub start_at : ℕ
  pub segments_at : ℕ
  pub response_size : ℕ

-- the two layouts (rule 1.16)
abbrev pub layout_of : Abi → Layout
layout_of Abi.Bits64 = record { slot_size = slot_bytes; id_at = 8; start_at = 16; segments_at = 24; response_size = 16 }
layout_of Abi.Bits32 = record { slot_size = 108; id_at = 4; start_at = 12; segments_at = 20; response_size = 12 }

-- the bytes of a request up to its handle, and those from its id on: both layouts have the same of them, in one order (rules 2.5 and 2.8)
abbrev pub head_size : ℕ
head_size = 4

abbrev pub rest_size : ℕ
rest_size = 104

-- A port's ring: its layout, how many slots it has, and how many bytes (rules 1.3 and 2.3).
pub record Ring : Type 0 where
  pub layout : Layout
  pub size : ℕ
  pub bytes : ℕ

-- the bytes of a page, and the slots that a ring has for each of its pages (rules 1.3 and 2.3)
abbrev pub page_bytes : ℕ
page_bytes = 4096

abbrev pub page_slots : ℕ
page_slots = 32

-- how many pages these are (rule 2.3)
abbrev pub page_count : Pages → ℕ
page_count Pages.One = 1
page_count Pages.Two = 2

-- the ring of a layout, in so many pages (rules 1.16 and 2.3)
unfoldable pub ring_for : Abi → Pages → Ring
ring_for a n = record { layout = layout_of a; size = page_slots * page_count n; bytes = page_bytes * page_count n }

-- the ring that a node sheet asks for (rule 3.5)
abbrev pub ring_of : Params → Ring
ring_of p = ring_for p.abi p.pages

-- where in its pages the slot of index i begins (rule 2.4)
unfoldable pub slot_at : Ring → ℕ → ℕ
slot_at g i = header_size + g.layout.slot_size * (i % g.size)

-- the bytes of the slot of index i (rules 2.3 and 2.4)
unfoldable pub slot_of : Ring → List ℕ → ℕ → List ℕ
slot_of g page i = part g.layout.slot_size page (slot_at g i)

-- the bytes of a segment, and where its first and last sector stand in it (rule 2.6)
abbrev pub segment_size : ℕ
segment_size = 8

abbrev pub segment_first_at : ℕ
segment_first_at = 4

abbrev pub segment_last_at : ℕ
segment_last_at = 5

-- segment i of a slot (rule 2.6)
unfoldable pub segment_of : Layout → List ℕ → ℕ → Segment
segment_of l slot i = record {
  frame = load 4 slot (l.segments_at + segment_size * i);
  first = get_or slot (l.segments_at + segment_size * i + segment_first_at) 0;
  last = get_or slot (l.segments_at + segment_size * i + segment_last_at) 0;
}

-- n segments, from number i on (rule 2.5)
unfoldable pub segments_of : ℕ → Layout → List ℕ → ℕ → List Segment
segments_of zero l slot i = []
segments_of (suc n) l slot i = segment_of l slot i ∷ segments_of n l slot (suc i)

-- where a request of any layout keeps its operation, and its segment count or flag (rules 2.5 and 2.8)
abbrev pub request_operation_at : ℕ
request_operation_at = 0

abbrev pub request_count_at : ℕ
request_count_at = 1

-- A request as its slot's bytes say it (rules 2.5 and 2.8). Byte 1 and the bytes from `segments_at` are read both ways, as a segment count with its
-- segments and as a discard's flag with its sector count: the operation says which reading counts.
pub record Request : Type 0 where
  pub pair : Pair
  pub n : ℕ
  pub flag : ℕ
  pub start : ℕ
  pub segments : List Segment
  pub sectors : ℕ

-- the request in a slot; its handle is not looked at (rules 2.5 and 2.8)
unfoldable pub request_of : Layout → List ℕ → Request
request_of l slot = record {
  pair = record { id = load 8 slot l.id_at; operation = get_or slot request_operation_at 0 };
  n = get_or slot request_count_at 0;
  flag = get_or slot request_count_at 0;
  start = load 8 slot l.start_at;
  segments = segments_of (get_or slot request_count_at 0) l slot 0;
  sectors = load 8 slot l.segments_at;
}

-- a status as a number (rule 2.12); `negsuc n` is -(n + 1)
abbrev pub status_number : Status → ℤ
status_number Status.Okay = pos 0
status_number Status.Error = negsuc 0
status_number Status.NotSupported = negsuc 1

-- the 16 bits that a response has for it (rules 2.10 and 2.12)
abbrev pub status_bits : Status → ℕ
status_bits s = of_z w16 (status_number s)

-- where a response of any layout, which begins with its id, keeps its operation and its status, and where its padding starts (rule 2.10)
abbrev pub response_operation_at : ℕ
response_operation_at = 8

abbrev pub response_status_at : ℕ
response_status_at = 10

abbrev pub response_padding_at : ℕ
response_padding_at = 12

-- the page with a response at a place: every byte of it is written, padding too (rules 2.10 and 10.5), and none behind it in the slot (rule 2.11)
unfoldable pub set_response : Layout → List ℕ → ℕ → Pair → Status → List ℕ
set_response l page at q s =
    store (l.response_size - response_padding_at)
    (store 2
    (store 1 (store 1 (store 8 page at q.id) (at + response_operation_at) q.operation) (at + (response_operation_at + 1)) 0)
    (at + response_status_at) (status_bits s))
    (at + response_padding_at) 0

-- A response as a guest reads it (rule 6.2): the id and operation of the one at a place of the page,
unfoldable pub response_pair : List ℕ → ℕ → Pair
response_pair page at = record { id = load 8 page at; operation = get_or page (at + response_operation_at) 0 }

-- and the 16 bits of its status
unfoldable pub response_status : List ℕ → ℕ → ℕ
response_status page at = load 2 page (at + response_status_at)

-- the operations that are known (rule 2.13)
abbrev pub read : ℕ
read = 0

abbrev pub write : ℕ
write = 1

abbrev pub barrier : ℕ
barrier = 2

abbrev pub flush : ℕ
flush = 3

abbrev pub discard : ℕ
discard = 5
