-- Lists of completions, computed on whole buffers in each of the four shapes of ring: the answers, the bytes left and the tags after them.
use mathlib.Core.Path.{◌≡◌, refl}
use mathlib.Core.Bool.{Bool, true, false}
use mathlib.Core.List.{List, [], ◌∷◌, ◌++◌, map}
use Prim.Native.Nat.{ℕ, ◌+◌, ◌*◌, ◌-◌, ◌^◌}
use lib.ListN.{replicate}
use Rattle.wire.specs.LittleEndian.{load, store}
use Rattle.wire.specs.Part.{part, set_part}
use Rattle.model.specs.Base.{tally}
use Rattle.model.specs.Buffers.{pages_of, set_pages}
use Rattle.model.specs.Ring.{set_rsp_prod, rsp_event, ring_for, slot_at, slot_of, request_of, set_response}
use Rattle.model.specs.Port.{zero_params, is_busy, Holder, free, held, distance, after}
use Rattle.model.specs.Calls.{Complete, CompleteAnswer, none_done, all_done, Effect}
use Rattle.model.specs.Turn.{port_id, serial_of, written, responded_all, responded_all_at, tells, notifies_all, request_at}
use Rattle.model.specs.Complete.{completion_at, completions_from, completions_in, status_of, response_for, responses_for, completed}
use Rattle.model.specs.Rules.{names_none, any_names_none, any_names, named_twice, refused_completion, due_complete, effect_due}
use Rattle.model.specs.Deeds.{starting}
use Rattle.model.specs.Backend.{Backend, empty_backend, view_of, with_port, with_tag, with_pointer, does, does_all, next, event_on, after_call}
use Rattle.model.specs.declared.Abi.{Abi}
use Rattle.model.specs.declared.Pages.{Pages}
use Rattle.model.specs.declared.Params.{Params}
use Rattle.model.specs.declared.Refusal.{Refusal}
use Rattle.model.specs.declared.State.{State}
use Rattle.model.specs.declared.Status.{Status}
use Rattle.cases.proofs.Buffers.{header, asking}

-- ---- a port with three requests started

-- A shape of ring: its layout and pages, and of its slots the bytes, where the id stands, and how many there are. The last three are numbers of the test's own.
record Shape : Type 0 where
  abi : Abi
  pages : Pages
  bytes : ℕ
  id_at : ℕ
  slots : ℕ

abbrev one64 : Shape
one64 = record { abi = Abi.Bits64; pages = Pages.One; bytes = 112; id_at = 8; slots = 32 }

abbrev two64 : Shape
two64 = record { abi = Abi.Bits64; pages = Pages.Two; bytes = 112; id_at = 8; slots = 64 }

abbrev one32 : Shape
one32 = record { abi = Abi.Bits32; pages = Pages.One; bytes = 108; id_at = 4; slots = 32 }

abbrev two32 : Shape
two32 = record { abi = Abi.Bits32; pages = Pages.Two; bytes = 108; id_at = 4; slots = 64 }

-- the ring's last two slots and its first: those of indices 2^32 - 2, 2^32 - 1 and 0
abbrev first : ℕ
first = 2 ^ 32 - 2

-- the rings with a read, a write and a read of port 1 in them, and this rsp_event
lent : Shape → ℕ → List ℕ
lent s event =
    let one = asking s.bytes s.id_at (header 1 event) (s.slots - 2) 0 0x1122334455667701 2001 in
    let two = asking s.bytes s.id_at one (s.slots - 1) 1 0x1122334455667702 2002 in
    let three = asking s.bytes s.id_at two 0 0 0x1122334455667703 2003 in
    replicate 8192 0 ++ (three ++ replicate 49152 0)

params_for : Shape → Params
params_for s = record {
  writable = true;
  barrier = false;
  flush = false;
  discard = false;
  secure = false;
  sector = zero_params.sector;
  sectors = 2008;
  abi = s.abi;
  pages = s.pages;
}

-- port 1 after the starts of the three, under tags 0 to 2, of eight sectors each
started : Shape → Backend
started s =
    let r = lent s 0 in
    does_all (with_port empty_backend 1 (record { state = State.Open; params = params_for s; consumed = first; produced = first; busy = 0 }))
    (starting 1 r 0 first 8 ∷ starting 1 r 1 (after first) 8 ∷ starting 1 r 2 0 8 ∷ [])

-- ---- the lists

-- the third with too few sectors, the first as expected, the second not supported
abbrev all : List ℕ
all = 2 ∷ 0 ∷ 7 ∷ 0 ∷ 0xfffffffe ∷ 8 ∷ 1 ∷ 0xffffffff ∷ 0xffffffffffffffa1 ∷ []

-- the same with another serial in its last entry
abbrev wrong : List ℕ
wrong = 2 ∷ 0 ∷ 7 ∷ 0 ∷ 0xfffffffe ∷ 8 ∷ 1 ∷ 0xfffffffe ∷ 0xffffffffffffffa1 ∷ []

-- what a list leaves and answers, with this rsp_event
abbrev effect : Shape → ℕ → List ℕ → Effect (Complete [] (port_id 1) [])
effect s event entries = (event_on (started s) (Complete (lent s event) (port_id 1) entries)).effect

-- ---- what is computed

-- of an effect: the answer, the header's 16 bytes, and the first 24 bytes of the three slots
record Left : Type 0 where
  answer : CompleteAnswer
  indices : List ℕ
  before : List ℕ
  last : List ℕ
  zeroth : List ℕ

bytes_in : List ℕ → ℕ → ℕ → List ℕ
bytes_in r at n = part n r (8192 + at)

abbrev left_by : Shape → Effect (Complete [] (port_id 1) []) → Left
left_by s e = record {
  answer = e.answer;
  indices = bytes_in e.rings 0 16;
  before = bytes_in e.rings (64 + s.bytes * (s.slots - 2)) 24;
  last = bytes_in e.rings (64 + s.bytes * (s.slots - 1)) 24;
  zeroth = bytes_in e.rings 64 24;
}

-- of the port after a call: rsp_prod_pvt, the marks, and its three tags
record After : Type 0 where
  produced : ℕ
  busy : ℕ
  tags : List Holder

port_after : Shape → List ℕ → After
port_after s entries =
    let b = after_call (started s) (Complete (lent s 0) (port_id 1) entries) in
    record { produced = (b.port 1).produced; busy = (b.port 1).busy; tags = map ((view_of b).tag 1) (0 ∷ 1 ∷ 2 ∷ []) }

answer : Shape → ℕ → List ℕ → CompleteAnswer
answer s event entries = (effect s event entries).answer

abbrev done : Bool → CompleteAnswer
done notify = all_done (port_id 1) (Status.Error ∷ Status.Okay ∷ Status.NotSupported ∷ []) notify

abbrev keeps : ℕ → ℕ → ℕ → Holder
keeps id operation serial = held (record { pair = record { id = id; operation = operation }; serial = serial_of serial; expected = 8 })

-- The responses that a list of the three leaves: id, operation, a zero, status; and in the 64-bit layout four bytes of padding. The slots' other bytes stay:
-- the start sectors, and of a 32-bit guest the frame besides.
record Responses : Type 0 where
  third : List ℕ
  first : List ℕ
  second : List ℕ

abbrev in64 : Responses
in64 = record {
  third = 0x03 ∷ 0x77 ∷ 0x66 ∷ 0x55 ∷ 0x44 ∷ 0x33 ∷ 0x22 ∷ 0x11 ∷ 0 ∷ 0 ∷ 0xff ∷ 0xff ∷ 0 ∷ 0 ∷ 0 ∷ 0 ∷ 0xd1 ∷ 0x07 ∷ 0 ∷ 0 ∷ 0 ∷ 0 ∷ 0 ∷ 0 ∷ [];
  first = 0x01 ∷ 0x77 ∷ 0x66 ∷ 0x55 ∷ 0x44 ∷ 0x33 ∷ 0x22 ∷ 0x11 ∷ 0 ∷ 0 ∷ 0 ∷ 0 ∷ 0 ∷ 0 ∷ 0 ∷ 0 ∷ 0xd2 ∷ 0x07 ∷ 0 ∷ 0 ∷ 0 ∷ 0 ∷ 0 ∷ 0 ∷ [];
  second = 0x02 ∷ 0x77 ∷ 0x66 ∷ 0x55 ∷ 0x44 ∷ 0x33 ∷ 0x22 ∷ 0x11 ∷ 1 ∷ 0 ∷ 0xfe ∷ 0xff ∷ 0 ∷ 0 ∷ 0 ∷ 0 ∷ 0xd3 ∷ 0x07 ∷ 0 ∷ 0 ∷ 0 ∷ 0 ∷ 0 ∷ 0 ∷ [];
}

abbrev in32 : Responses
in32 = record {
  third = 0x03 ∷ 0x77 ∷ 0x66 ∷ 0x55 ∷ 0x44 ∷ 0x33 ∷ 0x22 ∷ 0x11 ∷ 0 ∷ 0 ∷ 0xff ∷ 0xff ∷ 0xd1 ∷ 0x07 ∷ 0 ∷ 0 ∷ 0 ∷ 0 ∷ 0 ∷ 0 ∷ 5 ∷ 0 ∷ 0 ∷ 0 ∷ [];
  first = 0x01 ∷ 0x77 ∷ 0x66 ∷ 0x55 ∷ 0x44 ∷ 0x33 ∷ 0x22 ∷ 0x11 ∷ 0 ∷ 0 ∷ 0 ∷ 0 ∷ 0xd2 ∷ 0x07 ∷ 0 ∷ 0 ∷ 0 ∷ 0 ∷ 0 ∷ 0 ∷ 5 ∷ 0 ∷ 0 ∷ 0 ∷ [];
  second = 0x02 ∷ 0x77 ∷ 0x66 ∷ 0x55 ∷ 0x44 ∷ 0x33 ∷ 0x22 ∷ 0x11 ∷ 1 ∷ 0 ∷ 0xfe ∷ 0xff ∷ 0xd3 ∷ 0x07 ∷ 0 ∷ 0 ∷ 0 ∷ 0 ∷ 0 ∷ 0 ∷ 5 ∷ 0 ∷ 0 ∷ 0 ∷ [];
}

record Computed (s : Shape) (r : Responses) : Type 0 where
  -- in the list's order, in the ring's last two slots and its first; rsp_prod is stored as 1, three after 2^32 - 2, and the page's other indices stay
  listed : left_by s (effect s 1 all) ≡
      record {
        answer = done true;
        indices = 1 ∷ 0 ∷ 0 ∷ 0 ∷ 0 ∷ 0 ∷ 0 ∷ 0 ∷ 1 ∷ 0 ∷ 0 ∷ 0 ∷ 1 ∷ 0 ∷ 0 ∷ 0 ∷ [];
        before = r.third;
        last = r.first;
        zeroth = r.second;
      }
  -- not told where rsp_event is not reached
  untold : answer s 2 all ≡ done false
  -- and every tag is free
  freed : port_after s all ≡ record { produced = 1; busy = 0; tags = free ∷ free ∷ free ∷ [] }

-- the same in every shape
record Once (s : Shape) : Type 0 where
  -- told where rsp_event was passed in this call, from its first response on
  passed : answer s 0xfffffffe all ≡ done false
  reached : answer s 0xffffffff all ≡ done true
  -- an empty list writes nothing and tells nothing
  empty : effect s 1 [] ≡ record { rings = lent s 1; answer = all_done (port_id 1) [] false }
  -- one wrong entry, the last: nothing is done
  refused : effect s 1 wrong ≡ record { rings = lent s 1; answer = none_done Refusal.NotBusy }
  kept : port_after s wrong ≡
      record {
        produced = 0xfffffffe;
        busy = 7;
        tags = keeps 0x1122334455667701 0 0xfffffffe ∷ keeps 0x1122334455667702 1 0xffffffff ∷ keeps 0x1122334455667703 0 0 ∷ [];
      }
  -- a tag named twice; entries that are not whole; as many as there may be, and one more
  twice : answer s 1 (2 ∷ 0 ∷ 7 ∷ 0 ∷ 0xfffffffe ∷ 8 ∷ 2 ∷ 0 ∷ 7 ∷ []) ≡ none_done Refusal.NotBusy
  torn : answer s 1 (2 ∷ 0 ∷ []) ≡ none_done Refusal.WrongLength
  most : answer s 1 (replicate 192 0) ≡ none_done Refusal.NotBusy
  too_many : answer s 1 (replicate 195 0) ≡ none_done Refusal.TooMany

record Shapes : Type 0 where
  one_of64 : Computed one64 in64
  two_of64 : Computed two64 in64
  one_of32 : Computed one32 in32
  two_of32 : Computed two32 in32

shapes : Shapes
unfolding lent params_for started bytes_in port_after answer header asking load store part set_part tally pages_of set_pages set_rsp_prod rsp_event ring_for slot_at slot_of request_of set_response is_busy distance written responded_all responded_all_at tells notifies_all request_at completion_at completions_from completions_in status_of response_for responses_for completed names_none any_names_none any_names named_twice refused_completion due_complete effect_due view_of with_port with_tag with_pointer does next
shapes = record {
  one_of64 = record { listed = refl; untold = refl; freed = refl };
  two_of64 = record { listed = refl; untold = refl; freed = refl };
  one_of32 = record { listed = refl; untold = refl; freed = refl };
  two_of32 = record { listed = refl; untold = refl; freed = refl };
}

once : Once two32
unfolding lent params_for started bytes_in port_after answer header asking load store part set_part tally pages_of set_pages set_rsp_prod rsp_event ring_for slot_at slot_of request_of set_response is_busy distance written responded_all responded_all_at tells notifies_all request_at completion_at completions_from completions_in status_of response_for responses_for completed names_none any_names_none any_names named_twice refused_completion due_complete effect_due view_of with_port with_tag with_pointer does next
once = record { passed = refl; reached = refl; empty = refl; refused = refl; kept = refl; twice = refl; torn = refl; most = refl; too_many = refl }
