-- A history of calls on whole buffers, computed, with every kind of event: the answers, the books, the turns and the bytes that the definitions give.
use mathlib.Core.Path.{◌≡◌, refl}
use mathlib.Core.Bool.{Bool, true, false}
use mathlib.Core.List.{List, [], ◌∷◌, ◌++◌}
use mathlib.Core.Option.{Option, none, some}
use Prim.Native.Nat.{ℕ, zero, suc, ◌+◌, ◌*◌}
use lib.IntN.{pos, negsuc}
use lib.ListN.{drop, replicate}
use Rattle.std.specs.Prelude.{Result, Ok, Err}
use Rattle.wire.specs.LittleEndian.{load, store}
use Rattle.wire.specs.Part.{part, set_part}
use Rattle.model.specs.Base.{all, same, least, tally}
use Rattle.model.specs.Buffers.{pages_of, set_pages, grants_of}
use Rattle.model.specs.Ring.{req_prod, set_req_event, set_rsp_prod, rsp_event, ring_for, slot_at, slot_of, segment_of, segments_of, request_of, set_response, response_pair, response_status}
use Rattle.model.specs.NodeSheet.{entry_at, body_length, entries_from, entries_of, bodies_end, well_formed, rising, is_digit, digits_from, capped, digits_of, number_of, choice_body, number_body, is_sector_size, is_allowed, body_of, after_body, after_bodies, value_of, absent, values_of, present, params_of, has_required, sheet_of}
use Rattle.model.specs.Port.{is_busy, in_flight_of, lowest_free, distance, pending_of}
use Rattle.model.specs.Checks.{is_empty_barrier, moves_nothing, sectors_in, total_sectors, count_of, data_segments, is_aligned, is_on_boundaries, is_granted, unknown_operation, feature_off, read_only, wrong_amount, is_within_frame, wrong_segment, not_granted, past_end, unaligned, operation_checks, segment_checks, disk_checks, checks}
use Rattle.model.specs.Plan.{extents_from, extents_of, extent_words, words_beside, asks_secure, is_secure, plan_of, verdict_of}
use Rattle.model.specs.Calls.{Call, Open, Close, Turn, Complete, Effect, Event}
use Rattle.model.specs.Turn.{port_id, tag_id, serial_of, pending_at, has_work, passed_over, armed, idle, written, responded_all, responded_all_at, tells, notifies_all, responded, responded_at, notifies, request_at, settled, overran, served_by, turned}
use Rattle.model.specs.Complete.{completion_at, completions_from, completions_in, the_one, expected_of, status_of, response_for, responses_for, completed}
use Rattle.model.specs.Rules.{opened_by, due_open, due_close, due_turn, names_none, any_names_none, any_names, named_twice, refused_completion, due_complete, effect_due}
use Rattle.model.specs.Backend.{Backend, empty_backend, view_of, with_port, with_tag, with_pointer, does, next, after_call}
use Rattle.model.specs.History.{Response, Book, asked, said as said_in, answer_to, book, unfinished, pairs_of, has_to_serve, Seen, turns_of, history_from, history}
use Rattle.model.specs.Answers.{turned_number, turned_words, completed_number, done_left, reply_number}
use Rattle.model.specs.declared.Pair.{Pair}
use Rattle.model.specs.declared.Port.{Port}
use Rattle.model.specs.declared.Refusal.{Refusal}
use Rattle.model.specs.declared.State.{State}
use Rattle.model.specs.declared.Status.{Status}
use Rattle.model.specs.declared.Turned.{Turned}
use Rattle.cases.proofs.Buffers.{sheet, sheet32, sheet_two, sheet32_two, header, asking, page64, page32, grants, words, rings}

-- ---- buffers

-- a read of port 2, whose guest has 32 bits and one page, and a write of port 3, whose guest has 64 and two, wait
both : List ℕ
both = rings (page32 1 0 0 0x21 2000) (page64 1 0 1 0x31 2000)

-- port 2 has an unknown operation waiting, after its read
unknown : List ℕ
unknown = rings (page32 2 1 9 0x22 0) (page64 1 0 1 0x31 2000)

-- port 2 has another one waiting, and port 3's req_prod says one request too many: 63 may wait beside the one in flight
overfull : List ℕ
overfull = rings (page32 3 2 9 0x24 0) (page64 65 0 0 0 0)

-- port 2, opened once more and for a 64-bit guest, has a request waiting
again : List ℕ
again = rings (page64 1 0 0 0x23 2000) (page64 65 0 0 0 0)

-- port 3, opened once more for a 32-bit guest with two pages, has three requests waiting, and its rsp_event is 3
three : List ℕ
three =
    let one = asking 108 4 (header 3 3) 0 0 0x41 2000 in
    let two = asking 108 4 one 1 1 0x42 2000 in
    rings (page64 1 0 0 0x23 2000) (asking 108 4 two 2 0 0x43 2000)

-- ---- a history

-- every kind of event up to a close, each refusal of a call among them
earlier : List Call
earlier =
    Open (port_id 2) sheet32
    ∷ Open (port_id 3) sheet_two
    ∷ Open (port_id 3) sheet32
    ∷ Open (port_id 8) sheet
    -- an empty sheet; a node that does not rise; a text that is no mode; a number that is no sector size; nodes missing
    ∷ Open (port_id 4) []
    ∷ Open (port_id 4) (2 ∷ 1 ∷ 0 ∷ 1 ∷ 0 ∷ 1 ∷ 0 ∷ 1 ∷ 0 ∷ 119 ∷ 119 ∷ [])
    ∷ Open (port_id 4) (1 ∷ 1 ∷ 0 ∷ 1 ∷ 0 ∷ 120 ∷ [])
    ∷ Open (port_id 4) (1 ∷ 6 ∷ 0 ∷ 1 ∷ 0 ∷ 53 ∷ [])
    ∷ Open (port_id 4) (0 ∷ [])
    -- port 2, then port 3, then port 2, then none
    ∷ Turn both grants words
    ∷ Turn both grants words
    ∷ Turn unknown grants words
    ∷ Turn unknown grants words
    ∷ Turn [] grants words
    ∷ Turn unknown [] words
    ∷ Close (port_id 2)
    ∷ Close (port_id 8)
    ∷ Close (port_id 4)
    -- no rings; no port; a closed one; a tag that the ring has not; a free one; another serial
    ∷ Complete [] (port_id 9) (the_one (tag_id 0) (serial_of 0) (pos 8))
    ∷ Complete unknown (port_id 8) (the_one (tag_id 0) (serial_of 0) (pos 8))
    ∷ Complete unknown (port_id 4) (the_one (tag_id 0) (serial_of 0) (pos 8))
    ∷ Complete unknown (port_id 2) (the_one (tag_id 32) (serial_of 0) (pos 8))
    ∷ Complete unknown (port_id 2) (the_one (tag_id 1) (serial_of 0) (pos 8))
    ∷ Complete unknown (port_id 2) (the_one (tag_id 0) (serial_of 1) (pos 8))
    -- and the one that was started; then the same, doubled
    ∷ Complete unknown (port_id 2) (the_one (tag_id 0) (serial_of 0) (pos 8))
    ∷ Complete unknown (port_id 2) (the_one (tag_id 0) (serial_of 0) (pos 8))
    ∷ []

later : List Call
later =
    -- an overrun of port 3, where the idle turn left the pointer; it is then served no more
    Turn overfull grants words
    ∷ Turn overfull grants words
    -- port 2 is closed and opened; its tag and serial come again, and a late completion counts as the new request's own
    ∷ Close (port_id 2)
    ∷ Open (port_id 2) sheet
    ∷ Turn again grants words
    ∷ Complete again (port_id 2) (the_one (tag_id 0) (serial_of 0) (negsuc 94))
    -- the broken port's completion works, and it can be closed
    ∷ Complete again (port_id 3) (the_one (tag_id 0) (serial_of 0) (pos 7))
    ∷ Close (port_id 3)
    -- it is opened once more; three requests are started, and one list ends them, the last one first
    ∷ Open (port_id 3) sheet32_two
    ∷ Turn three grants words
    ∷ Turn three grants words
    ∷ Turn three grants words
    ∷ Complete three (port_id 3) (2 ∷ 2 ∷ 7 ∷ 0 ∷ 0 ∷ 8 ∷ 1 ∷ 1 ∷ 0xffffffffffffffa1 ∷ [])
    -- the same again, and a list of none
    ∷ Complete three (port_id 3) (2 ∷ 2 ∷ 7 ∷ 0 ∷ 0 ∷ 8 ∷ 1 ∷ 1 ∷ 0xffffffffffffffa1 ∷ [])
    ∷ Complete three (port_id 3) []
    ∷ []

-- what is looked at of an event: the refusal's number, or the answer's values
data Said : Type 0 where
  refused : ℕ → Said
  done : List ℕ → Said

abbrev say : ℕ → List ℕ → Said
say zero values = done values
say (suc n) values = refused (suc n)

-- a refused turn has no values (rule 1.14)
abbrev turned_values : Result Turned Refusal → List ℕ
turned_values (Ok did) = turned_words did
turned_values (Err why) = []

abbrev said_by : (c : Call) → Effect c → Said
said_by (Open p s) e = say (reply_number e) []
said_by (Close p) e = say (reply_number e) []
said_by (Turn r g w) e = say (turned_number e.answer) (turned_values e.answer)
said_by (Complete r p entries) e = say (completed_number e.answer) (done_left e.answer [])

-- in the order of the calls, before those already looked at
in_order : List Event → List Said → List Said
in_order [] l = l
in_order (e ∷ h) l = in_order h (said_by e.call e.effect ∷ l)

-- and of a port's books: the pairs taken, the answers, and the pairs unfinished
record Lines : Type 0 where
  taken : List Pair
  answered : List Response
  left : List Pair

abbrev lines_of : Book → Lines
lines_of b = record { taken = pairs_of b.taken; answered = b.answered; left = pairs_of (unfinished b.taken) }

abbrev pair : ℕ → ℕ → Pair
pair id operation = record { id = id; operation = operation }

abbrev response : ℕ → ℕ → ℕ → Status → Response
response id operation status told = record { pair = pair id operation; status = status; told = told }

abbrev turn_seen : Bool → Option ℕ → Seen
turn_seen w j = record { wanted = w; chosen = j }

-- what is looked at of a history whose latest fifteen calls are the later ones
record Looked : Type 0 where
  -- the answers, in the order of the calls
  answers : List Said
  -- the books of port 2 before it was closed, and of port 3 then
  before : Lines
  waiting : Lines
  -- the books of port 2 since it was opened once more, and of port 3
  reopened : Lines
  listed : Lines
  -- the turns as port 3 sees them, the latest first
  turns : List Seen

abbrev looked : List Event → Looked
looked h = record {
  answers = in_order h [];
  before = lines_of (book 2 (drop 15 h));
  waiting = lines_of (book 3 (drop 15 h));
  reopened = lines_of (book 2 h);
  listed = lines_of (book 3 h);
  turns = turns_of 3 h;
}

computed :
    looked (history (earlier ++ later)) ≡
    record {
      answers =
          done []
          ∷ done []
          ∷ refused 3
          ∷ refused 2
          ∷ refused 11
          ∷ refused 12
          ∷ refused 13
          ∷ refused 14
          ∷ refused 15
          ∷ done (1 ∷ 2 ∷ 0 ∷ 0 ∷ 0 ∷ 2000 ∷ 8 ∷ 0 ∷ 1 ∷ 0 ∷ 0 ∷ 0 ∷ [])
          ∷ done (1 ∷ 3 ∷ 0 ∷ 0 ∷ 1 ∷ 2000 ∷ 8 ∷ 0 ∷ 1 ∷ 0 ∷ 0 ∷ 0 ∷ [])
          ∷ done (2 ∷ 2 ∷ 0 ∷ 0 ∷ 0 ∷ 0 ∷ 0 ∷ 0 ∷ 0 ∷ 21 ∷ 2 ∷ 0 ∷ [])
          ∷ done (replicate 12 0)
          ∷ refused 1
          ∷ refused 1
          ∷ refused 5
          ∷ refused 2
          ∷ refused 4
          ∷ refused 1
          ∷ refused 2
          ∷ refused 4
          ∷ refused 6
          ∷ refused 6
          ∷ refused 6
          ∷ done (2 ∷ 0 ∷ 1 ∷ 0 ∷ [])
          ∷ refused 6
          ∷ done (3 ∷ 3 ∷ replicate 10 0)
          ∷ done (2 ∷ 2 ∷ 0 ∷ 0 ∷ 0 ∷ 0 ∷ 0 ∷ 0 ∷ 0 ∷ 21 ∷ 2 ∷ 0 ∷ [])
          ∷ done []
          ∷ done []
          ∷ done (1 ∷ 2 ∷ 0 ∷ 0 ∷ 0 ∷ 2000 ∷ 8 ∷ 0 ∷ 1 ∷ 0 ∷ 0 ∷ 0 ∷ [])
          ∷ done (2 ∷ 2 ∷ 0 ∷ 0 ∷ [])
          ∷ done (3 ∷ 1 ∷ 0 ∷ 0 ∷ [])
          ∷ done []
          ∷ done []
          ∷ done (1 ∷ 3 ∷ 0 ∷ 0 ∷ 0 ∷ 2000 ∷ 8 ∷ 0 ∷ 1 ∷ 0 ∷ 0 ∷ 0 ∷ [])
          ∷ done (1 ∷ 3 ∷ 1 ∷ 1 ∷ 1 ∷ 2000 ∷ 8 ∷ 0 ∷ 1 ∷ 0 ∷ 0 ∷ 0 ∷ [])
          ∷ done (1 ∷ 3 ∷ 2 ∷ 2 ∷ 0 ∷ 2000 ∷ 8 ∷ 0 ∷ 1 ∷ 0 ∷ 0 ∷ 0 ∷ [])
          ∷ done (3 ∷ 1 ∷ 0 ∷ 2 ∷ 1 ∷ 0 ∷ [])
          ∷ refused 6
          ∷ done (3 ∷ 0 ∷ 0 ∷ [])
          ∷ [];
      -- its read was answered after the unknown operation
      before = record { taken = pair 0x22 9 ∷ pair 0x21 0 ∷ []; answered = response 0x21 0 0 Status.Okay ∷ response 0x22 9 0xfffe Status.NotSupported ∷ []; left = [] };
      waiting = record { taken = pair 0x31 1 ∷ []; answered = []; left = pair 0x31 1 ∷ [] };
      reopened = record { taken = pair 0x23 0 ∷ []; answered = response 0x23 0 0xfffe Status.NotSupported ∷ []; left = [] };
      -- the answers in the list's order, the latest first
      listed =
          record {
            taken = pair 0x43 0 ∷ pair 0x42 1 ∷ pair 0x41 0 ∷ [];
            answered = response 0x42 1 0xfffe Status.NotSupported ∷ response 0x41 0 0 Status.Okay ∷ response 0x43 0 0xffff Status.Error ∷ [];
            left = [];
          };
      turns =
          turn_seen true (some 3)
          ∷ turn_seen true (some 3)
          ∷ turn_seen true (some 3)
          ∷ turn_seen false (some 2)
          ∷ turn_seen false (some 2)
          ∷ turn_seen true (some 3)
          ∷ turn_seen false none
          ∷ turn_seen false (some 2)
          ∷ turn_seen true (some 3)
          ∷ turn_seen true (some 2)
          ∷ [];
    }
unfolding header asking rings grants words load store part set_part all same least tally pages_of set_pages grants_of req_prod set_req_event set_rsp_prod rsp_event ring_for slot_at slot_of segment_of segments_of request_of set_response entry_at body_length entries_from entries_of bodies_end well_formed rising is_digit digits_from capped digits_of number_of choice_body number_body is_sector_size is_allowed body_of after_body after_bodies value_of absent values_of present params_of has_required sheet_of is_busy in_flight_of lowest_free distance pending_of is_empty_barrier moves_nothing sectors_in total_sectors count_of data_segments is_aligned is_on_boundaries is_granted unknown_operation feature_off read_only wrong_amount is_within_frame wrong_segment not_granted past_end unaligned operation_checks segment_checks disk_checks checks extents_from extents_of extent_words words_beside asks_secure is_secure plan_of verdict_of pending_at has_work passed_over armed idle written responded_all responded_all_at tells notifies_all responded responded_at notifies request_at settled overran served_by turned completion_at completions_from completions_in expected_of status_of response_for responses_for completed opened_by due_open due_close due_turn names_none any_names_none any_names named_twice refused_completion due_complete effect_due view_of with_port with_tag with_pointer does next both unknown overfull again three earlier later in_order history_from book answer_to unfinished asked said_in response_pair turns_of has_to_serve response_status
computed = refl

-- ---- bytes of the rings

-- the rings with a request of port 3 waiting in slot 0, at a start sector
lent : ℕ → ℕ → List ℕ
lent produced start = rings (replicate 8192 0) (page64 produced 0 0 0x1122334455667788 start)

-- the same of a 32-bit guest
lent32 : ℕ → List ℕ
lent32 start = rings (replicate 8192 0) (page32 1 0 0 0x1122334455667788 start)

-- the backend with port 3 open by a sheet, and a turn on it
opened : List ℕ → Backend
opened s = after_call empty_backend (Open (port_id 3) s)

abbrev turn : List ℕ → List ℕ → Effect (Turn [] [] [])
turn s r = turned (view_of (opened s)) r grants

-- n bytes of the share that a turn left of port 3
wrote : List ℕ → List ℕ → ℕ → ℕ → List ℕ
wrote s r at n = part n (turn s r).rings (8192 * 3 + at)

-- the same where both indices of the port are 40, and the request that waits is in slot i of its share, whose slots have so many bytes
wrote_far : (ℕ → ℕ → ℕ → ℕ → ℕ → List ℕ) → ℕ → List ℕ → ℕ → ℕ → List ℕ
wrote_far share bytes s i n =
    let p : Port = record { state = State.Open; params = ((opened s).port 3).params; consumed = 40; produced = 40; busy = 0 } in
    let r = rings (replicate 8192 0) (share 41 i 0 0x1122334455667788 2001) in
    part n (turned (view_of (with_port empty_backend 3 p)) r grants).rings (8192 * 3 + (64 + bytes * i))

-- ---- what is computed

record Bytes : Type 0 where
  -- a refused read: id, operation, status -1 and padding; the slot's other bytes stay, here the start sector, 2001
  response : wrote sheet (lent 1 2001) 64 24 ≡
      0x88 ∷ 0x77 ∷ 0x66 ∷ 0x55 ∷ 0x44 ∷ 0x33 ∷ 0x22 ∷ 0x11 ∷ 0x00 ∷ 0x00 ∷ 0xff ∷ 0xff ∷ 0x00 ∷ 0x00 ∷ 0x00 ∷ 0x00 ∷ 0xd1 ∷ 0x07 ∷ 0 ∷ 0 ∷ 0 ∷ 0 ∷ 0 ∷ 0 ∷ []
  -- a 32-bit guest's, without padding: the start sector is the slot's next byte, and the segment's frame follows
  response32 : wrote sheet32 (lent32 2001) 64 24 ≡
      0x88 ∷ 0x77 ∷ 0x66 ∷ 0x55 ∷ 0x44 ∷ 0x33 ∷ 0x22 ∷ 0x11 ∷ 0x00 ∷ 0x00 ∷ 0xff ∷ 0xff ∷ 0xd1 ∷ 0x07 ∷ 0 ∷ 0 ∷ 0 ∷ 0 ∷ 0 ∷ 0 ∷ 5 ∷ 0 ∷ 0 ∷ 0 ∷ []
  -- index 40 is in slot 8 of a ring of one page, and in slot 40 of one of two, of a 32-bit guest's too
  far_one : wrote_far page64 112 sheet 8 12 ≡ 0x88 ∷ 0x77 ∷ 0x66 ∷ 0x55 ∷ 0x44 ∷ 0x33 ∷ 0x22 ∷ 0x11 ∷ 0x00 ∷ 0x00 ∷ 0xff ∷ 0xff ∷ []
  far_two : wrote_far page64 112 sheet_two 40 12 ≡ 0x88 ∷ 0x77 ∷ 0x66 ∷ 0x55 ∷ 0x44 ∷ 0x33 ∷ 0x22 ∷ 0x11 ∷ 0x00 ∷ 0x00 ∷ 0xff ∷ 0xff ∷ []
  far_two32 : wrote_far page32 108 sheet32_two 40 12 ≡ 0x88 ∷ 0x77 ∷ 0x66 ∷ 0x55 ∷ 0x44 ∷ 0x33 ∷ 0x22 ∷ 0x11 ∷ 0x00 ∷ 0x00 ∷ 0xff ∷ 0xff ∷ []
  -- req_prod, req_event, rsp_prod, rsp_event after a response, and after an idle turn
  answered_header : wrote sheet (lent 1 2001) 0 16 ≡ 1 ∷ 0 ∷ 0 ∷ 0 ∷ 0 ∷ 0 ∷ 0 ∷ 0 ∷ 1 ∷ 0 ∷ 0 ∷ 0 ∷ 2 ∷ 0 ∷ 0 ∷ 0 ∷ []
  idle_header : wrote sheet (lent 0 0) 0 16 ≡ 0 ∷ 0 ∷ 0 ∷ 0 ∷ 1 ∷ 0 ∷ 0 ∷ 0 ∷ 0 ∷ 0 ∷ 0 ∷ 0 ∷ 2 ∷ 0 ∷ 0 ∷ 0 ∷ []
  -- the one extent of a start: frame 5, from its sector 0, eight sectors, at disk sector 2000; ten unused ones
  extents : (turn sheet (lent 1 2000)).words ≡ 5 ∷ 0 ∷ 8 ∷ 2000 ∷ replicate 40 0
  extents32 : (turn sheet32 (lent32 2000)).words ≡ 5 ∷ 0 ∷ 8 ∷ 2000 ∷ replicate 40 0

bytes : Bytes
unfolding lent lent32 opened wrote wrote_far header asking rings grants words load store part set_part all same least tally pages_of set_pages grants_of req_prod set_req_event set_rsp_prod rsp_event ring_for slot_at slot_of segment_of segments_of request_of set_response entry_at body_length entries_from entries_of bodies_end well_formed rising is_digit digits_from capped digits_of number_of choice_body number_body is_sector_size is_allowed body_of after_body after_bodies value_of absent values_of present params_of has_required sheet_of is_busy in_flight_of lowest_free distance pending_of is_empty_barrier moves_nothing sectors_in total_sectors count_of data_segments is_aligned is_on_boundaries is_granted unknown_operation feature_off read_only wrong_amount is_within_frame wrong_segment not_granted past_end unaligned operation_checks segment_checks disk_checks checks extents_from extents_of extent_words words_beside asks_secure is_secure plan_of verdict_of pending_at has_work passed_over armed idle written responded_all responded_all_at tells notifies_all responded responded_at notifies request_at settled overran served_by turned completion_at completions_from completions_in expected_of status_of response_for responses_for completed opened_by due_open due_close due_turn names_none any_names_none any_names named_twice refused_completion due_complete effect_due view_of with_port with_tag with_pointer does next
bytes = record { response = refl; response32 = refl; far_one = refl; far_two = refl; far_two32 = refl; answered_header = refl; idle_header = refl; extents = refl; extents32 = refl }
