-- Sections 5 and 6 of docs/RULES.md: which port a turn serves, what it answers and leaves in the rings, and how a response is given. What becomes of the
-- port and the pointer stands in Deeds and Backend.
use Rattle.std.specs.Prelude.{ℕ, zero, suc, ◌+◌, ◌%◌, Bool, cond, ◌&&◌, List, [], ◌∷◌, Ok, Err, ltb, length}
use Rattle.model.specs.Base.{least}
use Rattle.model.specs.Buffers.{ports, pages_of, set_pages, grants_of}
use Rattle.model.specs.Ring.{Ring, Request, req_prod, set_req_event, set_rsp_prod, rsp_event, ring_of, slot_at, slot_of, request_of, set_response}
use Rattle.model.specs.Port.{is_open, View, lowest_free, distance, pending_of, is_work, further, after}
use Rattle.model.specs.Plan.{Verdict, verdict_of, no_words, words_beside}
use Rattle.model.specs.Calls.{TurnEffect}
use Rattle.model.specs.declared.Pair.{Pair}
use Rattle.model.specs.declared.Pending.{Pending}
use Rattle.model.specs.declared.PortId.{PortId}
use Rattle.model.specs.declared.Serial.{Serial}
use Rattle.model.specs.declared.State.{State}
use Rattle.model.specs.declared.Status.{Status}
use Rattle.model.specs.declared.TagId.{TagId}
use Rattle.model.specs.declared.Turned.{Turned}

abbrev pub port_id : ℕ → PortId
port_id k = record { 0 = k }

abbrev pub tag_id : ℕ → TagId
tag_id t = record { 0 = t }

abbrev pub serial_of : ℕ → Serial
serial_of s = record { 0 = s }

-- port k's ring
abbrev pub ring_at : View → ℕ → Ring
ring_at v k = ring_of (v.params k)

-- and its pages, as its ring has them (rule 1.3)
abbrev pub pages_at : View → List ℕ → ℕ → List ℕ
pages_at v rings k = pages_of (ring_at v k) rings k

-- what port k's req_prod says (rules 4.11 and 4.12)
unfoldable pub pending_at : View → List ℕ → ℕ → Pending
pending_at v rings k = pending_of (ring_at v k).size (v.in_flight k) (distance (req_prod (pages_at v rings k)) (v.consumed k))

-- port k has something to serve (rule 4.13); a broken one never has (rule 5.13)
unfoldable pub has_work : View → List ℕ → ℕ → Bool
has_work v rings k = is_open (v.state k) && is_work (pending_at v rings k)

-- the i-th port that a turn comes to, from the pointer on (rules 5.2 and 10.6)
abbrev pub looked_at : View → ℕ → ℕ
looked_at v i = (v.pointer + i) % ports

-- how many it passes over before the one that it serves (rule 5.3); all, where none has something to serve
unfoldable pub passed_over : View → List ℕ → ℕ
passed_over v rings = least ports (λ i. has_work v rings (looked_at v i))

-- ---- idle

-- the rings with port k's req_event set, where the port is open (rule 5.8)
abbrev pub armed_port : Ring → State → List ℕ → ℕ → ℕ → List ℕ
armed_port g State.Closed rings k consumed = rings
armed_port g State.Open rings k consumed = set_pages g rings k (set_req_event (pages_of g rings k) (after consumed))
armed_port g State.Broken rings k consumed = rings

-- and that of each of the first n ports
unfoldable pub armed : View → List ℕ → ℕ → List ℕ
armed v rings zero = rings
armed v rings (suc k) = armed_port (ring_at v k) (v.state k) (armed v rings k) k (v.consumed k)

-- an idle turn: no byte changes but those of req_event (rules 5.6, 5.8 and 5.9)
unfoldable pub idle : View → List ℕ → TurnEffect
idle v rings = record { rings = armed v rings ports; words = no_words; answer = Ok Turned.Idle }

-- ---- responses

-- a response that is due: the pair of its request, and the status (rule 6.2)
pub record ResponseDue : Type 0 where
  pub pair : Pair
  pub status : Status

abbrev pub due_to : Pair → Status → ResponseDue
due_to q s = record { pair = q; status = s }

-- a ring's pages with responses in the slots from index i on, one after another (rules 6.1, 6.2 and 6.18)
unfoldable pub written : Ring → List ℕ → ℕ → List ResponseDue → List ℕ
written g page i [] = page
written g page i (x ∷ xs) = written g (set_response g.layout page (slot_at g i) x.pair x.status) (after i) xs

-- A ring's pages after responses: they stand in the slots from rsp_prod_pvt on, and behind the last of them rsp_prod is stored, once, from that index of our own
-- (rules 6.4 and 6.19), never from the page's (rule 10.2). Where there are none, nothing is written (rule 6.21).
unfoldable pub responded_all : Ring → List ℕ → ℕ → List ResponseDue → List ℕ
responded_all g page produced [] = page
responded_all g page produced (x ∷ xs) = set_rsp_prod (written g page produced (x ∷ xs)) (further produced (length (x ∷ xs)))

-- the rings after responses of port k: no byte outside its pages changes (rules 1.20 and 6.6)
unfoldable pub responded_all_at : View → List ℕ → ℕ → List ResponseDue → List ℕ
responded_all_at v rings k xs = set_pages (ring_at v k) rings k (responded_all (ring_at v k) (pages_at v rings k) (v.produced k) xs)

-- Whether n responses are to be told, where rsp_prod_pvt was `old`, by the guest's rsp_event: new - rsp_event is below new - old, modulo 2^32 (rule 6.20).
unfoldable pub tells : (old n event : ℕ) → Bool
tells old n event = ltb (distance (further old n) event) (distance (further old n) old)

-- those of port k
unfoldable pub notifies_all : View → List ℕ → ℕ → ℕ → Bool
notifies_all v rings k n = tells (v.produced k) n (rsp_event (pages_at v rings k))

-- the same of one response: the pages,
unfoldable pub responded : Ring → List ℕ → ℕ → Pair → Status → List ℕ
responded g page produced q s = responded_all g page produced (due_to q s ∷ [])

-- the rings,
unfoldable pub responded_at : View → List ℕ → ℕ → Pair → Status → List ℕ
responded_at v rings k q s = responded_all_at v rings k (due_to q s ∷ [])

-- and whether to tell, which is where rsp_event is the new index (rule 6.5)
unfoldable pub notifies : View → List ℕ → ℕ → Bool
notifies v rings k = notifies_all v rings k 1

-- ---- serving

-- the request that port k has next, in the slot of req_cons (rule 5.15)
unfoldable pub request_at : View → List ℕ → ℕ → Request
request_at v rings k = request_of (ring_at v k).layout (slot_of (ring_at v k) (pages_at v rings k) (v.consumed k))

-- What a turn makes of the request that it took. One that fails a check gets its response (rules 5.31 and 5.32); one that passes them starts, under the
-- lowest free tag, with req_cons for its serial, and no page changes (rules 5.19 to 5.22 and 5.30).
unfoldable pub settled : View → List ℕ → ℕ → Request → Verdict → TurnEffect
settled v rings k r (Err f) = record {
  rings = responded_at v rings k r.pair f.status;
  words = words_beside r (Err f);
  answer = Ok (Turned.Answered (port_id k) f (notifies v rings k));
}
settled v rings k r (Ok plan) = record {
  rings = rings;
  words = words_beside r (Ok plan);
  answer = Ok (Turned.Started (port_id k) (tag_id (lowest_free (ring_at v k).size (v.tag k))) (serial_of (v.consumed k)) plan);
}

-- an overrun is served: the bytes stay (rules 5.11 and 5.12)
unfoldable pub overran : List ℕ → ℕ → TurnEffect
overran rings k = record { rings = rings; words = no_words; answer = Ok (Turned.Overrun (port_id k)) }

-- port k is served, by what its req_prod says (rule 4.12); where that is nothing, it is not (rule 11.10)
unfoldable pub served_by : View → List ℕ → List ℕ → ℕ → Pending → TurnEffect
served_by v rings grants k Pending.Nothing = idle v rings
served_by v rings grants k Pending.Waits =
    settled v rings k (request_at v rings k) (verdict_of (v.params k) (grants_of grants k) (request_at v rings k))
served_by v rings grants k Pending.Overrun = overran rings k

-- a turn that is not refused: one port is served, or none (rules 5.3, 5.6 and 11.6)
unfoldable pub turned : View → List ℕ → List ℕ → TurnEffect
turned v rings grants =
    let k = looked_at v (passed_over v rings) in
    let served = served_by v rings grants k (pending_at v rings k) in
    let unserved = idle v rings in
    cond (ltb (passed_over v rings) ports) served unserved
