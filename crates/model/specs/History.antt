-- Section 12 of docs/RULES.md: what the history of a list of calls says of each port. A history is a list of events, the latest first: each a call with its
-- arguments, what it was lent and left, and its answer (rule 12.6). No field of the backend is read here; the last section alone names it, to make the
-- history of a list of calls.
use Rattle.std.specs.Prelude.{ℕ, ◌%◌, Bool, true, false, not, cond, ◌&&◌, List, [], ◌∷◌, map, eqb, length}
use Rattle.std.proofs.Math.Option.{Option, none, some}
use Rattle.model.specs.Base.{modulus}
use Rattle.model.specs.Buffers.{pages_of}
use Rattle.model.specs.Ring.{Ring, req_prod, ring_of, slot_at, slot_of, request_of, response_pair, response_status}
use Rattle.model.specs.Port.{is_closed, is_open, zero_params, Holder, free, held, View}
use Rattle.model.specs.Calls.{Call, Event}
use Rattle.model.specs.Turn.{serial_of}
use Rattle.model.specs.Deeds.{Deed, opening, closing, breaking, starting, answering, finishing, port_of, deeds_of, Round, no_turn, unserved, served, round_of, moved}
use Rattle.model.specs.Backend.{Backend, empty_backend, event_on, after_call}
use Rattle.model.specs.declared.Pair.{Pair}
use Rattle.model.specs.declared.Params.{Params}
use Rattle.model.specs.declared.State.{State}
use Rattle.model.specs.declared.Status.{Status}

-- ---- a port's books

-- what a turn made of the request that it took: an answer at once, or a start under a tag and a serial, with the result that the plan expects (rule 12.14)
pub data Named : Type 0 where
  at_once : Named
  started : (tag serial expected : ℕ) → Named

-- An answer given: its pair and the 16 bits of its status, as they stand in the page that the call left (rule 12.15), and the status that the call's own
-- answer told (rule 12.33).
pub record Response : Type 0 where
  pub pair : Pair
  pub status : ℕ
  pub told : Status

-- a request taken: its pair (rule 12.12), its name, and the answers that were given to it
pub record Taken : Type 0 where
  pub pair : Pair
  pub named : Named
  pub answers : List Response

-- A port's books since its last opening: its state, what its sheet said, the requests taken and the answers given, the latest first. A close leaves the
-- books as they are; the next opening begins new ones (rule 12.30).
pub record Book : Type 0 where
  pub state : State
  pub params : Params
  pub taken : List Taken
  pub answered : List Response

-- before any opening (rule 12.3)
abbrev pub no_book : Book
no_book = record { state = State.Closed; params = zero_params; taken = []; answered = [] }

-- the ring of the port, by the params it was opened with
abbrev pub ring_in : Book → Ring
ring_in b = ring_of b.params

-- The pair of the next request of port k, in the rings lent: its slot is that of the number of requests taken before it (rule 12.12).
unfoldable pub asked : ℕ → List ℕ → Book → Pair
asked k lent b = (request_of (ring_in b).layout (slot_of (ring_in b) (pages_of (ring_in b) lent k) (length b.taken))).pair

-- The next answer of port k, in the rings left: its slot is that of the number of answers given before it (rule 12.15). `told` is the status of the call's
-- answer.
unfoldable pub said : ℕ → List ℕ → Status → Book → Response
said k left told b =
    let at = slot_at (ring_in b) (length b.answered) in
    let pages = pages_of (ring_in b) left k in
    record { pair = response_pair pages at; status = response_status pages at; told = told }

-- it was started under this tag and serial (rule 12.14)
abbrev pub names : ℕ → ℕ → Named → Bool
names t s at_once = false
names t s (started u z x) = eqb t u && eqb s z

-- the request with one answer more
abbrev pub with_answer : Response → Taken → Taken
with_answer a r = record { pair = r.pair; named = r.named; answers = a ∷ r.answers }

-- A completion's answer goes to the newest request that was started under its tag and serial, finished or not (rule 12.14).
unfoldable pub answer_to : ℕ → ℕ → Response → List Taken → List Taken
answer_to t s a [] = []
answer_to t s a (r ∷ l) = cond (names t s r.named) (with_answer a r ∷ l) (r ∷ answer_to t s a l)

-- the books with another state
abbrev pub in_state : State → Book → Book
in_state s b = record { state = s; params = b.params; taken = b.taken; answered = b.answered }

-- the books with other requests and answers
abbrev pub with_lines : List Taken → List Response → Book → Book
with_lines taken answered b = record { state = b.state; params = b.params; taken = taken; answered = answered }

-- What a deed is in the books of its port. An opening begins new ones; a close and an overrun change the state alone (rule 12.9); a start adds a request
-- (rule 12.11); an answer at once adds a request and its answer (rule 12.13); a completion adds an answer to a request that stands there (rule 12.14).
abbrev pub entry : Deed → Book → Book
entry (opening k p) b = record { state = State.Open; params = p; taken = []; answered = [] }
entry (closing k) b = in_state State.Closed b
entry (breaking k) b = in_state State.Broken b
entry (starting k lent t s x) b =
    with_lines (record { pair = asked k lent b; named = started t s x; answers = [] } ∷ b.taken) b.answered b
entry (answering k lent left z) b =
    let a = said k left z b in
    with_lines (record { pair = asked k lent b; named = at_once; answers = a ∷ [] } ∷ b.taken) (a ∷ b.answered) b
entry (finishing k left t s z) b = let a = said k left z b in with_lines (answer_to t s a b.taken) (a ∷ b.answered) b

-- a deed in the books of port k
abbrev pub post : ℕ → Deed → Book → Book
post k d b = cond (eqb k (port_of d)) (entry d b) b

-- and deeds, one after another
abbrev pub posts : ℕ → List Deed → Book → Book
posts k [] b = b
posts k (d ∷ ds) b = posts k ds (post k d b)

-- port k's books after these events; an event without deeds, as a refused call or an idle turn is, leaves them as they were (rules 12.7 and 12.8)
unfoldable pub book : ℕ → List Event → Book
book k [] = no_book
book k (e ∷ h) = posts k (deeds_of e) (book k h)

-- a request without an answer (rule 12.16)
abbrev pub is_unfinished : List Response → Bool
is_unfinished [] = true
is_unfinished (a ∷ answers) = false

-- those of the requests taken, looked at one by one (rule 12.16)
unfoldable pub unfinished : List Taken → List Taken
unfinished [] = []
unfinished (r ∷ l) = cond (is_unfinished r.answers) (r ∷ unfinished l) (unfinished l)

-- the pairs of requests
abbrev pub pairs_of : List Taken → List Pair
pairs_of l = map (λ (r : Taken). r.pair) l

-- and of answers
abbrev pub pairs_said : List Response → List Pair
pairs_said l = map (λ (a : Response). a.pair) l

-- ---- the view

-- what holds tag t: the newest request, where it was started under t and is unfinished, and else what held t before that request was taken
abbrev pub held_by : ℕ → Pair → List Response → Named → Holder → Holder
held_by t q answers at_once before = before
held_by t q answers (started u s x) before =
    cond (eqb t u && is_unfinished answers) (held (record { pair = q; serial = serial_of s; expected = x })) before

-- what holds tag t, by the requests taken (rule 12.27)
unfoldable pub holder : ℕ → List Taken → Holder
holder t [] = free
holder t (r ∷ l) = held_by t r.pair r.answers r.named (holder t l)

-- the port after the one that was served last; before any, port 0 (rule 12.29)
unfoldable pub pointer : List Event → ℕ
pointer [] = 0
pointer (e ∷ h) = moved (round_of e) (pointer h)

-- what the rules see of the books: a closed port has nothing taken, answered or unfinished (rule 12.30)
abbrev pub standing : Book → Book
standing b = cond (is_closed b.state) no_book b

-- What the history shows to the rules (rule 12.27): req_cons and rsp_prod_pvt count the requests and the answers, modulo 2^32; the unfinished are in flight,
-- and hold their tags.
unfoldable pub view_at : List Event → View
view_at h = record {
  state = λ k. (book k h).state;
  params = λ k. (standing (book k h)).params;
  consumed = λ k. length (standing (book k h)).taken % modulus;
  produced = λ k. length (standing (book k h)).answered % modulus;
  in_flight = λ k. length (unfinished (standing (book k h)).taken);
  tag = λ k t. holder t (standing (book k h)).taken;
  pointer = pointer h;
}

-- ---- the turns

-- After these events port k has something to serve in the rings lent: it is open, and its req_prod is not the number of requests taken, modulo 2^32
-- (rule 12.17).
unfoldable pub has_to_serve : ℕ → List Event → List ℕ → Bool
has_to_serve k h lent =
    is_open (book k h).state && not (eqb (req_prod (pages_of (ring_in (book k h)) lent k) % modulus) (length (book k h).taken % modulus))

-- a turn as a port sees it: had this port something to serve, and which port was served?
pub record Seen : Type 0 where
  pub wanted : Bool
  pub chosen : Option ℕ

-- the turns that port k sees with one event more, which may be none
abbrev pub seen : ℕ → List Event → Round → List Seen → List Seen
seen k h no_turn ts = ts
seen k h (unserved lent) ts = record { wanted = has_to_serve k h lent; chosen = none } ∷ ts
seen k h (served lent j) ts = record { wanted = has_to_serve k h lent; chosen = some j } ∷ ts

-- the turns that port k sees, idle ones too, the latest first (rules 12.8 and 12.18)
unfoldable pub turns_of : ℕ → List Event → List Seen
turns_of k [] = []
turns_of k (e ∷ h) = seen k h (round_of e) (turns_of k h)

-- ---- the history of a list of calls

-- From backend b and the events before: each call is made on the backend as the last one left it (rule 12.4). Any calls, any arguments, any
-- buffers (rule 12.2).
unfoldable pub history_from : Backend → List Event → List Call → List Event
history_from b h [] = h
history_from b h (c ∷ cs) = history_from (after_call b c) (event_on b c ∷ h) cs

-- from the empty backend (rule 12.3)
abbrev pub history : List Call → List Event
history cs = history_from empty_backend [] cs

-- the backend after a list of calls
abbrev pub backend_after : Backend → List Call → Backend
backend_after b [] = b
backend_after b (c ∷ cs) = backend_after (after_call b c) cs
