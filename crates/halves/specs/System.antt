-- The two halves of a ring together (rules 16.21 to 16.23): a guest, its page, and a backend of which it has port k. Only the two of them write the page, which
-- is passed from one call to the next; all other bytes of the rings may be anything.
use Rattle.std.specs.Prelude.{ℕ, Bool, cond, List, [], ◌∷◌, ◌++◌, eqb, length, Result, Option, Ok, Err, Some, None}
use Rattle.model.specs.declared.Refusal.{Refusal}
use Rattle.model.specs.Backend.{Backend, empty_backend, event_on, after_call}
use Rattle.model.specs.Buffers.{pages_of, set_pages}
use Rattle.model.specs.Calls.{Call, Open, Close, Turn, Complete, Event}
use Rattle.model.specs.Deeds.{Deed, opening, closing, breaking, starting, answering, finishing, port_of, deeds_of}
use Rattle.model.specs.History.{Book, ring_in, post, book, history, backend_after}
use Rattle.model.specs.Numbers.{refusal_number}
use Rattle.model.specs.Ring.{Request, slot_of}
use Rattle.model.specs.Turn.{port_id}
use Rattle.model.specs.declared.Collected.{Collected}
use Rattle.model.specs.declared.PortId.{PortId}
use Rattle.guest.specs.Guest.{guest_ring, Guest, zero_page, fresh_guest, put_due, collect_due}

-- ---- what the backend took, by its history

-- The bytes of the slot that a deed took: that of the number of requests taken before it, in the page lent to the turn (rule 12.12).
abbrev pub took : Deed → Book → List (List ℕ)
took (opening k p) b = []
took (closing k) b = []
took (breaking k) b = []
took (starting k lent t s x) b = slot_of (ring_in b) (pages_of (ring_in b) lent k) (length b.taken) ∷ []
took (answering k lent left z) b = slot_of (ring_in b) (pages_of (ring_in b) lent k) (length b.taken) ∷ []
took (finishing k left t s z) b = []

-- those that deeds took from port k, one after another
abbrev pub took_all : ℕ → List Deed → Book → List (List ℕ)
took_all k [] b = []
took_all k (d ∷ ds) b = cond (eqb k (port_of d)) (took d b) [] ++ took_all k ds (post k d b)

-- and those of all events, the oldest first (rule 16.24)
unfoldable pub slots_taken : ℕ → List Event → List (List ℕ)
slots_taken k [] = []
slots_taken k (e ∷ h) = slots_taken k h ++ took_all k (deeds_of e) (book k h)

-- ---- the system

-- what a guest collected: id and operation, and the 16 bits of the status
abbrev pub Gathered : Type 0
Gathered = Collected

-- The guest, its page and the backend; and what has happened: the backend's events, the latest first; the requests put, the responses collected and the numbers
-- that collecting was refused with, each the oldest first.
pub record System : Type 0 where
  pub guest : Guest
  pub page : List ℕ
  pub backend : Backend
  pub events : List Event
  pub put : List Request
  pub collected : List Gathered
  pub refusals : List ℕ

-- A step of either half (rule 16.22). A turn and a completion are lent the guest's page among any others. A completion, which is of any list of entries, and a
-- close may be of any port; an opening is of another.
pub data Step : Type 0 where
  putting : (r : Request) → Step
  collecting : Step
  turning : (others grants words : List ℕ) → Step
  completing : (others : List ℕ) (port : PortId) (entries : List ℕ) → Step
  opening_other : (port : PortId) (sheet : List ℕ) → Step
  closing_any : (port : PortId) → Step

-- what an answer adds to the requests put,
abbrev pub log_put : Result Bool Refusal → Request → List Request
log_put (Err why) r = []
log_put (Ok y) r = r ∷ []

-- to the responses collected,
abbrev pub log_collected : Result (Option Collected) Refusal → List Gathered
log_collected (Err why) = []
log_collected (Ok None) = []
log_collected (Ok (Some c)) = c ∷ []

-- and to the refusals of collecting
abbrev pub log_refused : Result (Option Collected) Refusal → List ℕ
log_refused (Err why) = refusal_number why ∷ []
log_refused (Ok None) = []
log_refused (Ok (Some c)) = []

-- the calls that lend the page
abbrev pub turn_on : ℕ → List ℕ → List ℕ → List ℕ → List ℕ → Call
turn_on k page others grants words = Turn (set_pages guest_ring others k page) grants words

abbrev pub complete_on : ℕ → List ℕ → List ℕ → PortId → List ℕ → Call
complete_on k page others p entries = Complete (set_pages guest_ring others k page) p entries

-- a call of the backend, which leaves the guest this page
abbrev pub called : System → Call → List ℕ → System
called w c page = record {
  guest = w.guest;
  page = page;
  backend = after_call w.backend c;
  events = event_on w.backend c ∷ w.events;
  put = w.put;
  collected = w.collected;
  refusals = w.refusals;
}

-- one step, by the rules of the half that makes it
unfoldable pub step : ℕ → System → Step → System
step k w (putting r) =
    let e = put_due w.guest w.page r in
    record {
      guest = e.guest;
      page = e.page;
      backend = w.backend;
      events = w.events;
      put = w.put ++ log_put e.answer r;
      collected = w.collected;
      refusals = w.refusals;
    }
step k w collecting =
    let e = collect_due w.guest w.page in
    record {
      guest = e.guest;
      page = e.page;
      backend = w.backend;
      events = w.events;
      put = w.put;
      collected = w.collected ++ log_collected e.answer;
      refusals = w.refusals ++ log_refused e.answer;
    }
step k w (turning others grants words) =
    let c = turn_on k w.page others grants words in
    called w c (pages_of guest_ring (event_on w.backend c).effect.rings k)
step k w (completing others p entries) =
    let c = complete_on k w.page others p entries in
    called w c (pages_of guest_ring (event_on w.backend c).effect.rings k)
step k w (opening_other p sheet) = called w (Open p sheet) w.page
step k w (closing_any p) = called w (Close p) w.page

unfoldable pub run : ℕ → System → List Step → System
run k w [] = w
run k w (s ∷ steps) = run k (step k w s) steps

-- a fresh guest, a zeroed page, and a backend after any calls, and then after the opening of port k with a sheet (rule 16.21)
abbrev pub opened : ℕ → Backend → List Event → List ℕ → System
opened k b h sheet = record {
  guest = fresh_guest;
  page = zero_page;
  backend = after_call b (Open (port_id k) sheet);
  events = event_on b (Open (port_id k) sheet) ∷ h;
  put = [];
  collected = [];
  refusals = [];
}

-- from the empty backend
abbrev pub at_opening : ℕ → List Call → List ℕ → System
at_opening k before sheet = opened k (backend_after empty_backend before) (history before) sheet
