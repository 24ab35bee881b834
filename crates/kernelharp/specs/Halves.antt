-- THE STATEMENT for the two halves: what holds of the C functions of both as they ran. A run is a list of steps: calls on a guest's memory, and calls on one backend
-- memory of which that guest has port k. Its page goes from one call to the next, and nobody else writes it; to a call on the backend it is lent among the other ports'
-- pages, which may hold anything. All is read off what the functions were handed, returned and left (rules 16.21 to 16.29).
use Rattle.std.specs.Prelude.{◌≡◌, cond, List, [], ◌∷◌, ◌++◌, ℕ, ◌^◌, ◌<◌, eqb, length, get_or}
use Rattle.model.specs.Buffers.{rings_length, pages_of, set_pages}
use Rattle.model.specs.Calls.{Event}
use Rattle.model.specs.Demand.{All, IsBytes}
use Rattle.model.specs.Ring.{Request}
use Rattle.memory.specs.Backend.{backend_of}
use Rattle.memory.specs.Words.{zeros}
use Rattle.asking.specs.Request.{request_in}
use Rattle.guest.specs.Guest.{guest_ring, zero_page}
use Rattle.outstanding.specs.Words.{guest_of, guest_zeros}
use Rattle.halves.specs.Claim.{Holds, NotOpening, ForGuest}
use Rattle.halves.specs.System.{Gathered, System}
use Rattle.kernelharp.specs.Guest.{GuestLeft, PutReturned, CollectReturned}
use Rattle.kernelharp.specs.Run.{Made, kh_open, kh_close, kh_turn, kh_complete, kh_complete_many, Outcome, Left, Step, memory_left, memory_after, call_of, event_of, history_of, Promise, Run, BytesLent}

-- ---- steps

-- a call of kh_guest_put or kh_guest_collect with what it left, or a call on the backend with what that left (rule 16.22)
pub data HalfStep : Type 0 where
  put : (request answer : List ℕ) (left : GuestLeft) → HalfStep
  collect : (answer : List ℕ) (left : GuestLeft) → HalfStep
  backend : (step : Step) → HalfStep

-- the page after a call on the backend
abbrev pub page_left : ℕ → List ℕ → (c : Made) → Outcome c → List ℕ
page_left k page (kh_open p sheet) o = page
page_left k page (kh_close p) o = page
page_left k page (kh_turn rings grants answer) o = pages_of guest_ring o.rings k
page_left k page (kh_complete rings p t s x answer) o = pages_of guest_ring o.rings k
page_left k page (kh_complete_many rings p entries answer) o = pages_of guest_ring o.rings k

-- What a call on the backend is lent: rings of the right length, which hold bytes, and the guest's page among them. Port k is not opened again (rules 16.21 and 16.22).
abbrev pub LendsPage : ℕ → List ℕ → Made → Type 0
LendsPage k page (kh_open p sheet) = k ≡ p → ⊥
LendsPage k page (kh_close p) = Unit
LendsPage k page (kh_turn rings grants answer) = IsBytes rings × (length rings ≡ rings_length) × (pages_of guest_ring rings k ≡ page)
LendsPage k page (kh_complete rings p t s x answer) = IsBytes rings × (length rings ≡ rings_length) × (pages_of guest_ring rings k ≡ page)
LendsPage k page (kh_complete_many rings p entries answer) = IsBytes rings × (length rings ≡ rings_length) × (pages_of guest_ring rings k ≡ page)

-- A request's words are words. An array of u64 holds such; a list of numbers, which stands for one here, might not.
abbrev pub AreWords : List ℕ → Type 0
AreWords w = (i : ℕ) → get_or w i 0 < 2 ^ 64

-- From backend memory m, guest's memory w and a page: each call gets them as the last one left them, and each function keeps its promise, its `ensures`.
abbrev pub HalvesRun : ℕ → (m w page : List ℕ) → List HalfStep → Type 0
HalvesRun k m w page [] = Unit
HalvesRun k m w page (put request answer o ∷ run) = PutReturned w page request answer o × AreWords request × HalvesRun k m o.guest o.page run
HalvesRun k m w page (collect answer o ∷ run) = CollectReturned w page answer o × HalvesRun k m o.guest o.page run
HalvesRun k m w page (backend s ∷ run) =
    Promise m s.made s.left × LendsPage k page s.made
    × HalvesRun k (memory_left s.made s.left) w (page_left k page s.made s.left) run

-- ---- what was observed

-- The calls on the backend as events, the latest first; the requests put, the responses collected and the refusals of collecting, each the oldest first.
pub record Log : Type 0 where
  pub events : List Event
  pub put : List Request
  pub collected : List Gathered
  pub refusals : List ℕ

-- a put that returned 0 put its request (rule 16.24)
abbrev pub now_put : ℕ → List ℕ → List Request
now_put n request = cond (eqb n 0) (request_in request ∷ []) []

-- a collect that returned 0 with a 1 collected the response in its words (rule 16.26); one that did not return 0 was refused (rule 16.27)
abbrev pub now_collected : ℕ → List ℕ → List Gathered
now_collected n words =
    cond (eqb n 0) (cond (eqb (get_or words 0 0) 1) (record { pair = record { id = get_or words 1 0; operation = get_or words 2 0 }; status = get_or words 3 0 } ∷ []) []) []

abbrev pub now_refused : ℕ → List ℕ
now_refused n = cond (eqb n 0) [] (n ∷ [])

-- one step more
abbrev pub logged : Log → HalfStep → Log
logged l (put request answer o) =
    record { events = l.events; put = l.put ++ now_put o.number request; collected = l.collected; refusals = l.refusals }
logged l (collect answer o) = record {
  events = l.events;
  put = l.put;
  collected = l.collected ++ now_collected o.number o.answer;
  refusals = l.refusals ++ now_refused o.number;
}
logged l (backend s) = record { events = event_of s ∷ l.events; put = l.put; collected = l.collected; refusals = l.refusals }

-- the system that memories, page and log show
abbrev pub shown : (m w page : List ℕ) → Log → System
shown m w page l = record {
  guest = guest_of w;
  page = page;
  backend = backend_of m;
  events = l.events;
  put = l.put;
  collected = l.collected;
  refusals = l.refusals;
}

-- and that a run shows at its end
abbrev pub shown_after : ℕ → (m w page : List ℕ) → Log → List HalfStep → System
shown_after k m w page l [] = shown m w page l
shown_after k m w page l (put request answer o ∷ run) = shown_after k m o.guest o.page (logged l (put request answer o)) run
shown_after k m w page l (collect answer o ∷ run) = shown_after k m o.guest o.page (logged l (collect answer o)) run
shown_after k m w page l (backend s ∷ run) =
    shown_after k (memory_left s.made s.left) w (page_left k page s.made s.left) (logged l (backend s)) run

-- ---- what holds

-- kh_open of port k, after the calls before it (rule 16.21)
abbrev pub opening : ℕ → List ℕ → Left → Step
opening k sheet o = record { made = kh_open k sheet; left = o }

abbrev pub opened_log : ℕ → List Step → List ℕ → Left → Log
opened_log k before sheet o = record { events = event_of (opening k sheet o) ∷ history_of before; put = []; collected = []; refusals = [] }

-- what is to be done: a put, a collect, or a call on the backend
pub data Wish : Type 0 where
  makes_put : (request answer : List ℕ) → Wish
  makes_collect : (answer : List ℕ) → Wish
  makes_call : (made : Made) → Wish

-- the call with the guest's page among the rings that it lends
abbrev pub with_page : ℕ → List ℕ → Made → Made
with_page k page (kh_open p sheet) = kh_open p sheet
with_page k page (kh_close p) = kh_close p
with_page k page (kh_turn rings grants answer) = kh_turn (set_pages guest_ring rings k page) grants answer
with_page k page (kh_complete rings p t s x answer) = kh_complete (set_pages guest_ring rings k page) p t s x answer
with_page k page (kh_complete_many rings p entries answer) = kh_complete_many (set_pages guest_ring rings k page) p entries answer

-- any arguments, in rings of bytes that have the right length; port k is not opened again
abbrev pub MayWish : ℕ → Wish → Type 0
MayWish k (makes_put request answer) = AreWords request
MayWish k (makes_collect answer) = Unit
MayWish k (makes_call (kh_open p sheet)) = k ≡ p → ⊥
MayWish k (makes_call (kh_close p)) = Unit
MayWish k (makes_call (kh_turn rings grants answer)) = IsBytes rings × (length rings ≡ rings_length)
MayWish k (makes_call (kh_complete rings p t s x answer)) = IsBytes rings × (length rings ≡ rings_length)
MayWish k (makes_call (kh_complete_many rings p entries answer)) = IsBytes rings × (length rings ≡ rings_length)

-- the steps of a run are just what was wished
abbrev pub AsWished : ℕ → List ℕ → List HalfStep → List Wish → Type 0
AsWished k page [] [] = Unit
AsWished k page [] (x ∷ wishes) = ⊥
AsWished k page (s ∷ run) [] = ⊥
AsWished k page (put request answer o ∷ run) (makes_put r a ∷ wishes) = (request ≡ r) × (answer ≡ a) × AsWished k o.page run wishes
AsWished k page (put request answer o ∷ run) (makes_collect a ∷ wishes) = ⊥
AsWished k page (put request answer o ∷ run) (makes_call c ∷ wishes) = ⊥
AsWished k page (collect answer o ∷ run) (makes_put r a ∷ wishes) = ⊥
AsWished k page (collect answer o ∷ run) (makes_collect a ∷ wishes) = (answer ≡ a) × AsWished k o.page run wishes
AsWished k page (collect answer o ∷ run) (makes_call c ∷ wishes) = ⊥
AsWished k page (backend s ∷ run) (makes_put r a ∷ wishes) = ⊥
AsWished k page (backend s ∷ run) (makes_collect a ∷ wishes) = ⊥
AsWished k page (backend s ∷ run) (makes_call c ∷ wishes) = (s.made ≡ with_page k page c) × AsWished k (page_left k page s.made s.left) run wishes

pub record HalvesRunOf (k : ℕ) (m w page : List ℕ) (wishes : List Wish) : Type 0 where
  pub run : List HalfStep
  pub ran : HalvesRun k m w page run
  pub as_wished : AsWished k page run wishes

-- Of port k and what its kh_open left, after the calls before it: the claim holds of every run from a fresh guest and a zeroed page, and every list of wishes has one
-- (rule 16.29).
pub record HalvesOf (k : ℕ) (before : List Step) (sheet : List ℕ) (o : Left) : Type 0 where
  pub holds : (run : List HalfStep) → HalvesRun k o.memory guest_zeros zero_page run
      → Holds k (shown_after k o.memory guest_zeros zero_page (opened_log k before sheet o) run)
  pub every : (wishes : List Wish) → All (MayWish k) wishes → HalvesRunOf k o.memory guest_zeros zero_page wishes

-- Of every port and every sheet for a one-page ring of 64-bit guests, after every run of the backend's functions from all-zero memory that does not open the port
-- (rule 16.21). The proof is `halves-theorem`, in proofs/Halves.antt.
abbrev pub HalvesTheorem : Type 0
HalvesTheorem =
    (k : ℕ) (sheet : List ℕ) → ForGuest k sheet
    → (before : List Step) → Run zeros before → All (λ s. BytesLent s.made) before → All (λ s. NotOpening k (call_of s.made)) before
    → (o : Left) → Promise (memory_after zeros before) (kh_open k sheet) o → HalvesOf k before sheet o
