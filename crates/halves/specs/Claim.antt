-- What holds of the two halves together, after every list of steps (rules 16.21 to 16.28). The proof is `together`, in proofs/Together.antt.
use Rattle.std.specs.Prelude.{ℕ, ◌%◌, ◌^◌, ◌≤◌, ◌<◌, min, ◌≡◌, true, false, cond, List, [], ◌++◌, map, reverse, length, get_or, take, Ok}
use Rattle.model.specs.Buffers.{ports, rings_length, set_pages}
use Rattle.model.specs.Calls.{Call, Open, Close, Turn, Complete, Effect, Event}
use Rattle.model.specs.Checks.{is_a, max_segments, moves_nothing}
use Rattle.model.specs.Demand.{All, count, Reordered, Demand3, IsBytes, LendsBytes}
use Rattle.model.specs.History.{Response, book, view_at}
use Rattle.model.specs.NodeSheet.{sheet_of}
use Rattle.model.specs.Port.{is_closed}
use Rattle.model.specs.Ring.{Request, ring_of, request_of, status_bits, discard}
use Rattle.model.specs.Turn.{port_id, request_at}
use Rattle.model.specs.declared.Params.{Params}
use Rattle.model.specs.declared.Turned.{Turned}
use Rattle.asking.specs.Slot.{guest_layout, slot_for}
use Rattle.guest.specs.Guest.{guest_ring, same_id}
use Rattle.halves.specs.System.{Gathered, System, Step, putting, collecting, turning, completing, opening_other, closing_any, slots_taken, run, at_opening}

-- a slot as the backend reads it
abbrev pub read_slot : List ℕ → Request
read_slot slot = request_of guest_layout slot

-- The request s that was read from a slot says what was put as r: each field that its operation has (rule 16.24). A request that moves nothing is put with the
-- start 0, a discard with bit 0 of its flag.
pub record AsPut (r s : Request) : Type 0 where
  pub pair : s.pair ≡ r.pair
  pub start : s.start ≡ cond (moves_nothing r) 0 r.start
  pub moves : is_a discard r ≡ false → (s.n ≡ r.n) × (s.segments ≡ r.segments)
  pub discards : is_a discard r ≡ true → (s.flag ≡ r.flag % 2) × (s.sectors ≡ r.sectors)

-- what the backend answered to port k since its opening, the oldest first: id and operation as they stand in the page, the status as the call told it (rule 16.26)
abbrev pub given : ℕ → List Event → List Gathered
given k h = reverse (map (λ (a : Response). record { pair = a.pair; status = status_bits a.told }) (book k h).answered)

-- no turn found an overrun of port k (rule 16.25)
abbrev pub NotOverrun : ℕ → (c : Call) → Effect c → Type 0
NotOverrun k (Open p sheet) e = Unit
NotOverrun k (Close p) e = Unit
NotOverrun k (Turn rings grants words) e = e.answer ≡ Ok (Turned.Overrun (port_id k)) → ⊥
NotOverrun k (Complete rings p entries) e = Unit

pub record Holds (k : ℕ) (w : System) : Type 0 where
  -- The slots that the backend took are the first of those put, byte for byte and in order (rule 16.24),
  pub taken : slots_taken k w.events ≡ take (length (slots_taken k w.events)) (map slot_for w.put)
  -- and each reads as what was put.
  pub as_put : All (λ (r : Request). AsPut r (read_slot (slot_for r))) w.put
  -- What the rules see as the port's next request is the next that was put (rule 16.24).
  pub next : (others : List ℕ) → IsBytes others → length others ≡ rings_length → is_closed (book k w.events).state ≡ false
      → length (slots_taken k w.events) < length w.put
      → request_at (view_at w.events) (set_pages guest_ring others k w.page) k ≡ read_slot (get_or (map slot_for w.put) (length (slots_taken k w.events)) [])
  -- The backend never sees an overrun (rule 16.25).
  pub no_overrun : All (λ (e : Event). NotOverrun k e.call e.effect) w.events
  -- What was collected is the first of what the backend answered, in order (rule 16.26).
  pub collected : w.collected ≡ take (length w.collected) (given k w.events)
  -- Collecting was never refused: not with 34, not with 35, nor with 1 (rule 16.27).
  pub no_refusal : w.refusals ≡ []
  -- Nothing is lost: what was put is what was collected and what is outstanding, in some order, and no two outstanding share an id (rule 16.28).
  pub kept : Reordered (map (λ (r : Request). r.pair) w.put) (w.guest.outstanding ++ map (λ (x : Gathered). x.pair) w.collected)
  pub apart : (n : ℕ) → count (same_id n) w.guest.outstanding ≤ 1
  -- Demand 3 holds of the backend's events (rule 12.19).
  pub demand : Demand3 w.events

-- a request as its words hold it (rule 16.17): 64 bits to a number, and as many segments as it says, where there is room for them
pub record Fit (r : Request) : Type 0 where
  pub id : r.pair.id < 2 ^ 64
  pub start : r.start < 2 ^ 64
  pub sectors : r.sectors < 2 ^ 64
  pub counted : length r.segments ≡ min r.n max_segments

-- What a step is lent: bytes, in rings of the right length, since others are refused and change nothing (rule 7.1). Port k is not opened again (rule 16.21).
abbrev pub Lends : ℕ → Step → Type 0
Lends k (putting r) = Fit r
Lends k collecting = Unit
Lends k (turning others grants words) = IsBytes others × (length others ≡ rings_length)
Lends k (completing others p entries) = IsBytes others × (length others ≡ rings_length)
Lends k (opening_other p sheet) = k ≡ p.0 → ⊥
Lends k (closing_any p) = Unit

-- a call that does not open port k
abbrev pub NotOpening : ℕ → Call → Type 0
NotOpening k (Open p sheet) = k ≡ p.0 → ⊥
NotOpening k (Close p) = Unit
NotOpening k (Turn rings grants words) = Unit
NotOpening k (Complete rings p entries) = Unit

-- port k is one of the ports, and its sheet is for a one-page ring of 64-bit guests (rule 16.21)
pub record ForGuest (k : ℕ) (sheet : List ℕ) : Type 0 where
  pub small : k < ports
  pub params : Params
  pub says : sheet_of sheet ≡ Ok params
  pub ring : ring_of params ≡ guest_ring

-- of every port, every such sheet, every list of calls that do not open the port, and then every list of steps
abbrev pub HalvesTheorem : Type 0
HalvesTheorem =
    (k : ℕ) (sheet : List ℕ) → ForGuest k sheet → (before : List Call) → All LendsBytes before → All (NotOpening k) before
    → (steps : List Step) → All (Lends k) steps → Holds k (run k (at_opening k before sheet) steps)
