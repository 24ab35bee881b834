-- What the steps of a turn that serves a port ask and say.
use Rattle.std.specs.Prelude.{◌≡◌, true, List, ℕ, ◌+◌, ◌*◌, ◌<◌, Ok}
use Rattle.model.specs.Backend.{Backend, view_of, with_pointer, does_all}
use Rattle.model.specs.Buffers.{ports, ring_share, grants_of}
use Rattle.model.specs.Calls.{TurnEffect}
use Rattle.model.specs.Deeds.{turn_deeds, turn_round, moved}
use Rattle.model.specs.Plan.{verdict_of}
use Rattle.model.specs.Ring.{ring_of, slot_at, req_prod}
use Rattle.model.specs.Turn.{pages_at, has_work, request_at, settled}
use Rattle.model.specs.declared.Turned.{Turned}
use Rattle.memory.specs.Backend.{backend_of, Becomes}

-- the effect of a turn that is not refused, and the memory that it leaves
pub record Turns (m lent : List ℕ) (due : TurnEffect) (pages words : List ℕ) (r : Turned) (left : List ℕ) : Type 0 where
  pub effect : ◌≡◌ {A = TurnEffect} (record { rings = pages; words = words; answer = Ok r }) due
  pub memory : Becomes m (with_pointer (does_all (backend_of m) (turn_deeds lent pages (Ok r))) (moved (turn_round lent (Ok r)) (backend_of m).pointer)) left

-- where in the rings the slot of port k's next request starts (rules 1.3, 2.4 and 5.15)
abbrev pub next_slot : Backend → ℕ → ℕ
next_slot b k = ring_share * k + slot_at (ring_of (b.port k).params) (b.port k).consumed

-- a request taken from port k (rules 5.15 to 5.19)
abbrev pub settled_at : Backend → List ℕ → List ℕ → ℕ → TurnEffect
settled_at b rings grants k =
    settled (view_of b) rings k (request_at (view_of b) rings k) (verdict_of ((view_of b).params k) (grants_of grants k) (request_at (view_of b) rings k))

-- port k has something to serve (rule 4.13), and this is its req_prod
pub record ToServe (b : Backend) (rings : List ℕ) (k published : ℕ) : Type 0 where
  pub port : k < ports
  pub read : published ≡ req_prod (pages_at (view_of b) rings k)
  pub work : has_work (view_of b) rings k ≡ true
