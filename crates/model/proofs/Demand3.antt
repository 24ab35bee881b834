-- Demand 3, for every list of calls. Assumes nothing but what the theorem states, that lent bytes are bytes.
use mathlib.Core.List.{List}
use Prim.Native.Nat.{ℕ, ◌<◌}
use Rattle.model.specs.Buffers.{ports}
use Rattle.model.specs.Backend.{Backend, empty_backend}
use Rattle.model.specs.Calls.{Event}
use Rattle.model.specs.History.{book, history, backend_after}
use Rattle.model.specs.Demand.{AsDue, PortDemand, Demand3, HistoryTheorem}
use Rattle.model.proofs.Conservation.{Sound, numbers, once, kept, all-answered, carried, in-flight}
use Rattle.model.proofs.Permitted.{sound}
use Rattle.model.proofs.Fairness.{served-in-eight, none-twice}
use Rattle.model.proofs.Refinement.{Told, told}

port-demand : (k : ℕ) → k < ports → (h : List Event) → AsDue h → Sound (book k h) → PortDemand k h
port-demand k l h d o = record {
  served_in_time = served-in-eight k l h d;
  none_twice = none-twice k l h d;
  numbers = numbers (book k h) o;
  once = once (book k h) o;
  kept = kept (book k h) o;
  all_answered = all-answered (book k h) o;
  carried = carried (book k h) o;
  statuses = o.statuses;
  in_flight = in-flight (book k h) o;
}

-- of a history whose calls were all as due
pub demanded : (b : Backend) (h : List Event) → Told b h → Demand3 h
demanded b h t = record { each_port = λ k l. port-demand k l h t.as_due (sound k h t.as_due t.bytes); as_due = t.as_due }

pub demand3 : HistoryTheorem
demand3 cs y = demanded (backend_after empty_backend cs) (history cs) (told cs y)
