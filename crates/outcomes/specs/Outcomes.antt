-- What the outcomes of serving a port ask and say.
use Rattle.std.specs.Prelude.{◌≡◌, List, ℕ, ◌<◌}
use Rattle.model.specs.Backend.{Backend, view_of, with_port, with_tag, with_pointer, broken_port, started_port, answered_port}
use Rattle.model.specs.Buffers.{ports}
use Rattle.model.specs.Complete.{expected_of}
use Rattle.model.specs.Deeds.{port_after}
use Rattle.model.specs.Port.{in_flight_of, lowest_free}
use Rattle.model.specs.Ring.{ring_of}
use Rattle.model.specs.Turn.{port_id, tag_id, serial_of, responded_at, notifies}
use Rattle.model.specs.declared.Fault.{Fault}
use Rattle.model.specs.declared.Pair.{Pair}
use Rattle.model.specs.declared.Plan.{Plan}
use Rattle.model.specs.declared.Port.{Port}
use Rattle.model.specs.declared.Turned.{Turned}
use Rattle.memory.specs.Backend.{backend_of, Becomes}

-- p is port k of the backend
pub record Reads (b : Backend) (k : ℕ) (p : Port) : Type 0 where
  pub port : k < ports
  pub read : p ≡ b.port k

-- and it has room for one more request (rule 4.12)
pub record Room (b : Backend) (k : ℕ) (p : Port) : Type 0 where
  pub reads : Reads b k p
  pub room : in_flight_of p.busy < (ring_of p.params).size

-- an overrun: the port is broken (rules 5.10 and 5.12)
pub record Broke (m : List ℕ) (k : ℕ) (r : Turned) (left : List ℕ) : Type 0 where
  pub answer : r ≡ Turned.Overrun (port_id k)
  pub memory : Becomes m (with_pointer (with_port (backend_of m) k (broken_port ((backend_of m).port k))) (port_after k)) left

-- the tag that a start takes (rule 4.10)
abbrev pub tag_for : Backend → ℕ → Port → ℕ
tag_for b k p = lowest_free (ring_of p.params).size ((view_of b).tag k)

-- a start: a tag keeps what the completion needs (rules 5.20 to 5.22)
pub record Began (m : List ℕ) (k : ℕ) (p : Port) (q : Pair) (plan : Plan) (r : Turned) (left : List ℕ) : Type 0 where
  pub answer : r ≡ Turned.Started (port_id k) (tag_id (tag_for (backend_of m) k p)) (serial_of p.consumed) plan
  pub memory :
      Becomes m
      (with_pointer
      (with_port
      (with_tag (backend_of m) k (tag_for (backend_of m) k p) (record { pair = q; serial = serial_of p.consumed; expected = expected_of plan }))
      k
      (started_port ((backend_of m).port k) (tag_for (backend_of m) k p)))
      (port_after k))
      left

-- a response at once (rules 5.31 and 5.32)
pub record Declined (m lent : List ℕ) (k : ℕ) (q : Pair) (f : Fault) (pages : List ℕ) (r : Turned) (left : List ℕ) : Type 0 where
  pub rings : pages ≡ responded_at (view_of (backend_of m)) lent k q f.status
  pub answer : r ≡ Turned.Answered (port_id k) f (notifies (view_of (backend_of m)) lent k)
  pub memory : Becomes m (with_pointer (with_port (backend_of m) k (answered_port ((backend_of m).port k))) (port_after k)) left
