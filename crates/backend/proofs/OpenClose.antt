-- The ways that an open and a close end. Assumes nothing.
use mathlib.Core.Path.{◌≡◌, refl, sym, ap, ◌∙◌}
use mathlib.Core.Bool.{true, false}
use mathlib.Core.List.{List}
use Prim.Native.Nat.{ℕ, ◌≤◌, ◌<◌}
use borrow.Author.Tests.{le-leb, lt-leb, eq-eqb, ne_eqb}
use Rattle.std.specs.Prelude.{Ok, Err}
use Rattle.model.specs.Backend.{view_of, with_port, with_pointer, does, next}
use Rattle.model.specs.Buffers.{ports}
use Rattle.model.specs.Calls.{Open, Close}
use Rattle.model.specs.NodeSheet.{sheet_of}
use Rattle.model.specs.Port.{is_closed, closed_port, open_port, in_flight_of}
use Rattle.model.specs.Rules.{opened_by, due_open, due_close, effect_due}
use Rattle.model.specs.declared.Params.{Params}
use Rattle.model.specs.declared.PortId.{PortId}
use Rattle.model.specs.declared.Refusal.{Refusal}
use Rattle.model.proofs.View.{view-state, view-in-flight}
use Rattle.memory.specs.Backend.{backend_of, Becomes}
use Rattle.memory.specs.Promise.{Promised}
use Rattle.memory.proofs.Changes.{promised, nothing-done}

-- ---- open

module _ (m : List ℕ) (p : PortId) (s : List ℕ) where
  open-refused : (r : Refusal) → due_open (view_of (backend_of m)) p s ≡ Err r → Promised m (Open p s) (Err r) m
  unfolding effect_due
  open-refused r e = nothing-done m (Open p s) (Err r) (sym e) refl refl

  pub open-no-port : ports ≤ p.0 → Promised m (Open p s) (Err Refusal.NoPort) m
  unfolding due_open
  open-no-port h = open-refused Refusal.NoPort (rw (le-leb ports p.0 h))

  module _ (h : p.0 < ports) where
    pub open-not-closed : is_closed ((backend_of m).port p.0).state ≡ false → Promised m (Open p s) (Err Refusal.NotClosed) m
    unfolding due_open
    open-not-closed c = open-refused Refusal.NotClosed (rw (lt-leb ports p.0 h, view-state (backend_of m) p.0, c))

    module _ (c : is_closed ((backend_of m).port p.0).state ≡ true) where
      by-sheet : due_open (view_of (backend_of m)) p s ≡ opened_by (sheet_of s)
      unfolding due_open
      by-sheet = rw (lt-leb ports p.0 h, view-state (backend_of m) p.0, c)

      pub open-bad-sheet : (r : Refusal) → sheet_of s ≡ Err r → Promised m (Open p s) (Err r) m
      unfolding opened_by
      open-bad-sheet r e = open-refused r (by-sheet ∙ ap opened_by e)

      pub open_done : (q : Params) (left : List ℕ) → sheet_of s ≡ Ok q → Becomes m (with_port (backend_of m) p.0 (open_port q)) left
          → Promised m (Open p s) (Ok tt) left
      unfolding opened_by effect_due next does with_port with_pointer
      open_done q left e b =
          promised m (Open p s) (Ok tt) left (sym (by-sheet ∙ ap opened_by e)) (rw e b) (λ z. cc)

-- ---- close

module _ (m : List ℕ) (p : PortId) where
  close-refused : (r : Refusal) → due_close (view_of (backend_of m)) p ≡ Err r → Promised m (Close p) (Err r) m
  unfolding effect_due
  close-refused r e = nothing-done m (Close p) (Err r) (sym e) refl refl

  pub close-no-port : ports ≤ p.0 → Promised m (Close p) (Err Refusal.NoPort) m
  unfolding due_close
  close-no-port h = close-refused Refusal.NoPort (rw (le-leb ports p.0 h))

  module _ (h : p.0 < ports) where
    pub close-closed : is_closed ((backend_of m).port p.0).state ≡ true → Promised m (Close p) (Err Refusal.IsClosed) m
    unfolding due_close
    close-closed c = close-refused Refusal.IsClosed (rw (lt-leb ports p.0 h, view-state (backend_of m) p.0, c))

    module _ (c : is_closed ((backend_of m).port p.0).state ≡ false) where
      pub close-in-flight : (in_flight_of ((backend_of m).port p.0).busy ≡ 0 → ⊥) → Promised m (Close p) (Err Refusal.InFlight) m
      unfolding due_close
      close-in-flight n =
          close-refused Refusal.InFlight (rw (lt-leb ports p.0 h, view-state (backend_of m) p.0, c, view-in-flight (backend_of m) p.0, ne_eqb _ 0 n))

      pub close-done : (left : List ℕ) → in_flight_of ((backend_of m).port p.0).busy ≡ 0 → Becomes m (with_port (backend_of m) p.0 closed_port) left
          → Promised m (Close p) (Ok tt) left
      unfolding due_close effect_due next does with_port with_pointer
      close-done left n b =
          promised m (Close p) (Ok tt) left
          (rw (lt-leb ports p.0 h, view-state (backend_of m) p.0, c, view-in-flight (backend_of m) p.0, eq-eqb _ 0 n)) b
          (λ z. cc)

-- ---- as the functions' proofs name them

pub ruleset opens = (open-no-port, open-not-closed, open-bad-sheet, open_done)

pub ruleset closes = (close-no-port, close-closed, close-in-flight, close-done)
