-- `idle::arm_port` meets its contract, by the state of the port.
use mathlib.Core.Logic.{⊎_elim}
use Rattle.model.specs.Backend.{view_of}
use Rattle.model.specs.Turn.{ring_at}
use Rattle.model.proofs.Ring.{fits, header-room}
use Rattle.model.proofs.View.{view-state, view-consumed}
use Rattle.memory.specs.Backend.{backend_of}
use Rattle.idle.proofs.arm_port.Goals as goal

pub returns-in-Closed : goal.returns-in-Closed
returns-in-Closed c =
    let a = c.args in
    rw (view-state (backend_of a.memory.now) a.k.index, ← c.port_at-p.ensures) (⊎_elim (λ e. rw e) (λ e. rw e) c.in-Closed.is)

pub returns-in-Open : goal.returns-in-Open
returns-in-Open c =
    let a = c.args in
    let v = view_of (backend_of a.memory.now) in
    let f = fits (v.params a.k.index) in
    rw (view-state (backend_of a.memory.now) a.k.index, view-consumed (backend_of a.memory.now) a.k.index, ← c.port_at-p.ensures, c.in-Open.is)
    (c.arm.ensures (ring_at v a.k.index) (header-room _ f) f.within)
