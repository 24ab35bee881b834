-- `rotation::pick::look_at` meets its contract, by the state of the port.
use mathlib.Core.Path.{◌≡◌}
use mathlib.Core.Logic.{⊎_elim}
use native.Mathlib.Omega.{arith}
use Rattle.std.proofs.Common.{ℕ, ◌≤◌, List}
use Rattle.model.specs.Backend.{Backend, view_of}
use Rattle.model.specs.Buffers.{ring_share, pages_of}
use Rattle.model.specs.Ring.{Ring, header_size, req_prod}
use Rattle.model.specs.Turn.{ring_at, pages_at}
use Rattle.model.proofs.Ring.{fits, header-room}
use Rattle.memory.specs.Backend.{backend_of}
use Rattle.memory.proofs.Backend.{backend-ranged}
use Rattle.rotation.proofs.Search.{look-shut, look-same, look-work}
use Rattle.rotation.proofs.pick.look_at.Goals as goal

-- req_prod of the port's ring, however many pages that has
reads : (b : Backend) (rings : List ℕ) (k q : ℕ) → ((g : Ring) → header_size ≤ g.bytes → g.bytes ≤ ring_share → q ≡ req_prod (pages_of g rings k))
    → q ≡ req_prod (pages_at (view_of b) rings k)
reads b rings k q h = let v = view_of b in let f = fits (v.params k) in h (ring_at v k) (header-room _ f) f.within

pub returns-then-published-p : goal.returns-then-published-p
returns-then-published-p c =
    let a = c.args in
    let b = backend_of a.memory.now in
    let r = reads b a.rings.now a.k.index _ c.req_prod-published.ensures in
    look-same b a.rings.now a.k.index (rw (← c.port_at-p.ensures, c.in-Open.is)) (rw (← r) (omega arith))
    (rw (← r, ← c.port_at-p.ensures) c.if-published-p.true)

pub returns-in-Closed : goal.returns-in-Closed
returns-in-Closed c =
    look-shut (backend_of c.args.memory.now) c.args.rings.now c.args.k.index
    (rw (← c.port_at-p.ensures) (⊎_elim (λ e. rw e) (λ e. rw e) c.in-Closed.is))

pub returns-else-published-p : goal.returns-else-published-p
returns-else-published-p c =
    let a = c.args in
    let b = backend_of a.memory.now in
    let r = reads b a.rings.now a.k.index _ c.req_prod-published.ensures in
    rw r (look-work b a.rings.now a.k.index (rw (← c.port_at-p.ensures, c.in-Open.is)) (rw (← r) (omega arith))
    (backend-ranged a.memory.now a.k.index).consumed (rw (← r, ← c.port_at-p.ensures) c.if-published-p.false))
