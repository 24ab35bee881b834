-- `serve::take` meets its contract: the copy is the slot, and the verdict on it is the one due.
use native.Mathlib.Omega.{arith}
use mathlib.Core.Path.{◌≡◌, refl, sym, ap, ◌∙◌, subst}
use mathlib.Core.List.{List}
use Prim.Native.Nat.{ℕ, ◌+◌, ◌*◌, ◌≤◌}
use lib.ListN.{length}
use Rattle.wire.specs.Part.{part}
use Rattle.model.specs.Backend.{Backend}
use Rattle.model.specs.Buffers.{ring_share}
use Rattle.model.specs.Plan.{words_beside}
use Rattle.model.specs.Ring.{layout_of, ring_of, slot_at}
use Rattle.model.specs.declared.Abi.{Abi}
use Rattle.model.specs.declared.Port.{Port}
use Rattle.layout.specs.Copy.{request_in}
use Rattle.request.proofs.Expected.{expected-fits}
use Rattle.ring.specs.Copy.{CopyOf}
use Rattle.ring.proofs.Copy.{request-copied}
use Rattle.memory.specs.Backend.{backend_of}
use Rattle.serve.specs.Serve.{next_slot}
use Rattle.serve.proofs.Taking.{slot-within, lent_request, took-declined, took-started}
use Rattle.serve.proofs.take.Goals as goal

-- the copy has the request of the slot, whose place is told by the port's fields
asked : (b : Backend) (k : ℕ) (p : Port) (rings : List ℕ) (place : ℕ) (abi : Abi) (copy : List ℕ) → p ≡ b.port k → place ≡ next_slot b k → abi ≡ (b.port k).params.abi
    → CopyOf (layout_of abi) (part (layout_of abi).slot_size rings place) copy → request_in copy ≡ lent_request rings k p
asked b k p rings place abi copy f e z c =
    let y : abi ≡ p.params.abi = rw f z in
    let x : place ≡ ring_share * k + slot_at (ring_of p.params) p.consumed = e ∙ ap (λ (p : Port). ring_share * k + slot_at (ring_of p.params) p.consumed) (sym f) in
    rw (y, x) at (request-copied abi _ _ c)

pub copy_slot-slot-requires : goal.copy_slot-slot-requires
copy_slot-slot-requires c =
    let h = c.requires.reads.port in
    let p = (backend_of c.args.memory.now).port c.args.k.index in
    subst (λ (a : Abi). c.next_slot-at.result + (layout_of a).slot_size ≤ length c.args.rings.now) (sym c.abi.ensures)
    (omega (arith, h, c.next_slot-at.ensures, slot-within p.params.abi p.params.pages p.consumed))

pub start-requires : goal.start-requires
start-requires c =
    (rw c.port_at-p.ensures c.requires, expected-fits _ _ _ _ _ (sym c.judge-verdict.ensures.verdict ∙ c.in-Ok.is))

pub returns-in-Err : goal.returns-in-Err
returns-in-Err c =
    let a = c.args in
    let b = backend_of a.memory.now in
    let said = c.judge-verdict.ensures in
    took-declined a.memory.now a.rings.now a.grants.now a.k.index c.port_at-p.result (record { port = c.requires.reads.port; read = c.port_at-p.ensures }) c.copy_slot-slot.result
    (asked b a.k.index c.port_at-p.result a.rings.now _ _ _ c.port_at-p.ensures c.next_slot-at.ensures c.abi.ensures c.copy_slot-slot.ensures)
    c.judge-verdict.result (rw c.port_grants.ensures at said.verdict)
    c.pair_of-pair.result c.pair_of-pair.ensures
    _ _ (said.beside ∙ ap (words_beside (request_in c.copy_slot-slot.result)) (sym said.verdict))
    _ _ _ c.in-Err.is c.decline.ensures

pub returns-in-Ok : goal.returns-in-Ok
returns-in-Ok c =
    let a = c.args in
    let b = backend_of a.memory.now in
    let said = c.judge-verdict.ensures in
    took-started a.memory.now a.rings.now a.grants.now a.k.index c.port_at-p.result (record { port = c.requires.reads.port; read = c.port_at-p.ensures }) c.copy_slot-slot.result
    (asked b a.k.index c.port_at-p.result a.rings.now _ _ _ c.port_at-p.ensures c.next_slot-at.ensures c.abi.ensures c.copy_slot-slot.ensures)
    c.judge-verdict.result (rw c.port_grants.ensures at said.verdict)
    c.pair_of-pair.result c.pair_of-pair.ensures
    _ _ (said.beside ∙ ap (words_beside (request_in c.copy_slot-slot.result)) (sym said.verdict))
    _ _ _ c.in-Ok.is refl c.start.ensures
