-- `serve::serve` meets its contract, by what req_prod says.
use borrow.Author.Tests.{ltb-true, ltb-false}
use mathlib.Core.Bool.{Bool}
use mathlib.Core.Path.{◌≡◌, refl, sym, ap, ◌∙◌}
use Prim.Native.Nat.{ℕ, ◌+◌}
use lib.Dec.{ltb}
use Rattle.model.specs.Port.{distance, in_flight_of}
use Rattle.model.specs.Ring.{ring_for, ring_of}
use Rattle.model.specs.declared.Abi.{Abi}
use Rattle.model.specs.declared.Pages.{Pages}
use Rattle.model.specs.declared.Port.{Port}
use Rattle.memory.specs.Backend.{backend_of}
use Rattle.serve.proofs.Taking.{some, waits-room, waits-served, overrun-served}
use Rattle.serve.proofs.serve.Goals as goal

-- what was tested
tested : (p : Port) (published c d busy : ℕ) (n : Pages) (r : Bool) → c ≡ p.consumed → d ≡ distance published c → n ≡ p.params.pages → busy ≡ p.busy
    → ((abi : Abi) → r ≡ ltb (ring_for abi n).size (d + in_flight_of busy))
    → r ≡ ltb (ring_of p.params).size (distance published p.consumed + in_flight_of p.busy)
tested p published c d busy n r e f g x h =
    let far = f ∙ ap (distance published) e in
    h p.params.abi ∙ (λ i. ltb (ring_for p.params.abi (g i)).size (far i + in_flight_of (x i)))

pub overruns-requires : goal.overruns-requires
overruns-requires c =
    let a = c.args in
    let w = c.requires in
    let e = rw c.consumed.ensures at c.distance-d.ensures in
    λ z. some (backend_of a.memory.now) a.rings.now a.grants.now a.k.index a.published w.port w.read w.work (sym e ∙ z)

pub returns-then-overruns : goal.returns-then-overruns
returns-then-overruns c =
    let a = c.args in
    let w = c.requires in
    overrun-served a.memory.now a.rings.now a.grants.now a.k.index a.published w.port w.read w.work _ _ _ _
    (ltb-true _ _ (sym (tested ((backend_of a.memory.now).port a.k.index) a.published _ _ _ _ _ c.consumed.ensures c.distance-d.ensures c.pages.ensures c.busy_marks-busy.ensures c.if-overruns.ensures)))
    refl c.no_extents.ensures c.overrun.ensures

pub take-requires : goal.take-requires
take-requires c =
    let a = c.args in
    let w = c.requires in
    waits-room (backend_of a.memory.now) a.rings.now a.grants.now a.k.index a.published w.port w.read w.work
    (ltb-false _ _ (sym (tested ((backend_of a.memory.now).port a.k.index) a.published _ _ _ _ _ c.consumed.ensures c.distance-d.ensures c.pages.ensures c.busy_marks-busy.ensures c.if-overruns.ensures)))

pub returns : goal.returns
returns c =
    let a = c.args in
    let w = c.requires in
    let t = c.take.ensures in
    record {
      effect =
          t.effect
          ∙ waits-served (backend_of a.memory.now) a.rings.now a.grants.now a.k.index a.published w.port w.read w.work
          (ltb-false _ _ (sym (tested ((backend_of a.memory.now).port a.k.index) a.published _ _ _ _ _ c.consumed.ensures c.distance-d.ensures c.pages.ensures c.busy_marks-busy.ensures c.if-overruns.ensures)));
      memory = t.memory;
    }
