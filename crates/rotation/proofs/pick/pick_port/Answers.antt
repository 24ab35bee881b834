-- `rotation::pick::pick_port` meets its contract: the first port from the pointer on with something to serve, or none (Search).
use mathlib.Core.Path.{◌≡◌, sym, subst}
use Prim.Native.Nat.{ℕ}
use native.Mathlib.Omega.{arith}
use Rattle.std.proofs.Common.{None}
use Rattle.model.specs.Backend.{view_of}
use Rattle.memory.specs.Backend.{backend_of}
use Rattle.rotation.specs.Pick.{look_of}
use Rattle.rotation.proofs.Search.{gone, gone-next, gone-last, Passed, passed-more, found_here, found_none, begins}
use Rattle.rotation.proofs.pick.pick_port.Goals as goal

pub loop-published-preserved : goal.loop-published-preserved
loop-published-preserved c =
    let l = c.loop-published in
    let i = l.invariant in
    let first = c.pointer-first.result.index in
    let a = c.args in
    let b = backend_of a.memory.now in
    let v = view_of b in
    let on = rw (c.get.ensures, c.get-in-loop-published.ensures, c.next-k.ensures) at c.if-get.false in
    record {
      first_small = i.first_small;
      small = omega arith;
      first_is = i.first_is;
      passed =
          rw c.next-k.ensures
          (subst (λ (n : ℕ). Passed v a.rings.now n) (sym (gone-next first l.k.index i.first_small i.small on))
          (passed-more v a.rings.now (gone first l.k.index) i.passed
          (subst (λ (k : ℕ). None ≡ look_of v a.rings.now k) (begins b first l.k.index i.first_small i.small i.first_is) c.in_default.ensures)));
    }

pub returns-in-Some : goal.returns-in-Some
returns-in-Some c =
    let l = c.loop-published in
    let i = l.invariant in
    let first = c.pointer-first.result.index in
    let a = c.args in
    let b = backend_of a.memory.now in
    found_here (view_of b) a.rings.now (gone first l.k.index) l.k.index _ (omega arith) (begins b first l.k.index i.first_small i.small i.first_is) i.passed c.in-Some.ensures

pub returns-then-get : goal.returns-then-get
returns-then-get c =
    let l = c.loop-published in
    let i = l.invariant in
    let first = c.pointer-first.result.index in
    let a = c.args in
    let b = backend_of a.memory.now in
    let v = view_of b in
    let round = rw (c.get.ensures, c.get-in-loop-published.ensures, c.next-k.ensures) at c.if-get.true in
    found_none v a.rings.now
    (subst (λ (n : ℕ). Passed v a.rings.now n) (gone-last first l.k.index i.first_small i.small round)
    (passed-more v a.rings.now (gone first l.k.index) i.passed
    (subst (λ (k : ℕ). None ≡ look_of v a.rings.now k) (begins b first l.k.index i.first_small i.small i.first_is) c.in_default.ensures)))
