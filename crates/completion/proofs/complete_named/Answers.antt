-- `completion::complete_named` meets its promise, in each of the ways that it ends.
use native.Mathlib.Omega.{arith}
use borrow.Author.Tests.{ltb-true, ltb-false}
use mathlib.Core.Path.{◌≡◌, sym, ap, ◌∙◌}
use mathlib.Core.Bool.{true}
use Prim.Native.Nat.{ℕ, ◌<◌}
use lib.Dec.{ltb}
use mir.Syntax.{w32}
use mir.ValLaws.{to_z-of_z}
use Rattle.model.specs.Ring.{ring_for, ring_of}
use Rattle.model.specs.declared.Abi.{Abi}
use Rattle.model.specs.declared.Pages.{Pages}
use Rattle.model.specs.declared.Params.{Params}
use Rattle.model.specs.Turn.{port_id}
use Rattle.memory.specs.Backend.{backend_of}
use Rattle.memory.specs.Layout.{tags}
use Rattle.memory.proofs.Backend.{size-tags}
use Rattle.completion.proofs.Completions.{complete-no-tag, complete-free, complete-other-serial, complete-done}
use Rattle.completion.proofs.complete_named.Goals as goal

-- a tag that was tested is one of the ring, so it has a record too
listed : (p : Params) (t : ℕ) (n : Pages) → n ≡ p.pages → ((abi : Abi) → true ≡ ltb t (ring_for abi n).size) → (t < (ring_of p).size) × (t < tags)
listed p t n e h =
    let few : t < (ring_of p).size = ltb-true t (ring_of p).size (sym (h p.abi ∙ ap (λ (n : Pages). ltb t (ring_for p.abi n).size) e)) in
    (few, omega (arith, size-tags p))

pub returns-then-not-has_tag : goal.returns-then-not-has_tag
returns-then-not-has_tag c =
    let a = c.args in
    let p = ((backend_of a.memory.now).port a.k.index).params in
    let more = c.if-not-has_tag.ensures p.abi ∙ ap (λ (n : Pages). ltb a.tag.0 (ring_for p.abi n).size) c.pages.ensures in
    complete-no-tag a.memory.now a.rings.now (port_id a.k.index) a.tag a.serial a.res c.ranges.res (omega arith) (omega arith) c.requires
    (ltb-false _ _ (sym more))

pub new-t-requires : goal.new-t-requires
new-t-requires c = (listed ((backend_of c.args.memory.now).port c.args.k.index).params c.args.tag.0 _ c.pages.ensures c.if-not-has_tag.ensures).1

pub returns-then-not-is_busy : goal.returns-then-not-is_busy
returns-then-not-is_busy c =
    let a = c.args in
    complete-free a.memory.now a.rings.now (port_id a.k.index) a.tag a.serial a.res c.ranges.res (omega arith) (omega arith) c.requires
    (rw (← c.port_at-p.ensures, ← c.new-t.ensures) (sym c.if-not-is_busy.ensures))

pub returns-then-x-serial : goal.returns-then-x-serial
returns-then-x-serial c =
    let a = c.args in
    complete-other-serial a.memory.now a.rings.now (port_id a.k.index) a.tag a.serial a.res c.ranges.res (omega arith) (omega arith) c.requires
    (listed ((backend_of a.memory.now).port a.k.index).params a.tag.0 _ c.pages.ensures c.if-not-has_tag.ensures).0
    (rw (← c.port_at-p.ensures, ← c.new-t.ensures) (sym c.if-not-is_busy.ensures)) (rw (← c.new-t.ensures, ← c.tag_at-x.ensures) c.if-x-serial.true)

pub finish-requires : goal.finish-requires
finish-requires c = record {
  port = omega arith;
  tag = omega arith;
  read = c.port_at-p.ensures;
  busy = sym c.if-not-is_busy.ensures;
}

pub returns : goal.returns
returns c =
    let a = c.args in
    complete-done a.memory.now a.rings.now (port_id a.k.index) a.tag a.serial a.res c.ranges.res (omega arith) (omega arith) c.requires
    (listed ((backend_of a.memory.now).port a.k.index).params a.tag.0 _ c.pages.ensures c.if-not-has_tag.ensures).0
    (rw (← c.port_at-p.ensures, ← c.new-t.ensures) (sym c.if-not-is_busy.ensures)) _ c.finish.result _ (rw (← c.new-t.ensures, ← c.tag_at-x.ensures) c.if-x-serial.false)
    (rw (← c.new-t.ensures, ← c.tag_at-x.ensures) (rw (to_z-of_z w32 a.res c.ranges.res) at c.finish.ensures))
