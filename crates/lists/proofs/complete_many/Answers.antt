-- `lists::complete_many` meets its promise, by the rings' length, the words' and the state of the port.
use native.Mathlib.Omega.{arith}
use mathlib.Core.Path.{subst}
use mathlib.Core.List.{List}
use Prim.Native.Nat.{ℕ}
use Rattle.std.proofs.lemmas.Result.{err_from_is_err_and}
use Rattle.completion.proofs.Completions.{in-use}
use Rattle.memory.specs.Backend.{backend_of}
use Rattle.lists.specs.List.{ManyPromised}
use Rattle.lists.proofs.Ways.{list-wrong-rings, list-wrong-words, list-unused}
use Rattle.lists.proofs.complete_many.Goals as goal

pub returns-then-rings-ne-RINGS_BYTES : goal.returns-then-rings-ne-RINGS_BYTES
returns-then-rings-ne-RINGS_BYTES c =
    let a = c.args in
    list-wrong-rings a.memory.now a.rings.now a.port a.entries.now a.answer.now c.if-rings-ne-RINGS_BYTES.true

pub returns-then-entries-ne0 : goal.returns-then-entries-ne0
returns-then-entries-ne0 c =
    let a = c.args in
    list-wrong-words a.memory.now a.rings.now a.port a.entries.now a.answer.now c.if-rings-ne-RINGS_BYTES.false c.if-entries-ne0.true

pub returns-in_err-k : goal.returns-in_err-k
returns-in_err-k c =
    let a = c.args in
    let p = err_from_is_err_and c.from_residual.result c.from_residual.ensures.1 in
    rw (p.1, p.2)
    (list-unused a.memory.now a.rings.now a.port a.entries.now a.answer.now c.if-rings-ne-RINGS_BYTES.false (omega arith) _ c.in_err-k.ensures)

pub complete_listed-requires : goal.complete_listed-requires
complete_listed-requires c = (rw c.in_ok-k.ensures.0 (in-use (backend_of c.args.memory.now) c.args.port c.in_ok-k.ensures.1).opened, omega arith)

pub returns : goal.returns
returns c =
    let a = c.args in
    subst
    (λ (rings : List ℕ). ManyPromised a.memory.now rings a.port a.entries.now a.answer.now c.complete_listed.new.rings c.complete_listed.result c.complete_listed.new.answer c.complete_listed.new.memory)
    c.in-Some.ensures.cases.same (rw c.in_ok-k.ensures.0 at c.complete_listed.ensures)
