-- `turn::turn_into` meets its promise, in each of the ways that it ends.
use Rattle.std.proofs.Common.{sym, arith}
use native.Mathlib.Nat.{mod-lt}
use Rattle.model.specs.Backend.{view_of}
use Rattle.memory.specs.Backend.{backend_of}
use Rattle.rotation.proofs.Search.{pick-found}
use Rattle.turn.proofs.Ends.{wrong-rings, wrong-grants, turn-idle, turn-served}
use Rattle.turn.proofs.turn_into.Goals as goal

pub returns-then-rings-ne-RINGS_BYTES : goal.returns-then-rings-ne-RINGS_BYTES
returns-then-rings-ne-RINGS_BYTES c =
    let a = c.args in
    wrong-rings a.memory.now a.rings.now a.grants.now a.words.now c.if-rings-ne-RINGS_BYTES.true

pub returns-then-grants-ne-GRANTS_BYTES : goal.returns-then-grants-ne-GRANTS_BYTES
returns-then-grants-ne-GRANTS_BYTES c =
    let a = c.args in
    wrong-grants a.memory.now a.rings.now a.grants.now a.words.now c.if-rings-ne-RINGS_BYTES.false c.if-grants-ne-GRANTS_BYTES.true

pub serve-requires : goal.serve-requires
serve-requires c =
    let o = pick-found (view_of (backend_of c.args.memory.now)) _ _ _ (sym c.in-Some-pick_port.ensures) in
    record { port = rw o.place (mod-lt _ (omega arith)); read = o.read; work = o.work }

pub returns-in-None : goal.returns-in-None
returns-in-None c =
    let a = c.args in
    let whole = c.in-Some.ensures.cases in
    let rights = c.in-Some-as_array.ensures.cases in
    turn-idle a.memory.now a.rings.now a.grants.now a.words.now whole.long rights.long _ _ _ _
    (rw whole.same at (sym c.in-None.ensures)) (rw whole.same at c.rest.ensures)

pub returns-in-Some-pick_port : goal.returns-in-Some-pick_port
returns-in-Some-pick_port c =
    let a = c.args in
    let whole = c.in-Some.ensures.cases in
    let rights = c.in-Some-as_array.ensures.cases in
    turn-served a.memory.now a.rings.now a.grants.now a.words.now whole.long rights.long _ _
    (rw whole.same at (sym c.in-Some-pick_port.ensures)) _ _ _ _ (rw (whole.same, rights.same) at c.serve.ensures)
