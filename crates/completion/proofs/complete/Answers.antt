-- `completion::complete` meets its promise, by the rings' length and the state of the port.
use mathlib.Core.Path.{subst}
use mathlib.Core.List.{List}
use Prim.Native.Nat.{ℕ}
use mir.Syntax.{w32}
use mir.ValLaws.{to_z-of_z}
use Rattle.std.proofs.lemmas.Result.{err_from_is_err_and}
use Rattle.model.specs.Calls.{Complete}
use Rattle.model.specs.Complete.{the_one, of_one}
use Rattle.memory.specs.Backend.{backend_of}
use Rattle.memory.specs.Promise.{Promised}
use Rattle.completion.proofs.Completions.{complete-wrong-length, complete-unused, in-use}
use Rattle.completion.proofs.complete.Goals as goal

pub returns-in_default : goal.returns-in_default
returns-in_default c =
    let a = c.args in
    complete-wrong-length a.memory.now a.rings.now a.port a.tag a.serial a.res c.ranges.res c.in_default.ensures.cases

pub returns-in_err-k : goal.returns-in_err-k
returns-in_err-k c =
    let a = c.args in
    let p = err_from_is_err_and c.from_residual.result c.from_residual.ensures.1 in
    let whole = c.in-Some.ensures.cases in
    rw (p.1, p.2, whole.same)
    (complete-unused a.memory.now a.rings.now a.port a.tag a.serial a.res c.ranges.res whole.long _ c.in_err-k.ensures)

pub complete_named-requires : goal.complete_named-requires
complete_named-requires c = rw c.in_ok-k.ensures.0 (in-use (backend_of c.args.memory.now) c.args.port c.in_ok-k.ensures.1).opened

pub returns : goal.returns
returns c =
    let a = c.args in
    subst
    (λ (rings : List ℕ). Promised a.memory.now (Complete rings a.port (the_one a.tag a.serial a.res))
    (record { rings = c.complete_named.new.rings; answer = of_one c.complete_named.result }) c.complete_named.new.memory)
    c.in-Some.ensures.cases.same (rw (to_z-of_z w32 a.res c.ranges.res, c.in_ok-k.ensures.0) at c.complete_named.ensures)
