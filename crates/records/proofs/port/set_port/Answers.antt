-- `records::port::set_port` meets its contract: the run of the port's words is the port put (memory's Changes).
use native.Mathlib.Omega.{arith}
use Rattle.memory.specs.Words.{set_port}
use Rattle.memory.proofs.Changes.{port-put}
use Rattle.records.proofs.port.set_port.Goals as goal

pub returns : goal.returns
unfolding set_port
returns c =
    let a = c.args in
    rw (c.put_run.ensures, c.get.ensures, c.words_of.ensures)
    (port-put a.m.now (omega arith) a.k.index (omega arith) a.p (record { consumed = omega arith; produced = omega arith }))
