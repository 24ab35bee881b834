-- `memory::port::set_produced` meets its contract: the word put is the field's (Changes).
use native.Mathlib.Omega.{arith}
use Rattle.memory.proofs.Changes.{produced-put}
use Rattle.memory.proofs.port.set_produced.Goals as goal

pub returns : goal.returns
returns c =
    let a = c.args in
    rw c.put_field.ensures (produced-put a.m.now (omega arith) a.k.index (omega arith) a.v (omega arith))
