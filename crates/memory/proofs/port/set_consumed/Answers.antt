-- `memory::port::set_consumed` meets its contract: the word put is the field's (Changes).
use native.Mathlib.Omega.{arith}
use Rattle.memory.proofs.Changes.{consumed-put}
use Rattle.memory.proofs.port.set_consumed.Goals as goal

pub returns : goal.returns
returns c =
    let a = c.args in
    rw c.put_field.ensures (consumed-put a.m.now (omega arith) a.k.index (omega arith) a.v (omega arith))
