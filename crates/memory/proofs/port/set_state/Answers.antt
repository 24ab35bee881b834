-- `memory::port::set_state` meets its contract: the word put is the state's (Changes).
use native.Mathlib.Omega.{arith}
use Rattle.memory.proofs.Changes.{state-put}
use Rattle.memory.proofs.port.set_state.Goals as goal

pub returns : goal.returns
returns c =
    let a = c.args in
    rw (c.put_field.ensures) (state-put a.m.now (omega arith) a.k.index (omega arith) a.s)
