-- `memory::port::set_busy_marks` meets its contract: the word put is the marks (Changes).
use native.Mathlib.Omega.{arith}
use Rattle.memory.proofs.Changes.{busy-put}
use Rattle.memory.proofs.port.set_busy_marks.Goals as goal

pub returns : goal.returns
returns c =
    let a = c.args in
    rw c.put_field.ensures (busy-put a.m.now (omega arith) a.k.index (omega arith) a.marks)
