-- `memory::set_pointer` meets its contract: the word put is the pointer's (Changes).
use native.Mathlib.Omega.{arith}
use Rattle.memory.specs.Words.{set_pointer}
use Rattle.memory.proofs.Changes.{pointer-put}
use Rattle.memory.proofs.set_pointer.Goals as goal

pub returns : goal.returns
unfolding set_pointer
returns c =
    let a = c.args in
    rw c.get.ensures (pointer-put a.m.now (omega arith) a.k.index (omega arith))
