use Rattle.std.proofs.Common.{arith}
use Rattle.kernelharp.proofs.Returns.{many-returned}
use Rattle.kernelharp.proofs.listing.kh_complete_many.Goals as goal

pub returns : goal.returns
returns c =
    let a = c.args in
    many-returned a.memory.now a.rings.now a.port a.entries.now a.answer.now _ _ _ c.complete_many-completed.result _ _ (omega arith) c.complete_many-completed.ensures c.put_many.ensures
