use Rattle.kernelharp.proofs.Returns.{turn-returned}
use Rattle.kernelharp.proofs.turning.kh_turn.Goals as goal

pub returns : goal.returns
returns c =
    let a = c.args in
    turn-returned a.memory.now a.rings.now a.grants.now a.answer.now _ _ _ _ _ _ c.turn-turned.ensures c.put_turned.ensures
