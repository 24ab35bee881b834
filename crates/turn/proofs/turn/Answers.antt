-- `turn::turn` meets its promise: the part lent comes back in its place.
use Rattle.std.proofs.Common.{arith}
use Rattle.wire.specs.Part.{part, set_part}
use Rattle.turn.proofs.Ends.{within}
use Rattle.turn.proofs.turn.Goals as goal

pub returns : goal.returns
unfolding part set_part
returns c =
    let a = c.args in
    within a.memory.now a.rings.now a.grants.now a.answer.now _ _ c.turn_into.result c.turn_into.new.words (omega arith) (omega arith) c.turn_into.ensures
