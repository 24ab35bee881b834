-- A discard has no extents.
use Rattle.request.proofs.Asked.{discard_front}
use Rattle.request.proofs.decide.Goals as goal

pub returns-then-operation-clause-front : goal.returns-then-operation-clause-front
returns-then-operation-clause-front c =
    let a = c.args in
    discard_front a.params a.slot.now a.grants.now a.words.now c.decide_discard.result (c.decide_discard.ensures a.grants.now) c.if-operation.true
