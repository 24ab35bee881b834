-- `texts::is_text` meets its contract. The invariant: what is left of the two texts is the same if all is. Assumes nothing.
use Rattle.texts.proofs.is_text.Goals as goal
use mathlib.Core.Path.{◌∙◌}
use native.Mathlib.Omega.{arith}
use Rattle.texts.proofs.Texts.{same_length, same-on, same_stop, same-done}

pub returns-then-text-asked : goal.returns-then-text-asked
returns-then-text-asked c =
    same_length c.args.text.now c.args.asked.now c.if-text-asked.true

pub returns-then-text-i : goal.returns-then-text-i
returns-then-text-i c =
    same_stop c.args.text.now c.args.asked.now c.loop-i.i (omega arith) (omega arith) c.if-text-i.true ∙ c.loop-i.invariant

pub loop-i-preserved : goal.loop-i-preserved
loop-i-preserved c =
    same-on c.args.text.now c.args.asked.now c.loop-i.i (omega arith) (omega arith) c.if-text-i.false ∙ c.loop-i.invariant

pub returns : goal.returns
returns c =
    same-done c.args.text.now c.args.asked.now c.loop-i.i (omega arith) (omega arith) ∙ c.loop-i.invariant
