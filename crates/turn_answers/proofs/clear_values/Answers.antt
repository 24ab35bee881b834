-- `turn_answers::clear_values` meets its contract: zeros in front and at the end (Words).
use native.Mathlib.Omega.{arith}
use lib.ListN.{length-take, length-drop, length-append}
use Rattle.turn_answers.proofs.Words.{cleared}
use Rattle.turn_answers.proofs.clear_values.Goals as goal

pub returns : goal.returns
returns c =
    cleared c.args.answer.now c.fill.new.self c.fill-2.new.self _ _ (omega arith) (simp length-take (omega arith))
    (simp (length-take, length-drop, length-append) (omega (arith, simp length-take at c.fill.ensures.len)))
    (c.fill.ensures.after (λ y h. h)) (c.fill-2.ensures.after (λ y h. h))
