-- `texts::is_text` meets its contract. The invariant: what is left of the two texts is the same if all is. Assumes nothing.
use Rattle.std.proofs.Common.{◌≡◌}
use Rattle.model.specs.Base.{same}
use Rattle.texts.proofs.is_text.Given as goal
use lib.ListN.{drop}

abbrev pub invariant-loop-i : goal.invariant-loop-i
invariant-loop-i l = same (drop l.i l.text) (drop l.i l.asked) ≡ same l.text l.asked
