-- `decimal::read_too_big` meets its contract. The invariant: what is left to read says what the whole says. Assumes nothing.
use Rattle.std.proofs.Common.{◌≡◌, ◌*◌, ◌^◌}
use Rattle.decimal.specs.Digits.{digits_after}
use Rattle.decimal.proofs.read_too_big.Given as goal
use lib.ListN.{drop}

abbrev pub invariant-loop-more : goal.invariant-loop-more
invariant-loop-more l = digits_after (2 ^ 64) (drop (8 * l.more-index) l.text) ≡ digits_after (2 ^ 64) l.text
