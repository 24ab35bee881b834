-- `decimal::by_eights` meets its contract. The invariant: what is left to read, after what is read so far, is the whole. Assumes nothing.
use Rattle.std.proofs.Common.{◌≡◌, ◌*◌, ◌^◌, ◌<◌}
use Rattle.decimal.specs.Digits.{digits_after}
use Rattle.decimal.proofs.by_eights.Given as goal
use lib.ListN.{drop}

abbrev pub invariant-loop-eight : goal.invariant-loop-eight
invariant-loop-eight l = record {
  left : digits_after l.value (drop (8 * l.eight-index) l.text) ≡ digits_after l.a l.text;
  big : digits_after (2 ^ 64) (drop (8 * l.eight-index) l.text) ≡ digits_after (2 ^ 64) l.text;
  fits : l.value < 2 ^ 64;
}
